-- The worked examples, by computation.
use Rattle.std.proofs.Common.{refl}
use Rattle.participants.specs.Party.{do_answer}
use Rattle.site.specs.Examples.{WorkedExamples}

pub examples : WorkedExamples
unfolding do_answer
examples =
    record {
      listed_group = refl;
      listed_tag = refl;
      claim_3 = (refl, refl);
      again = refl;
      other_request = refl;
      claim_4 = refl;
      return_1 = (refl, refl);
      return_1_settled = refl;
      return_2 = refl;
      other_saga = (refl, refl);
      undo_once = (refl, refl);
      undo_twice = (refl, refl);
      lift_own = refl;
    }
