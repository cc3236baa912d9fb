use Rattle.std.proofs.Common.{◌≡◌, true, false, cond, Ok, Err, sym, ap, ◌∙◌, rules}
use Rattle.participants.specs.declared.answer.Accepted.TheVariants.{Already}
use Rattle.terms.specs.declared.Refusal.TheVariants.{OtherRequest}
use Rattle.participants.specs.Party.{Answer, same_request}
use Rattle.participants.specs.Books.{book_party}
use Rattle.participants.proofs.Judged.{standing_judged, new_judged}
use Rattle.participants.proofs.book.Book.judge.Goals as goal

pub returns-in-Some : goal.returns-in-Some
returns-in-Some g c =
    let s = c.in-Some.standing in
    let e = c.args.entry.now in
    let same : same_request s.request e.request ≡ true = search rules in
    sym (standing_judged (book_party c.args.self.now) e s (sym c.in-Some.ensures) ∙ ap (λ b. cond {A = Answer} b (Ok Already) (Err OtherRequest)) same)

pub returns-in-Some-2 : goal.returns-in-Some-2
returns-in-Some-2 g c =
    let s = c.in-Some.standing in
    let e = c.args.entry.now in
    let other : same_request s.request e.request ≡ false = search rules in
    sym (standing_judged (book_party c.args.self.now) e s (sym c.in-Some.ensures) ∙ ap (λ b. cond {A = Answer} b (Ok Already) (Err OtherRequest)) other)

pub returns-in-None : goal.returns-in-None
returns-in-None g c = c.judge_new.ensures ∙ sym (new_judged (book_party c.args.self.now) c.args.entry.now (sym c.in-None.ensures))
