-- What became of the last step that was issued and answered: it is done, or refused for a cause.
use Rattle.std.specs.Prelude.{Result}
use Rattle.terms.specs.declared.Refusal.{Refusal}

abbrev pub Outcome : Type 0
Outcome = Result (Unit {0}) Refusal
