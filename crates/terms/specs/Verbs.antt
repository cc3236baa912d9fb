-- The number of each verb of a participant.
use Rattle.std.specs.Prelude.{◌≡◌, ℕ, cond, Some, None, Option, Result, ok_or, ◌==◌}
use Rattle.terms.specs.declared.Verb.{Verb}
use Rattle.terms.specs.declared.Verb.TheVariants.{Claim, Return, Move, Hang, Lift}
use Rattle.terms.specs.declared.UnknownVerb.{UnknownVerb}

abbrev pub verb_number : Verb → ℕ
verb_number Claim = 1
verb_number Return = 2
verb_number Move = 3
verb_number Hang = 4
verb_number Lift = 5

-- the verb of a number, if it has one
abbrev pub verb_of : ℕ → Option Verb
verb_of n =
    cond (n == 1) (Some Claim)
    (cond (n == 2) (Some Return)
    (cond (n == 3) (Some Move)
    (cond (n == 4) (Some Hang)
    (cond (n == 5) (Some Lift)
    None))))

-- the verb of a number, or the number that has none
abbrev pub verb_read : ℕ → Result Verb UnknownVerb
verb_read n = ok_or (verb_of n) (record { 0 = n })

-- a verb and its number name each other
pub record NumbersNameVerbs : Type 0 where
  pub there : (v : Verb) → verb_of (verb_number v) ≡ Some v
  pub back : (n : ℕ) (v : Verb) → verb_of n ≡ Some v → verb_number v ≡ n
