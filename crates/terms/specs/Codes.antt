-- The number of each refusal of a participant.
use Rattle.std.specs.Prelude.{◌≡◌, ℕ, cond, Some, None, Option, Result, ok_or, ◌==◌}
use Rattle.terms.specs.declared.Refusal.{Refusal}
use Rattle.terms.specs.declared.Refusal.TheVariants.{Unfit, OtherRequest, Full, Short, Above}
use Rattle.terms.specs.declared.UnknownRefusal.{UnknownRefusal}

abbrev pub refusal_code : Refusal → ℕ
refusal_code Unfit = 40
refusal_code OtherRequest = 41
refusal_code Full = 42
refusal_code Short = 43
refusal_code Above = 44

-- the refusal of a number, if it has one
abbrev pub refusal_of : ℕ → Option Refusal
refusal_of n =
    cond (n == 40) (Some Unfit)
    (cond (n == 41) (Some OtherRequest)
    (cond (n == 42) (Some Full)
    (cond (n == 43) (Some Short)
    (cond (n == 44) (Some Above)
    None))))

-- the refusal of a number, or the number that has none
abbrev pub refusal_read : ℕ → Result Refusal UnknownRefusal
refusal_read n = ok_or (refusal_of n) (record { 0 = n })

-- a refusal and its number name each other
pub record CodesNameRefusals : Type 0 where
  pub there : (r : Refusal) → refusal_of (refusal_code r) ≡ Some r
  pub back : (n : ℕ) (r : Refusal) → refusal_of n ≡ Some r → refusal_code r ≡ n
