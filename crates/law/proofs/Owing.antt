-- What the rows owe together is at most 35 for each.
use Rattle.std.proofs.Common.{ℕ, ◌+◌, ◌*◌, ◌≤◌, eqb, List, [], ◌∷◌, map, length, sum_by, arith}
use Rattle.std.proofs.lemmas.Bool.{cond_both}
use Rattle.std.proofs.lemmas.List.Sums.{sum_by-cons}
use Rattle.bounded.specs.Held.{held}
use Rattle.law.specs.declared.event.Phase.{Phase}
use Rattle.law.specs.declared.event.Phase.TheVariants.{Running, Pending, Closed}
use Rattle.law.specs.declared.event.Aim.TheVariants.{Stepping, Retreating, Finishing}
use Rattle.law.specs.declared.row.Row.{Row}
use Rattle.law.specs.declared.table.Open.{Open}
use Rattle.law.specs.Coming.{coming}
use Rattle.law.specs.Law.{Saga, owes, owes_in}
use Rattle.law.specs.Means.{saga_of}
use Rattle.law.specs.Tables.{open_of}

phase_few : (p : Phase) (n l : ℕ) → l ≤ 32 → coming p + n ≤ l → owes_in p n ≤ 35
phase_few Running n l a b = omega arith
phase_few Closed n l a b = omega arith
phase_few (Pending Stepping t) n l a b = omega arith
phase_few (Pending (Retreating g d) t) n l a b = cond_both (eqb d 0) 0 1 (λ k. n + k ≤ 35) (λ _. omega arith) (λ _. omega arith)
phase_few (Pending Finishing t) n l a b = omega arith

row_few : (r : Row) → owes (saga_of r) ≤ 35
row_few r = phase_few r.phase (length (held r.standing)) r.last r.few r.room

pub rows_few : {V : Type 0} (xs : List (Open V)) → sum_by (λ (x : Saga × V). owes x.0) (map open_of xs) ≤ 35 * length xs
rows_few [] = omega arith
rows_few {V} (o ∷ xs) =
    let one = row_few o.row in
    let rest = rows_few xs in
    let sum = sum_by-cons (λ (x : Saga × V). owes x.0) (open_of o) (map open_of xs) in
    omega (arith, one, rest, sum)
