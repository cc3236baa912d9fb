-- The cells that a participant is opened on.
use Rattle.std.proofs.Common.{◌≡◌, true, List, [], ◌∷◌, refl, arith}
use Rattle.std.proofs.lemmas.Bool.{and_parts, and_from, le-leb, leb-true}
use Rattle.bounded.specs.Firsts.{every}
use Rattle.participants.specs.declared.cell.Cell.{Cell}
use Rattle.participants.specs.Party.{within_ceilings}
use Rattle.participants.specs.Opening.{in_range}

-- with nothing standing, a cell in range is within its ceiling
pub opened_sound : (xs : List Cell) → every in_range xs ≡ true → within_ceilings xs [] ≡ true
unfolding within_ceilings
opened_sound [] h = refl
opened_sound (x ∷ xs) h =
    let a = and_parts _ _ h in
    let b = and_parts _ _ a.0 in
    let v = leb-true x.value x.ceiling b.0 in
    and_from _ _ (and_from _ _ (le-leb _ _ (omega arith)) b.1) (opened_sound xs a.1)
