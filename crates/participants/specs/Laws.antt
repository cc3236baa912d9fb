-- What a participant promises of its cells, from the test that a book keeps true.
use Rattle.std.specs.Prelude.{◌≡◌, ◌+◌, ◌≤◌, true, List, [], ◌∷◌}
use Rattle.std.specs.List.{AllByRecursion}
use Rattle.std.proofs.lemmas.Bool.{and_parts, leb-true}
use Rattle.bounded.specs.Firsts.{every}
use Rattle.terms.specs.declared.Entry.{Entry}
use Rattle.participants.specs.declared.cell.Cell.{Cell}
use Rattle.participants.specs.Effects.{taken, given}
use Rattle.participants.specs.Party.{Party, within_ceiling, within_ceilings, KeepsCeilings}

pub record Within (es : List Entry) (x : Cell) : Type 0 where
  pub low : x.value + (taken x.number es + given x.number es) ≤ x.ceiling
  pub small : x.ceiling ≤ 1000000

pub within : (es : List Entry) (x : Cell) → within_ceiling es x ≡ true → Within es x
within es x h = let p = and_parts _ _ h in record { low = leb-true _ _ p.0; small = leb-true _ _ p.1 }

pub keeps : (p : Party) → within_ceilings p.cells p.entries ≡ true → KeepsCeilings p
unfolding within_ceilings
keeps p w = go p.cells w
  where
    go : (cells : List Cell) → every (within_ceiling p.entries) cells ≡ true → AllByRecursion (λ x. (x.value + (taken x.number p.entries + given x.number p.entries) ≤ x.ceiling) × (x.ceiling ≤ 1000000)) cells
    go [] w = tt
    go (x ∷ cells) w = let a = and_parts _ _ w in let k = within p.entries x a.0 in ((k.low, k.small), go cells a.1)
