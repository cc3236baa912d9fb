use Rattle.std.proofs.Common.{◌≡◌, take}
use Rattle.bounded.specs.Held.{held}
use Rattle.site.specs.Listing.{cells_from}
use Rattle.site.proofs.listing.cells_of.Given as goal

abbrev pub invariant-loop-i : goal.invariant-loop-i
invariant-loop-i g l = held l.cells ≡ cells_from g.L.Listed.cell 1 (take l.i l.list)
