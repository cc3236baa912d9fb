use Rattle.std.proofs.Common.{◌≡◌, length}
use Rattle.participants.specs.Opening.{numbers_once}
use Rattle.participants.proofs.opening.numbered_once.Given as goal

abbrev pub invariant-loop-cell : goal.invariant-loop-cell
invariant-loop-cell l = numbers_once l.rest ≡ numbers_once l.cells

abbrev pub decreases-loop-cell : goal.decreases-loop-cell
decreases-loop-cell l = length l.rest
