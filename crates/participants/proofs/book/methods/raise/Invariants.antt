use Rattle.std.proofs.Common.{◌≡◌, ◌++◌, map, take, drop}
use Rattle.bounded.specs.Held.{held}
use Rattle.participants.specs.Party.{raised}
use Rattle.participants.proofs.book.methods.raise.Given as goal

abbrev pub invariant-loop-i : goal.invariant-loop-i
invariant-loop-i g l = held l.cells ≡ map (raised l.side l.q) (take l.i (held l.initial.cells)) ++ drop l.i (held l.initial.cells)
