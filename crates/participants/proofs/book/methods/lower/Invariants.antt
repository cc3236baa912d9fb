use Rattle.std.proofs.Common.{◌≡◌, ◌++◌, map, take, drop}
use Rattle.bounded.specs.Held.{held}
use Rattle.participants.specs.Party.{lowered}
use Rattle.participants.proofs.book.methods.lower.Given as goal

abbrev pub invariant-loop-i : goal.invariant-loop-i
invariant-loop-i g l = held l.cells ≡ map (lowered l.q) (take l.i (held l.initial.cells)) ++ drop l.i (held l.initial.cells)
