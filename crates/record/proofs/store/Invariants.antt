use Rattle.std.proofs.Common.{◌≡◌, ◌+◌, [], ◌∷◌, ◌++◌, drop, slice_index}
use Rattle.record.specs.Writes.{write, rising, written, slot_writes}
use Rattle.record.proofs.store.Given as goal

-- the writes that are left give what all of them give from the start
abbrev pub invariant-loop-i : goal.invariant-loop-i
invariant-loop-i g l =
    written g.W.ByteWriter.wrote g.W.ByteWriter.next l.writer (rising (l.i + 1) (drop l.i l.byte-items) ++ (write 0 (slice_index l.image 0) ∷ [])) l.slot
    ≡ written g.W.ByteWriter.wrote g.W.ByteWriter.next l.initial.writer (slot_writes l.image) l.initial.slot
