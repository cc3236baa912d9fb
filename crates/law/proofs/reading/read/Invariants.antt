use Rattle.std.proofs.Common.{◌≡◌}
use Rattle.std.specs.Iterator.Adapters.{enumerate_count, enumerate_source}
use Rattle.journals.specs.Entries.{entries_left}
use Rattle.law.specs.Sagas.{reading, read_from}
use Rattle.law.specs.Tables.{sagas_of}
use Rattle.law.proofs.reading.read.Given as goal

-- what is left of the records, read on from here, gives the whole reading
abbrev pub invariant-loop-place : goal.invariant-loop-place
invariant-loop-place g l =
    (goal.iterator-loop-place g).can_next l.place-iterator × (goal.iterator-loop-place g).is_finite l.place-iterator
    × (reading l.participants l.note (g.J.JournalRead.records l.journal) ≡ read_from l.participants l.note (enumerate_count l.place-iterator) (sagas_of l.table) (entries_left g.J.JournalRead.records (enumerate_source l.place-iterator)))
