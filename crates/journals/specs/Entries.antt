-- The records of a journal that an iterator has still to give.
use Rattle.std.specs.Prelude.{◌-◌, List, take, drop}
use Rattle.record.specs.declared.Record.{Record}
use Rattle.journals.specs.declared.entries.Entries.{Entries}

abbrev pub entries_left : {J : Type 0} → (J → List Record) → Entries J → List Record
entries_left records s = take (s.places.end - s.places.start) (drop s.places.start (records s.journal.now))
