-- What a journal means, of the ghost members of its two traits.
use Rattle.journals.specs.declared.traits.JournalRead.{Ghosts as Reading}
use Rattle.journals.specs.declared.traits.Journal.{Ghosts as Journaling}
use Rattle.runner.specs.Worlds.{JournalMeans}

abbrev pub means : {J : Type 0} → Reading J → Journaling J → JournalMeans J
means reading journal = record { records = reading.records; capacity = journal.capacity; writes = journal.writes; lender = journal.lender }
