-- What is remembered of an open saga besides the journal: what its pending step came to, once its participant has been
-- called since the last restart.
use Rattle.std.specs.Prelude.{Option}
use Rattle.law.specs.Outcomes.{Outcome}

abbrev pub Memory : Type 0
Memory = Option Outcome
