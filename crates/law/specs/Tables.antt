-- What a table means.
use Rattle.std.specs.Prelude.{ℕ, map, Ok, Err, Result}
use Rattle.bounded.specs.Held.{held}
use Rattle.law.specs.declared.table.Open.{Open}
use Rattle.law.specs.declared.table.Table.{Table}
use Rattle.law.specs.Law.{Saga}
use Rattle.law.specs.Means.{saga_of}
use Rattle.law.specs.Sagas.{Sagas, sagas}

abbrev pub open_of : {V : Type 0} → Open V → Saga × V
open_of o = (saga_of o.row, o.note)

abbrev pub sagas_of : {V : Type 0} → Table V → Sagas V
sagas_of t = sagas t.top (map open_of (held t.rows))

-- what a reading answers: the table, or an index
abbrev pub table_read : {V : Type 0} → Result (Table V) ℕ → Result (Sagas V) ℕ
table_read (Ok t) = Ok (sagas_of t)
table_read (Err i) = Err i
