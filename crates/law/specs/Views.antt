-- What is read of an open saga.
use Rattle.std.specs.Prelude.{ℕ, length, Option}
use Rattle.std.specs.Option.{option_map}
use Rattle.bounded.specs.Firsts.{first}
use Rattle.law.specs.declared.table.View.{View}
use Rattle.law.specs.Law.{Saga}
use Rattle.law.specs.Sagas.{Sagas, of_saga}

abbrev pub view_of : {V : Type 0} → Saga × V → View V
view_of x = record { phase = x.0.phase; last = x.0.last; marks = length x.0.marks; outcome = x.0.outcome; note = x.1 }

abbrev pub view : {V : Type 0} → ℕ → Sagas V → Option (View V)
view s t = option_map view_of (first (of_saga s) t.rows)
