use Rattle.std.proofs.Common.{refl, ap}
use Rattle.bounded.specs.Held.{held}
use Rattle.bounded.proofs.Mapped.{place_held}
use Rattle.law.specs.Sagas.{sagas, of_saga}
use Rattle.law.specs.Tables.{open_of}
use Rattle.law.proofs.Tabled.{note_none, note_at}
use Rattle.law.proofs.table.Table.note.Goals as goal

pub returns-in_default : goal.returns-in_default
returns-in_default g c =
    let s = c.args.self.now in
    ap (sagas s.top) (note_none open_of c.args.saga c.args.note (held s.rows) c.in_default.ensures)

pub returns-in-Some-get : goal.returns-in-Some-get
returns-in-Some-get g c =
    let s = c.args.self.now in
    ap (sagas s.top) (note_at open_of c.args.saga c.args.note (held s.rows) c.in-Some.place c.in-Some-get.open (record { row = c.in-Some-get.open.row; note = c.args.note }) (held c.set.new.self) c.in-Some.ensures c.in-Some-get.ensures refl c.set.ensures.after)

pub returns-in_default-get : goal.returns-in_default-get
returns-in_default-get g c = absurd (place_held (of_saga c.args.saga) open_of (held c.args.self.now.rows) c.in-Some.place c.in-Some.ensures c.in_default-get.ensures)
