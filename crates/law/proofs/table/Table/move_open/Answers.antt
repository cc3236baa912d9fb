use Rattle.std.proofs.Common.{◌≡◌, true, false, sym, refl, rules}
use Rattle.bounded.specs.Held.{held}
use Rattle.bounded.proofs.Mapped.{place_held}
use Rattle.law.specs.Means.{saga_of}
use Rattle.std.specs.Result.{is_ok}
use Rattle.law.specs.Law.{moved}
use Rattle.law.specs.Sagas.{of_saga}
use Rattle.law.specs.Tables.{open_of}
use Rattle.law.proofs.Tabled.{move_none, move_not, move_stays, move_leaves}
use Rattle.law.proofs.table.Table.move_open.Goals as goal

pub returns-in_default : goal.returns-in_default
returns-in_default g c =
    let s = c.args.self.now in
    move_none open_of c.args.participants s.top c.args.saga c.args.event (held s.rows) c.in_default.ensures

pub returns-in_default-get : goal.returns-in_default-get
returns-in_default-get g c = absurd (place_held (of_saga c.args.saga) open_of (held c.args.self.now.rows) c.in-Some.place c.in-Some.ensures c.in_default-get.ensures)

pub returns-in_err-apply : goal.returns-in_err-apply
returns-in_err-apply g c =
    let s = c.args.self.now in
    let went : (false, saga_of c.apply.new.self) ≡ moved c.args.participants (saga_of c.in-Some-get.open.row) c.args.event = search rules in
    let refused : is_ok c.from_residual.result ≡ false = search rules in
    rw refused (move_not open_of c.args.participants s.top c.args.saga c.args.event (held s.rows) c.in-Some.place c.in-Some-get.open c.in-Some.ensures c.in-Some-get.ensures (saga_of c.apply.new.self) went)

pub returns-then-is_open : goal.returns-then-is_open
returns-then-is_open g c =
    let s = c.args.self.now in
    let went : (true, saga_of c.apply.new.self) ≡ moved c.args.participants (saga_of c.in-Some-get.open.row) c.args.event = search rules in
    move_stays open_of c.args.participants s.top c.args.saga c.args.event (held s.rows) c.in-Some.place c.in-Some-get.open c.in-Some.ensures c.in-Some-get.ensures (saga_of c.apply.new.self) went
    (held c.set.new.self) (record { row = c.apply.new.self; note = c.in-Some-get.open.note }) (sym c.if-is_open.ensures) refl c.set.ensures.after

pub returns-else-is_open : goal.returns-else-is_open
returns-else-is_open g c =
    let s = c.args.self.now in
    let went : (true, saga_of c.apply.new.self) ≡ moved c.args.participants (saga_of c.in-Some-get.open.row) c.args.event = search rules in
    move_leaves open_of c.args.participants s.top c.args.saga c.args.event (held s.rows) c.in-Some.place c.in-Some-get.open c.in-Some.ensures c.in-Some-get.ensures (saga_of c.apply.new.self) went
    (held c.remove.new.self) (sym c.if-is_open.ensures) c.remove.ensures.after
