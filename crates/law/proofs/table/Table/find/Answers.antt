use Rattle.std.proofs.Common.{◌≡◌, None, Some, sym, ap, ◌∙◌, rules}
use Rattle.std.specs.List.{slice_get}
use Rattle.std.specs.Option.{option_map}
use Rattle.bounded.specs.Held.{held}
use Rattle.bounded.proofs.Mapped.{first_not, first_at, place_held}
use Rattle.law.specs.Sagas.{of_saga}
use Rattle.law.specs.Tables.{open_of}
use Rattle.law.specs.Views.{view_of}
use Rattle.law.proofs.table.Table.find.Goals as goal

pub returns-in_default : goal.returns-in_default
returns-in_default g c =
    let q = of_saga c.args.saga in
    sym (ap (option_map view_of) (first_not q open_of (held c.args.self.now.rows) c.in_default.ensures))

pub returns : goal.returns
returns g c =
    let q = of_saga c.args.saga in
    ap Some c.seen.ensures ∙ sym (ap (option_map view_of) (first_at q open_of (held c.args.self.now.rows) c.in-Some.place c.in-Some.ensures c.in_ok-open.open c.in_ok-open.ensures))

pub returns-in_err-open : goal.returns-in_err-open
returns-in_err-open g c =
    let none : None ≡ slice_get (held c.args.self.now.rows) c.in-Some.place = search rules in
    absurd (place_held (of_saga c.args.saga) open_of (held c.args.self.now.rows) c.in-Some.place c.in-Some.ensures none)
