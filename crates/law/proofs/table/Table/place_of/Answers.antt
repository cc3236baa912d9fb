use Rattle.std.proofs.Common.{map, ap, ◌∙◌}
use Rattle.bounded.specs.Firsts.{place}
use Rattle.law.specs.Sagas.{of_saga}
use Rattle.law.specs.Tables.{open_of}
use Rattle.law.proofs.table.Table.place_of.Goals as goal

pub returns : goal.returns
returns g c = c.find_in.ensures ∙ ap (λ l. place (of_saga c.args.saga) (map open_of l)) c.as_slice.ensures
