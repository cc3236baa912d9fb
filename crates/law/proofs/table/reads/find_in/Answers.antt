use Rattle.std.proofs.Common.{◌∙◌, rules, tests}
use Rattle.std.proofs.lemmas.Iterator.{YieldsList-from_slice}
use Rattle.std.proofs.lemmas.Iterator.Adapters.{position_from-zero}
use Rattle.std.proofs.lemmas.Iterator.Search.{position_from_yields_List}
use Rattle.law.specs.Sagas.{of_saga}
use Rattle.law.specs.Tables.{open_of}
use Rattle.law.proofs.Searched.{placed_from}
use Rattle.law.proofs.table.reads.find_in.Goals as goal

pub returns : goal.returns
returns g c =
    let q = of_saga c.args.saga in
    position_from_yields_List (λ x. q (open_of x)) _ _ c.position.result c.position.ensures.ran (YieldsList-from_slice c.args.rows.now cc) (λ x b q k. search (rules, tests))
    ∙ position_from-zero (λ x. q (open_of x)) c.args.rows.now
    ∙ placed_from q open_of 0 c.args.rows.now
