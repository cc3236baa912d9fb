use Rattle.std.proofs.Common.{eqb, sym, ◌∙◌, rules, tests}
use Rattle.std.proofs.lemmas.Iterator.{YieldsList-from_slice}
use Rattle.std.proofs.lemmas.Iterator.Search.{any_from_yields_List}
use Rattle.bounded.proofs.Words.{any_word}
use Rattle.participants.specs.declared.cell.Cell.{Cell}
use Rattle.participants.proofs.cell.has_cell.Goals as goal

pub returns : goal.returns
returns c =
    let xs = c.args.cells.now in
    any_from_yields_List (λ (x : Cell). eqb x.number c.args.number) _ _ _ c.any.ensures.ran (YieldsList-from_slice xs cc) (λ x b q k. search (rules, tests)) ∙ sym (any_word (λ (x : Cell). eqb x.number c.args.number) xs)
