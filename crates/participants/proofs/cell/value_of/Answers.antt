use Rattle.std.proofs.Common.{eqb, option_map, ap, sym, ◌∙◌, rules, tests}
use Rattle.std.proofs.lemmas.Iterator.{YieldsList-from_slice}
use Rattle.std.proofs.lemmas.Iterator.Search.{find_from_yields_List}
use Rattle.participants.specs.declared.cell.Cell.{Cell}
use Rattle.participants.proofs.Cells.{value_word}
use Rattle.participants.proofs.cell.value_of.Goals as goal

pub returns-in_err-cell : goal.returns-in_err-cell
returns-in_err-cell c =
    let xs = c.args.cells.now in
    let is = find_from_yields_List (λ (x : Cell). eqb x.number c.args.number) _ _ c.find.result c.find.ensures.ran (YieldsList-from_slice xs cc) (λ x b q k. search (rules, tests)) in
    let none = rw c.in_err-cell.was at is in
    c.from_residual.ensures ∙ ap (option_map (λ (x : Cell). x.value)) none ∙ sym (value_word c.args.number xs)

pub returns : goal.returns
returns c =
    let xs = c.args.cells.now in
    let is = find_from_yields_List (λ (x : Cell). eqb x.number c.args.number) _ _ c.find.result c.find.ensures.ran (YieldsList-from_slice xs cc) (λ x b q k. search (rules, tests)) in
    let some = rw c.in_ok-cell.was at is in
    ap (option_map (λ (x : Cell). x.value)) some ∙ sym (value_word c.args.number xs)
