use Rattle.std.proofs.Common.{take, is_ok, ap, arith}
use Rattle.std.proofs.lemmas.List.{take_all, length-take-le}
use Rattle.std.proofs.lemmas.Result.{err_from_is_err_and}
use Rattle.bounded.proofs.Fronts.{held_fits}
use Rattle.site.proofs.Listings.{cells_length, cells_more}
use Rattle.site.proofs.listing.cells_of.Goals as goal

pub returns-in_err-push : goal.returns-in_err-push
returns-in_err-push g c =
    let e = err_from_is_err_and c.from_residual.result c.from_residual.ensures.1 in
    let full = ap is_ok c.in_err-push.was in
    let n = cells_length g.L.Listed.cell 1 (take c.loop-i.i c.args.list.now) in
    let m = length-take-le c.loop-i.i c.args.list.now (omega (arith, c.loop-i-test.true)) in
    rw (e.1, e.2) (grind (arith, c.push.ensures.answer, c.loop-i.invariant, c.loop-i-test.true))

pub loop-i-preserved : goal.loop-i-preserved
loop-i-preserved g c =
    let more = cells_more g.L.Listed.cell c.args.list.now c.loop-i.i c.index-list-i.result (omega (arith, c.loop-i-test.true)) in
    let room = ap is_ok c.in_ok-push.was in
    grind (arith, c.push.ensures.after, c.push.ensures.answer, c.loop-i.invariant, c.cell.ensures, c.index-list-i.is)

pub returns : goal.returns
returns g c =
    let all = take_all c.loop-i.i c.args.list.now c.loop-i-test.false in
    let n = cells_length g.L.Listed.cell 1 c.args.list.now in
    let room = held_fits c.loop-i.cells in
    grind (arith, c.loop-i.invariant)
