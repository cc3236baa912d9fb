use Rattle.std.proofs.Common.{◌+◌, ◌∙◌, arith, rules, tests}
use Rattle.std.proofs.lemmas.Iterator.{YieldsList-from_slice, YieldsList-from_map}
use Rattle.std.proofs.lemmas.Iterator.Adapters.{fits_from_length, at_most_from_yields_List}
use Rattle.std.proofs.lemmas.Iterator.Consumers.{sum_by_from_yields_List}
use Rattle.bounded.specs.Held.{held}
use Rattle.bounded.proofs.Fronts.{held_fits}
use Rattle.terms.specs.declared.Entry.{Entry}
use Rattle.participants.specs.Effects.{takes, gives}
use Rattle.participants.proofs.Cells.{sum_both}
use Rattle.participants.proofs.book.Book.committed.Goals as goal

pub sum-requires-clause-fits : goal.sum-requires-clause-fits
sum-requires-clause-fits g c =
    fits_from_length _ _ 64 _ (at_most_from_yields_List (YieldsList-from_slice (held c.args.self.now.entries) cc) (held_fits c.args.self.now.entries)) c.map.ensures.closure (omega arith) (λ x r q k. search (rules, tests))

pub returns : goal.returns
returns g c =
    let es = held c.args.self.now.entries in
    let n = c.args.cell in
    sum_by_from_yields_List (λ (e : Entry). takes n e.request + gives n e.request) es c.map.result _ c.sum.ensures.ran (YieldsList-from_map _ (λ (e : Entry). takes n e.request + gives n e.request) (YieldsList-from_slice es cc) c.map.ensures.closure (λ x r q k. search (rules, tests)))
    ∙ sum_both (λ (e : Entry). takes n e.request) (λ (e : Entry). gives n e.request) es
