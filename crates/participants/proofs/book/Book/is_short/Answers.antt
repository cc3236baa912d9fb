use Rattle.std.proofs.Common.{sym, ◌∙◌, rules, tests}
use Rattle.std.proofs.lemmas.Iterator.{YieldsList-from_slice}
use Rattle.std.proofs.lemmas.Iterator.Search.{any_from_yields_List}
use Rattle.bounded.specs.Held.{held}
use Rattle.bounded.proofs.Words.{any_word}
use Rattle.participants.specs.Party.{short}
use Rattle.participants.proofs.book.Book.is_short.Goals as goal

pub returns : goal.returns
returns g c =
    let xs = held c.args.self.now.cells in
    let test = short c.args.q.now in
    any_from_yields_List test _ _ _ c.any.ensures.ran (YieldsList-from_slice xs cc) (λ x b q k. search (rules, tests)) ∙ sym (any_word test xs)
