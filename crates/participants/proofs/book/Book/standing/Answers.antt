use Rattle.std.proofs.Common.{sym, ◌∙◌, rules, tests}
use Rattle.std.proofs.lemmas.Iterator.{YieldsList-from_slice}
use Rattle.std.proofs.lemmas.Iterator.Search.{find_from_yields_List}
use Rattle.bounded.specs.Held.{held}
use Rattle.bounded.proofs.Words.{first_word}
use Rattle.participants.specs.Party.{is_key}
use Rattle.participants.proofs.book.Book.standing.Goals as goal

pub returns : goal.returns
returns g c =
    let es = held c.args.self.now.entries in
    c.copied.ensures ∙ find_from_yields_List (is_key c.args.key) _ _ c.find.result c.find.ensures.ran (YieldsList-from_slice es cc) (λ x b q k. search (rules, tests)) ∙ sym (first_word (is_key c.args.key) es)
