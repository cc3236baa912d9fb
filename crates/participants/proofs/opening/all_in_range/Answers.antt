use Rattle.std.proofs.Common.{sym, ◌∙◌, rules, tests}
use Rattle.std.proofs.lemmas.Iterator.{YieldsList-from_slice}
use Rattle.std.proofs.lemmas.Iterator.Search.{all_from_yields_List}
use Rattle.bounded.proofs.Words.{every_word}
use Rattle.participants.specs.Opening.{in_range}
use Rattle.participants.proofs.opening.all_in_range.Goals as goal

pub returns : goal.returns
returns c = let xs = c.args.cells.now in all_from_yields_List in_range _ _ _ c.all.ensures.ran (YieldsList-from_slice xs cc) (λ x b q k. search (rules, tests)) ∙ sym (every_word in_range xs)
