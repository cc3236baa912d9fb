use Rattle.std.proofs.Common.{◌≡◌, map, take}
use Rattle.bounded.specs.Held.{held}
use Rattle.terms.specs.Verbs.{verb_number}
use Rattle.site.proofs.kinds.numbers_of.Given as goal

abbrev pub invariant-loop-verb : goal.invariant-loop-verb
invariant-loop-verb l = held l.numbers ≡ map verb_number (take l.verb-index l.verbs)
