use Rattle.std.proofs.Common.{◌≡◌, ◌-◌, ◌≤◌, List, length}
use Rattle.tokens.specs.Cursors.{remaining}
use Rattle.grammar.specs.Machine.{SagaItems, Part, at}
use Rattle.grammar.specs.Machine as machine
use Rattle.script.specs.Meets.{goes, drafted}
use Rattle.grammar.specs.Lists.{lists_of}
use Rattle.script.proofs.items.+items.Given as goal

abbrev pub decreases-items : goal.decreases-items
decreases-items l = l.depth

abbrev pub invariant-loop-verb : goal.invariant-loop-verb
invariant-loop-verb l =
    (length (remaining l.cursor) ≤ length (remaining l.initial.cursor))
    × ((d : List SagaItems) (ps : List Part) → 8 - length ps ≡ l.depth →
    goes (at (lists_of l.site) d (machine.items (drafted l.initial.draft ps))) l.initial.cursor
    ≡ goes (at (lists_of l.site) d (machine.items (drafted l.draft ps))) l.cursor)

abbrev pub decreases-loop-verb : goal.decreases-loop-verb
decreases-loop-verb l = length (remaining l.cursor)
