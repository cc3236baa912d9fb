use Rattle.std.proofs.Common.{◌≡◌, ◌-◌, List, vec_items}
use Rattle.grammar.specs.Machine.{Layout, SagaItems, at, tags_heading, more_tags}
use Rattle.script.specs.Meets.{goes}
use Rattle.script.proofs.reader.Reader.tags.Given as goal

abbrev pub invariant-loop : goal.invariant-loop
invariant-loop l =
    (y : Layout) (d : List SagaItems) →
    goes (at y d tags_heading) l.fn.self.cursor ≡ goes (more_tags y d (l.count - l.counter) (vec_items l.tags)) l.self.cursor
