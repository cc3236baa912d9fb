use Rattle.std.proofs.Common.{◌≡◌, ◌-◌, List, vec_items}
use Rattle.grammar.specs.Machine.{Layout, SagaItems, at, heading, more}
use Rattle.script.specs.Meets.{goes}
use Rattle.script.proofs.reader.Reader.cells.Given as goal

abbrev pub invariant-loop : goal.invariant-loop
invariant-loop l =
    (y : Layout) (d : List SagaItems) →
    goes (at y d (heading l.fn.section)) l.fn.self.cursor ≡ goes (more y d l.fn.section (l.count - l.counter) (vec_items l.cells)) l.self.cursor
