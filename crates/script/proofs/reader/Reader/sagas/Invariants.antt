use Rattle.std.proofs.Common.{◌≡◌, [], length, vec_items}
use Rattle.tokens.specs.Cursors.{remaining}
use Rattle.grammar.specs.Machine.{at}
use Rattle.grammar.specs.Machine as machine
use Rattle.script.specs.Meets.{goes}
use Rattle.grammar.specs.Lists.{lists_of, sagas_of}
use Rattle.script.proofs.reader.Reader.sagas.Given as goal

abbrev pub invariant-loop-sagas : goal.invariant-loop-sagas
invariant-loop-sagas l =
    goes (at (lists_of l.site) [] machine.sagas) l.fn.self.cursor
    ≡ goes (at (lists_of l.site) (sagas_of (vec_items l.sagas)) machine.sagas) l.self.cursor

abbrev pub decreases-loop-sagas : goal.decreases-loop-sagas
decreases-loop-sagas l = length (remaining l.self.cursor)
