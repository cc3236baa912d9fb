use Rattle.std.proofs.Common.{Bool, List, Ok, vec_items, sym, refl, ap, ◌∙◌}
use Rattle.std.proofs.lemmas.List.{map_push}
use Rattle.grammar.specs.Machine.{SagaItems, at}
use Rattle.grammar.specs.Machine as machine
use Rattle.script.specs.Meets.{goes}
use Rattle.grammar.specs.Lists.{lists_of, items_of, sagas_of}
use Rattle.script.proofs.Steps.{passed, finish}
use Rattle.script.proofs.Wholes.{more, neither, ends}
use Rattle.script.proofs.reader.Reader.sagas.Goals as goal

pub returns-in_err-saga_begins : goal.returns-in_err-saga_begins
returns-in_err-saga_begins c =
    passed c.from_residual.ensures.1 c.loop-sagas.invariant
    (neither (lists_of c.args.site.now) (sagas_of (vec_items c.loop-sagas.sagas)) c.in_err-saga_begins.ensures.took)

pub returns-in_err-next : goal.returns-in_err-next
returns-in_err-next c =
    let d = sagas_of (vec_items c.loop-sagas.sagas) in
    passed c.from_residual-in_err-next.ensures.1
    (c.loop-sagas.invariant ∙ more (lists_of c.args.site.now) d c.if-branch.true c.in_ok-saga_begins.ensures.took)
    (finish refl (c.in_err-next.ensures.reads d))

pub loop-sagas-preserved : goal.loop-sagas-preserved
loop-sagas-preserved c =
    let l = lists_of c.args.site.now in
    let d = sagas_of (vec_items c.loop-sagas.sagas) in
    c.loop-sagas.invariant
    ∙ more l d c.if-branch.true c.in_ok-saga_begins.ensures.took
    ∙ (c.in_ok-next.ensures.reads d).met
    ∙ ap (λ (ss : List SagaItems). goes (at l ss machine.sagas) c.saga.new.self.cursor)
    (sym (ap sagas_of c.in_ok-push.ensures.items ∙ map_push items_of (vec_items c.loop-sagas.sagas) c.in_ok-next.next))

pub returns : goal.returns
returns c = record {
  met =
      c.loop-sagas.invariant
      ∙ ends (lists_of c.args.site.now) (sagas_of (vec_items c.loop-sagas.sagas)) c.loop-sagas.self.cursor (c.in_ok-saga_begins.ensures.ended (ap (λ (b : Bool). Ok b) c.if-branch.false));
}
