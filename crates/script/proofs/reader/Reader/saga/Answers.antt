use Rattle.std.proofs.Common.{List, [], sym, refl, ap}
use Rattle.grammar.specs.Machine.{at, items, opened}
use Rattle.grammar.specs.Lists.{lists_of}
use Rattle.grammar.specs.declared.Item.{Item}
use Rattle.script.proofs.Steps.{one, next, fails, made, starts}
use Rattle.script.proofs.reader.Reader.saga.Goals as goal

pub returns-in_err-number-clause-reads : goal.returns-in_err-number-clause-reads
returns-in_err-number-clause-reads c = λ d. fails c.from_residual.ensures.1 (one (λ t. refl) refl c.in_err-number.ensures)

pub returns-in_err-open-clause-reads : goal.returns-in_err-open-clause-reads
returns-in_err-open-clause-reads c = λ d.
    next (one (λ t. refl) refl c.in_ok-number.ensures) (
    fails c.from_residual-in_err-open.ensures.1 (one (λ t. refl) refl c.in_err-open.ensures))

pub returns-in_err-items-clause-reads : goal.returns-in_err-items-clause-reads
returns-in_err-items-clause-reads c = λ d.
    let l = lists_of c.args.site.now in
    next (one (λ t. refl) refl c.in_ok-number.ensures) (
    next (one (λ t. refl) refl c.in_ok-open.ensures) (
    starts (ap (λ (is : List Item). at l d (items (opened c.in_ok-number.number is 0 []))) (sym c.new.ensures.items))
    (fails c.from_residual-in_err-items.ensures.1 (c.in_err-items.ensures.reads d [] refl))))

pub returns-clause-reads : goal.returns-clause-reads
returns-clause-reads c = λ d.
    let l = lists_of c.args.site.now in
    next (one (λ t. refl) refl c.in_ok-number.ensures) (
    next (one (λ t. refl) refl c.in_ok-open.ensures) (
    starts (ap (λ (is : List Item). at l d (items (opened c.in_ok-number.number is 0 []))) (sym c.new.ensures.items))
    (made refl (c.in_ok-items.ensures.reads d [] refl))))
