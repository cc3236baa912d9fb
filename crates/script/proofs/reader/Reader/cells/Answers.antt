use Rattle.std.proofs.Common.{[], refl, ◌∙◌}
use Rattle.std.proofs.Math.Nat.{sub-zero}
use Rattle.grammar.specs.Machine.{at, heading, count, more}
use Rattle.script.proofs.Steps.{fails}
use Rattle.script.proofs.reader.Reader.cells.Goals as goal

pub returns-in_err-count : goal.returns-in_err-count
returns-in_err-count c = λ l d.
    let s = c.args.section in
    fails c.from_residual.ensures.1
    (c.in_err-count.ensures (at l d (heading s)) (at l d (count s)) (λ n. more l d s n []) (λ t. rw c.heading_of.ensures refl) (λ t. rw c.limit_of.ensures refl))

pub loop-init : goal.loop-init
loop-init c = λ l d.
    let s = c.args.section in
    (c.in_ok-count.ensures (at l d (heading s)) (at l d (count s)) (λ n. more l d s n []) (λ t. rw c.heading_of.ensures refl) (λ t. rw c.limit_of.ensures refl)).met
    ∙ rw (sub-zero, c.new-cells.ensures.items) refl
