use Rattle.std.proofs.Common.{[], refl, ◌∙◌}
use Rattle.std.proofs.Math.Nat.{sub-zero}
use Rattle.grammar.specs.Machine.{at, tags_heading, tag_count, more_tags}
use Rattle.script.proofs.Steps.{fails}
use Rattle.script.proofs.reader.Reader.tags.Goals as goal

pub returns-in_err-count : goal.returns-in_err-count
returns-in_err-count c = λ l d.
    fails c.from_residual.ensures.1
    (c.in_err-count.ensures (at l d tags_heading) (at l d tag_count) (λ n. more_tags l d n []) (λ t. refl) (λ t. refl))

pub loop-init : goal.loop-init
loop-init c = λ l d.
    (c.in_ok-count.ensures (at l d tags_heading) (at l d tag_count) (λ n. more_tags l d n []) (λ t. refl) (λ t. refl)).met
    ∙ rw (sub-zero, c.new-tags.ensures.items) refl
