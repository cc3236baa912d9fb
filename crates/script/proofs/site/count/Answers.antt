use Rattle.std.proofs.Common.{refl}
use Rattle.script.proofs.Steps.{one, next, fails}
use Rattle.script.proofs.site.count.Goals as goal

pub returns-in_err-word : goal.returns-in_err-word
returns-in_err-word c = λ heading counting listing h k. fails c.from_residual.ensures.1 (one h refl c.in_err-word.ensures)

pub returns : goal.returns
returns c = λ heading counting listing h k. next (one h refl c.in_ok-word.ensures) (one k refl c.number.ensures)
