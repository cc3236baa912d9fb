use Rattle.std.proofs.Common.{rules}
use Rattle.journals.proofs.Entered.{step, progress}
use Rattle.journals.proofs.entries.EntriesIterator.next.Goals as goal

pub returns-clause-steps : goal.returns-clause-steps
returns-clause-steps g c = search (rules, step)

pub returns-clause-goes : goal.returns-clause-goes
returns-clause-goes g c = progress _ _ _ _ _ (λ _. tt) (returns-clause-steps g c)
