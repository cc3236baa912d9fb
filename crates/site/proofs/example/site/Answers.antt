use Rattle.site.proofs.Examples.{examples}
use Rattle.site.proofs.example.site.Goals as goal

pub returns-clause-examples : goal.returns-clause-examples
returns-clause-examples c = examples
