use Rattle.std.proofs.Common.{refl}
use Rattle.runner.specs.Calls.{new_world}
use Rattle.runner.proofs.Calling.{unready}
use Rattle.runner.proofs.Means.{means}
use Rattle.rehearsal.proofs.Main.{all_kept}
use Rattle.rehearsal.proofs.Mirrored.{mirrors_moves}
use Rattle.rehearsal.proofs.rehearse.Goals as goal

pub returns-clause-kept : goal.returns-clause-kept
returns-clause-kept g c h = all_kept _ c.args.moves.now h

pub returns-clause-reads : goal.returns-clause-reads
returns-clause-reads g c = let start = new_world (means g.J.JournalRead g.J.Journal) g.B.Bank c.args.journal c.args.bank in mirrors_moves start c.args.moves.now (unready start refl)
