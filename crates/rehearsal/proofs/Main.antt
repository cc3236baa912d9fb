-- The theorem: what every rehearsal keeps.
use Rattle.std.proofs.Common.{List}
use Rattle.runner.specs.Worlds.{World}
use Rattle.runner.specs.declared.moves.Move.{Move}
use Rattle.rehearsal.specs.Keeps.{Start, Kept}
use Rattle.rehearsal.proofs.Answering.{answers_kept}
use Rattle.rehearsal.proofs.Balances.{balance_kept}
use Rattle.rehearsal.proofs.Closes.{closing_kept}
use Rattle.runner.proofs.Calling.{unready}
use Rattle.rehearsal.proofs.Mirrored.{mirrors_moves}
use Rattle.rehearsal.proofs.Rooms.{restarts_kept}
use Rattle.rehearsal.proofs.Standings.{standing_kept}

pub all_kept : (w : World) (ms : List Move) → Start w → Kept w ms
all_kept w ms h = record {
  balance = balance_kept w ms h;
  standing = standing_kept w ms h;
  closing = closing_kept w ms h;
  answers = answers_kept w ms h;
  restarts = restarts_kept w ms h;
  reads = mirrors_moves w ms (unready w h.unread);
}
