use Rattle.std.proofs.Common.{◌≡◌, ◌+◌, ◌≤◌, length, take, fold}
use Rattle.runner.specs.Worlds.{world}
use Rattle.runner.specs.Acts.{act}
use Rattle.runner.proofs.Means.{means}
use Rattle.runner.proofs.play.play.Given as goal

abbrev pub invariant-loop-m : goal.invariant-loop-m
invariant-loop-m g l =
    let w = world (means g.J.JournalRead g.J.Journal) g.B.Bank in
    (l.m-index ≤ length l.moves)
    × (w l.runner ≡ fold act (w l.initial.runner) (take l.m-index l.moves))
    × (g.J.Journal.writes l.runner.journal + g.B.Bank.writes l.runner.bank ≤ g.J.Journal.writes l.initial.runner.journal + g.B.Bank.writes l.initial.runner.bank + l.m-index)
    × (g.J.Journal.lender l.runner.journal ≡ g.J.Journal.lender l.initial.runner.journal)
