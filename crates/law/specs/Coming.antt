use Rattle.std.specs.Prelude.{ℕ}
use Rattle.law.specs.declared.event.Phase.{Phase}
use Rattle.law.specs.declared.event.Phase.TheVariants.{Running, Pending, Closed}
use Rattle.law.specs.declared.event.Aim.TheVariants.{Stepping, Retreating, Finishing}

-- the steps that may come to stand by the next record
abbrev pub coming : Phase → ℕ
coming Running = 0
coming Closed = 0
coming (Pending Stepping t) = 1
coming (Pending (Retreating g d) t) = 0
coming (Pending Finishing t) = 0
