-- What a participant is opened on.
use Rattle.std.specs.Prelude.{ℕ, Bool, true, cond, not, ◌&&◌, List, [], ◌∷◌, Ok, Err, Result, nat_le}
use Rattle.bounded.specs.Firsts.{every}
use Rattle.participants.specs.declared.cell.Cell.{Cell}
use Rattle.participants.specs.declared.answer.SiteFault.{SiteFault}
use Rattle.participants.specs.declared.answer.SiteFault.TheVariants.{OutOfRange, Twice}
use Rattle.participants.specs.Effects.{has_cell}
use Rattle.participants.specs.Party.{Party}

-- a value within its ceiling, and that at most 1,000,000
abbrev pub in_range : Cell → Bool
in_range x = nat_le x.value x.ceiling && nat_le x.ceiling 1000000

-- no number stands twice
abbrev pub numbers_once : List Cell → Bool
numbers_once [] = true
numbers_once (x ∷ xs) = not (has_cell x.number xs) && numbers_once xs

-- a participant of these verbs on these very cells, with nothing standing, or the fault
abbrev pub opened_on : List ℕ → List Cell → Result Party SiteFault
opened_on verbs cells =
    cond (not (every in_range cells)) (Err OutOfRange)
    (cond (not (numbers_once cells)) (Err Twice)
    (Ok (record { verbs = verbs; cells = cells; entries = [] })))
