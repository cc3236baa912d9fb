-- The world after a call that is made, cut before its write, or cut after it.
use Rattle.runner.specs.Worlds.{World}
use Rattle.runner.specs.Slips.{ticket_of}
use Rattle.runner.specs.Calls.{restarted, opened, stepped, marked, joined, backed, finished, cancelled, advanced, unread_world}
use Rattle.runner.specs.declared.ticket.Ticket.{Ticket}
use Rattle.runner.specs.declared.ticket.Numbers.{Numbers}
use Rattle.runner.specs.declared.moves.Call.{Call}
use Rattle.runner.specs.declared.moves.Call.TheVariants.{Restart, Begin, Step, Mark, Join, Back, Finish, Cancel, Advance, Answer}
use Rattle.runner.specs.declared.moves.Reach.{Reach}
use Rattle.runner.specs.declared.moves.Reach.TheVariants.{Made, CutBefore, CutAfter}
use Rattle.runner.specs.declared.moves.Move.{Move}

abbrev pub ticket : Numbers → Ticket
ticket n = ticket_of n.saga n.restart

-- an answer changes nothing
abbrev pub called : World → Call → World
called w Restart = (restarted w).1
called w (Begin s) = (opened s w).1
called w (Step n p q) = (stepped (ticket n) p q w).1
called w (Mark n) = (marked (ticket n) w).1
called w (Join n) = (joined (ticket n) w).1
called w (Back n d) = (backed (ticket n) d w).1
called w (Finish n) = (finished (ticket n) w).1
called w (Cancel n) = (cancelled (ticket n) w).1
called w (Advance s) = (advanced s w).1
called w (Answer n) = w

-- a cut loses the runner and nothing else, and a new one has read nothing
abbrev pub lost : World → World
lost w = unread_world w.records w.capacity w.parties

abbrev pub act_by : World → Call → Reach → World
act_by w c Made = called w c
act_by w c CutBefore = lost w
act_by w c CutAfter = lost (called w c)

abbrev pub act : World → Move → World
act w m = act_by w m.call m.reach
