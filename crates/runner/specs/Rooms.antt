-- How many places a saga of one step needs.
use Rattle.std.specs.Prelude.{◌≡◌, ℕ, [], ◌∷◌, Err}
use Rattle.terms.specs.declared.Request.{Request}
use Rattle.participants.specs.Party.{Party}
use Rattle.runner.specs.declared.fault.RunnerFault.TheVariants.{NoRoom}
use Rattle.runner.specs.declared.ticket.Ticket.{Ticket}
use Rattle.runner.specs.Slips.{ticket_of}
use Rattle.runner.specs.Worlds.{World}
use Rattle.runner.specs.Calls.{unread_world, restarted, opened, stepped, finished, advanced}

-- a bank of one participant and an empty journal of n places, read
abbrev pub at_first : ℕ → Party → World
at_first n p = (restarted (unread_world [] n (p ∷ []))).1

-- the ticket of saga 5 after one restart
abbrev pub five : Ticket
five = ticket_of 5 1

-- saga 5 with one step issued, called for and recorded
abbrev pub one_step : ℕ → Party → Request → World
one_step n p q = (advanced 5 (advanced 5 (stepped five 1 q (opened 5 (at_first n p)).1).1).1).1

-- then finished, and advanced twice
abbrev pub to_the_end : ℕ → Party → Request → World
to_the_end n p q = (advanced 5 (advanced 5 (finished five (one_step n p q)).1).1).1

pub record Room : Type 0 where
  pub one : (p : Party) → (opened 5 (at_first 1 p)).0 ≡ Err NoRoom
  pub four : (p : Party) (q : Request) → (stepped five 1 q (opened 5 (at_first 4 p)).1).0 ≡ Err (five, NoRoom)
  -- no saga is open at the end
  pub carries : (p : Party) (q : Request) → (to_the_end 5 p q).table.rows ≡ []
