-- Once the journal is read, the table is the law's reading of it.
use Rattle.std.specs.Prelude.{◌≡◌, ℕ, true, Ok}
use Rattle.terms.specs.declared.Request.{Request}
use Rattle.bank.specs.Banks.{count_of}
use Rattle.law.specs.Sagas.{reading}
use Rattle.law.specs.Bare.{bare}
use Rattle.runner.specs.declared.ticket.Ticket.{Ticket}
use Rattle.runner.specs.Worlds.{World}
use Rattle.runner.specs.Calls.{restarted, opened, stepped, marked, joined, backed, finished, cancelled, advanced}

abbrev pub Mirrors : World → Type 0
Mirrors w = w.ready ≡ true → reading (count_of w.parties) tt w.records ≡ Ok (bare w.table)

-- a restart makes it so, and every call keeps it
pub record Mirrored : Type 0 where
  pub restart : (w : World) → Mirrors (restarted w).1
  pub begin : (w : World) (s : ℕ) → Mirrors w → Mirrors (opened s w).1
  pub step : (w : World) (t : Ticket) (p : ℕ) (q : Request) → Mirrors w → Mirrors (stepped t p q w).1
  pub mark : (w : World) (t : Ticket) → Mirrors w → Mirrors (marked t w).1
  pub join : (w : World) (t : Ticket) → Mirrors w → Mirrors (joined t w).1
  pub back : (w : World) (t : Ticket) (d : ℕ) → Mirrors w → Mirrors (backed t d w).1
  pub finish : (w : World) (t : Ticket) → Mirrors w → Mirrors (finished t w).1
  pub cancel : (w : World) (t : Ticket) → Mirrors w → Mirrors (cancelled t w).1
  pub advance : (w : World) (s : ℕ) → Mirrors w → Mirrors (advanced s w).1
