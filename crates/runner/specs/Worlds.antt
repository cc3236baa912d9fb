-- All that a call sees and changes.
use Rattle.std.specs.Prelude.{◌≡◌, ℕ, ◌+◌, ◌-◌, ◌≤◌, Bool, cond, List, [], ◌∷◌, ◌++◌, length, Some, None, Ok, Err, Option, Result, ◌==◌, nat_lt, is_some}
use Rattle.participants.specs.Party.{Party}
use Rattle.bank.specs.Banks.{count_of}
use Rattle.record.specs.declared.Record.{Record}
use Rattle.law.specs.declared.event.Event.{Event}
use Rattle.law.specs.declared.event.Phase.{Phase}
use Rattle.law.specs.declared.event.Phase.TheVariants.{Running, Pending, Closed}
use Rattle.law.specs.declared.table.Table.{Table}
use Rattle.law.specs.declared.table.View.{View}
use Rattle.law.specs.Events.{record_of}
use Rattle.law.specs.Sagas.{Sagas, sagas, applied, noted, owed}
use Rattle.law.specs.Tables.{sagas_of}
use Rattle.law.specs.Views.{view}
use Rattle.bank.specs.declared.bank.Bank.{Ghosts as BankMeans}
use Rattle.journals.specs.declared.fault.JournalFault.TheVariants.{Full}
use Rattle.runner.specs.Memories.{Memory}
use Rattle.runner.specs.declared.fault.RunnerFault.{RunnerFault}
use Rattle.runner.specs.declared.fault.RunnerFault.TheVariants.{Unread, NoOpenSaga, WrongPhase, Journal}
use Rattle.runner.specs.declared.runner.Runner.{Runner}

-- the table of open sagas, each with what is remembered of it; whether the journal is read; the count of restarts; the
-- journal's records and capacity; the bank's participants
pub record World : Type 0 where
  pub table : Sagas Memory
  pub ready : Bool
  pub restarts : ℕ
  pub records : List Record
  pub capacity : ℕ
  pub parties : List Party

-- no saga is open while the journal is not read
abbrev pub table_of : Option (Table Memory) → Sagas Memory
table_of None = sagas 0 []
table_of (Some t) = sagas_of t

-- what a journal means, as its traits have it
abbrev pub JournalMeans : Type 0 → Type 0
JournalMeans J = record { records : J → List Record; capacity : J → ℕ; writes : J → ℕ; lender : J → ℕ }

-- the world of a runner, by what its journal and its bank mean
abbrev pub world : {J B : Type 0} → JournalMeans J → BankMeans B → Runner J B → World
world journal bank r = record { table = table_of r.table; ready = is_some r.table; restarts = r.restarts; records = journal.records r.journal; capacity = journal.capacity r.journal; parties = bank.parties r.bank }

-- journal and bank together make at most one write, and the journal stays laid over the same memory
abbrev pub OneWrite : {J B : Type 0} → JournalMeans J → BankMeans B → Runner J B → Runner J B → Type 0
OneWrite journal bank r r' = (journal.writes r'.journal + bank.writes r'.bank ≤ journal.writes r.journal + bank.writes r.bank + 1) × (journal.lender r'.journal ≡ journal.lender r.journal)

abbrev pub with_table : Sagas Memory → World → World
with_table t w = record { table = t; ready = w.ready; restarts = w.restarts; records = w.records; capacity = w.capacity; parties = w.parties }

-- fewer free places than are owed and wanted
abbrev pub lacks : ℕ → World → Bool
lacks more w = nat_lt (w.capacity - length w.records) (owed w.table + more)

-- the one way a record is written: to the journal, and to the table by the law
abbrev pub recorded : ℕ → Event → World → World
recorded s e w = record { table = (applied (count_of w.parties) s e None w.table).1; ready = w.ready; restarts = w.restarts; records = w.records ++ record_of s e ∷ []; capacity = w.capacity; parties = w.parties }

abbrev pub full : World → Bool
full w = length w.records == w.capacity

-- a journal that is full refuses, and all is as it was
abbrev pub written : ℕ → Event → World → Result Unit RunnerFault × World
written s e w = cond (full w) (Err (Journal s (Full (length w.records))), w) (Ok tt, recorded s e w)

-- the checks that a call begins with: 30 and 32, and 36 where the saga is to be running
abbrev pub by_view : {X : Type 0} → Option (View Memory) → X → (View Memory → X) → X
by_view None refuse go = refuse
by_view (Some seen) refuse go = go seen

abbrev pub on_open : {X : Type 0} → World → ℕ → ℕ → (RunnerFault → X) → (View Memory → X) → X
on_open w s k refuse go = cond w.ready (cond (k == w.restarts) (by_view (view s w.table) (refuse NoOpenSaga) go) (refuse NoOpenSaga)) (refuse Unread)

abbrev pub if_running : {X : Type 0} → Phase → X → X → X
if_running Running go refuse = go
if_running (Pending a t) go refuse = refuse
if_running Closed go refuse = refuse

abbrev pub on_running : {X : Type 0} → World → ℕ → ℕ → (RunnerFault → X) → (View Memory → X) → X
on_running w s k refuse go = on_open w s k refuse (λ seen. if_running seen.phase (go seen) (refuse WrongPhase))

-- the checks of a call that takes no ticket
abbrev pub on_saga : {X : Type 0} → World → ℕ → (RunnerFault → X) → (View Memory → X) → X
on_saga w s refuse go = cond w.ready (by_view (view s w.table) (refuse NoOpenSaga) go) (refuse Unread)

abbrev pub with_memory : ℕ → Memory → World → World
with_memory s m w = with_table (noted s m w.table) w
