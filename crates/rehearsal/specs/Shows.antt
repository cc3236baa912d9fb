-- What the journal shows by the law, and what the participants hold.
use Rattle.std.specs.Prelude.{◌≡◌, ℕ, Bool, false, cond, ◌&&◌, ◌||◌, List, [], ◌∷◌, ◌++◌, map, Some, None, Ok, Err, filter, Option, Result, ◌==◌, nat_eq}
use Rattle.bounded.specs.Firsts.{pick, cut, first}
use Rattle.terms.specs.declared.Entry.{Entry}
use Rattle.participants.specs.Party.{Party}
use Rattle.bank.specs.Banks.{count_of, party_at}
use Rattle.law.specs.declared.event.Aim.TheVariants.{Stepping, Retreating, Finishing}
use Rattle.law.specs.declared.event.Phase.{Phase}
use Rattle.law.specs.declared.event.Phase.TheVariants.{Running, Pending, Closed}
use Rattle.law.specs.declared.event.Step.{Step}
use Rattle.law.specs.declared.event.Event.{Event}
use Rattle.law.specs.declared.event.Event.TheVariants.{Begin, Intent, Done, Refused, Mark, Join, Back, Undone, Finish, Settled}
use Rattle.record.specs.declared.Record.{Record}
use Rattle.law.specs.Events.{event_of}
use Rattle.law.specs.Law.{Saga}
use Rattle.law.specs.Sagas.{Sagas, reading}
use Rattle.runner.specs.Worlds.{World}
use Rattle.runner.specs.Calls.{entry_of}

-- the sagas that the law over the records has open, whatever the runner has read
abbrev pub open_in : Result (Sagas (Unit {0})) ℕ → List Saga
open_in (Ok t) = map (λ (x : Saga × Unit {0}). x.0) t.rows
open_in (Err i) = []

abbrev pub open_sagas : World → List Saga
open_sagas w = open_in (reading (count_of w.parties) tt w.records)

abbrev pub open_saga : ℕ → World → Option Saga
open_saga s w = first (λ (x : Saga). nat_eq x.number s) (open_sagas w)

-- the steps that stand of a saga, none where it is not open
abbrev pub standing_of : Option Saga → List Step
standing_of None = []
standing_of (Some x) = x.standing

abbrev pub without : Step → List Step → List Step
without t l = cut (λ (u : Step). nat_eq u.number t.number) l

-- the same once the pending step has had its call
abbrev pub performed : Phase → List Step → List Step
performed Running l = l
performed Closed l = l
performed (Pending Stepping t) l = l ++ t ∷ []
performed (Pending (Retreating g d) t) l = without t l
performed (Pending Finishing t) l = without t l

abbrev pub performed_of : Option Saga → List Step
performed_of None = []
performed_of (Some x) = performed x.phase x.standing

-- the steps at participant p, as entries of saga s
abbrev pub entries_at : ℕ → ℕ → List Step → List Entry
entries_at s p [] = []
entries_at s p (t ∷ l) = cond (p == t.participant) (entry_of s t ∷ entries_at s p l) (entries_at s p l)

-- the entries of one saga
abbrev pub mine : ℕ → List Entry → List Entry
mine s es = filter (λ e. nat_eq e.key.saga s) es

-- of saga s the participants hold exactly these steps
abbrev pub Holds : List Party → ℕ → List Step → Type 0
Holds ps s l = (p : ℕ) → mine s (party_at ps p).entries ≡ entries_at s p l

-- the steps that the journal issued for saga s, and those whose settling it records
abbrev pub issue : ℕ → ℕ → Event → List Step → List Step
issue s n Begin l = l
issue s n (Intent t) l = cond (n == s) (t ∷ l) l
issue s n (Done k) l = l
issue s n (Refused k c) l = l
issue s n Mark l = l
issue s n Join l = l
issue s n (Back d) l = l
issue s n (Undone k) l = l
issue s n Finish l = l
issue s n (Settled k) l = l

-- what the event of a record does; a record that says nothing does nothing
abbrev pub heard : {X : Type 0} → (Event → X → X) → Option Event → X → X
heard f None x = x
heard f (Some e) x = f e x

abbrev pub issued : ℕ → List Record → List Step
issued s [] = []
issued s (r ∷ rs) = heard (issue s r.saga) (event_of r) (issued s rs)

abbrev pub no_step : Step
no_step = record { number = 0; participant = 0; request = record { verb = 0; amount = 0; a = 0; b = 0 } }

abbrev pub settling : List Step → ℕ → ℕ → Event → List Step → List Step
settling all s n Begin l = l
settling all s n (Intent t) l = l
settling all s n (Done k) l = l
settling all s n (Refused k c) l = l
settling all s n Mark l = l
settling all s n Join l = l
settling all s n (Back d) l = l
settling all s n (Undone k) l = l
settling all s n Finish l = l
settling all s n (Settled k) l = cond (n == s) (pick (λ (u : Step). nat_eq u.number k) no_step all ∷ l) l

abbrev pub settled_among : List Step → ℕ → List Record → List Step
settled_among all s [] = []
settled_among all s (r ∷ rs) = heard (settling all s r.saga) (event_of r) (settled_among all s rs)

abbrev pub settled_steps : ℕ → List Record → List Step
settled_steps s rs = settled_among (issued s rs) s rs

-- saga s is cancelled, by a Back to 0, or finished
abbrev pub ends : ℕ → ℕ → Event → Bool
ends s n Begin = false
ends s n (Intent t) = false
ends s n (Done k) = false
ends s n (Refused k c) = false
ends s n Mark = false
ends s n Join = false
ends s n (Back d) = n == s && d == 0
ends s n (Undone k) = false
ends s n Finish = n == s
ends s n (Settled k) = false

abbrev pub ends_by : ℕ → ℕ → Option Event → Bool
ends_by s n None = false
ends_by s n (Some e) = ends s n e

abbrev pub ended : ℕ → List Record → Bool
ended s [] = false
ended s (r ∷ rs) = ends_by s r.saga (event_of r) || ended s rs
