-- What a record does to its saga, and when it is lawful.
use Rattle.std.specs.Prelude.{ℕ, ◌+◌, ◌-◌, Bool, true, false, cond, ◌&&◌, List, [], ◌∷◌, ◌++◌, length, take, Some, None, Option, ◌==◌, nat_eq, nat_le, nat_lt, Err, Ok}
use Rattle.std.specs.List.{slice_get, remove}
use Rattle.law.specs.Outcomes.{Outcome}
use Rattle.law.specs.declared.event.Aim.{Aim}
use Rattle.law.specs.declared.event.Aim.TheVariants.{Stepping, Retreating, Finishing}
use Rattle.law.specs.declared.event.Step.{Step}
use Rattle.law.specs.declared.event.Phase.{Phase}
use Rattle.law.specs.declared.event.Phase.TheVariants.{Running, Pending, Closed}
use Rattle.law.specs.declared.event.Event.{Event}
use Rattle.law.specs.declared.event.Event.TheVariants.{Begin, Intent, Done, Refused, Mark, Join, Back, Undone, Finish, Settled}

-- what the law knows of a saga: its number, its phase, the last step issued, the steps that stand in the order of their
-- numbers, its marks from the outermost on, each the last step issued when it was set, and what became of its last step
pub record Saga : Type 0 where
  pub number : ℕ
  pub phase : Phase
  pub last : ℕ
  pub standing : List Step
  pub marks : List ℕ
  pub outcome : Outcome

abbrev pub saga : ℕ → Phase → ℕ → List Step → List ℕ → Outcome → Saga
saga n p l s m o = record { number = n; phase = p; last = l; standing = s; marks = m; outcome = o }

abbrev pub begun : ℕ → Saga
begun n = saga n Running 0 [] [] (Ok tt)

-- a retreat to depth d that is over: closed where d is 0, else running
abbrev pub back_at : ℕ → Phase
back_at d = cond (d == 0) Closed Running

abbrev pub retreat_by : ℕ → ℕ → Option Step → Phase
retreat_by g d None = back_at d
retreat_by g d (Some t) = cond (nat_lt g t.number) (Pending (Retreating g d) t) (back_at d)

-- on the way back to the target g the highest standing step is undone next, if it is above g
abbrev pub retreat : ℕ → ℕ → List Step → Phase
retreat g d standing = retreat_by g d (slice_get standing (length standing - 1))

abbrev pub finish_by : Option Step → Phase
finish_by None = Closed
finish_by (Some t) = Pending Finishing t

-- at the end the lowest standing step is settled next; without one the saga is closed
abbrev pub finishing : List Step → Phase
finishing standing = finish_by (slice_get standing 0)

abbrev pub or_none : Option ℕ → ℕ
or_none None = 0
or_none (Some n) = n

-- the target of a retreat to depth d: mark d, or 0 where d is 0
abbrev pub target : List ℕ → ℕ → ℕ
target marks d = cond (d == 0) 0 (or_none (slice_get marks (d - 1)))

-- a retreat goes on with what stands
abbrev pub retreat_on : Phase → List Step → Phase
retreat_on Running standing = Running
retreat_on Closed standing = Closed
retreat_on (Pending Stepping t) standing = Running
retreat_on (Pending (Retreating g d) t) standing = retreat g d standing
retreat_on (Pending Finishing t) standing = Closed

-- the pending step comes to stand
abbrev pub with_pending : Phase → List Step → List Step
with_pending Running standing = standing
with_pending Closed standing = standing
with_pending (Pending a t) standing = standing ++ t ∷ []

abbrev pub without_last : {X : Type 0} → List X → List X
without_last xs = take (length xs - 1) xs

-- what a lawful record makes of a saga
abbrev pub next : Saga → Event → Saga
next s Begin = s
next s (Intent t) = saga s.number (Pending Stepping t) t.number s.standing s.marks s.outcome
next s (Done k) = saga s.number Running s.last (with_pending s.phase s.standing) s.marks (Ok tt)
next s (Refused k c) = saga s.number Running s.last s.standing s.marks (Err c)
next s Mark = saga s.number Running s.last s.standing (s.marks ++ s.last ∷ []) s.outcome
next s Join = saga s.number Running s.last s.standing (without_last s.marks) s.outcome
next s (Back d) = saga s.number (retreat (target s.marks d) d s.standing) s.last s.standing (take d s.marks) s.outcome
next s (Undone k) = saga s.number (retreat_on s.phase (without_last s.standing)) s.last (without_last s.standing) s.marks s.outcome
next s Finish = saga s.number (finishing s.standing) s.last s.standing s.marks s.outcome
next s (Settled k) = saga s.number (finishing (remove s.standing 0)) s.last (remove s.standing 0) s.marks s.outcome

abbrev pub if_running : Phase → Bool → Bool
if_running Running b = b
if_running (Pending a t) b = false
if_running Closed b = false

-- a test of the step that a saga is stepping at
abbrev pub if_stepping : Phase → (Step → Bool) → Bool
if_stepping Running b = false
if_stepping Closed b = false
if_stepping (Pending Stepping t) b = b t
if_stepping (Pending (Retreating g d) t) b = false
if_stepping (Pending Finishing t) b = false

-- a test of the step that a retreat undoes next
abbrev pub if_retreating : Phase → (Step → Bool) → Bool
if_retreating Running b = false
if_retreating Closed b = false
if_retreating (Pending Stepping t) b = false
if_retreating (Pending (Retreating g d) t) b = b t
if_retreating (Pending Finishing t) b = false

-- a test of the step that a finishing saga settles next
abbrev pub if_finishing : Phase → (Step → Bool) → Bool
if_finishing Running b = false
if_finishing Closed b = false
if_finishing (Pending Stepping t) b = false
if_finishing (Pending (Retreating g d) t) b = false
if_finishing (Pending Finishing t) b = b t

-- an index of the bank's n participants
abbrev pub in_bank : ℕ → ℕ → Bool
in_bank n p = nat_le 1 p && nat_le p n

-- whether a record is lawful for an open saga, in a bank of n participants
abbrev pub lawful : ℕ → Saga → Event → Bool
lawful n s Begin = false
lawful n s (Intent t) = if_running s.phase (t.number == s.last + 1 && (nat_le t.number 32 && in_bank n t.participant))
lawful n s (Done k) = if_stepping s.phase (λ t. nat_eq k t.number)
lawful n s (Refused k c) = if_stepping s.phase (λ t. nat_eq k t.number)
lawful n s Mark = if_running s.phase (nat_lt (length s.marks) 8)
lawful n s Join = if_running s.phase (nat_lt 0 (length s.marks))
lawful n s (Back d) = if_running s.phase (nat_le d (length s.marks))
lawful n s (Undone k) = if_retreating s.phase (λ t. nat_eq k t.number)
lawful n s Finish = if_running s.phase (length s.marks == 0)
lawful n s (Settled k) = if_finishing s.phase (λ t. nat_eq k t.number)

-- whether it is lawful, and the saga then
abbrev pub moved : ℕ → Saga → Event → Bool × Saga
moved n s e = cond (lawful n s e) (true, next s e) (false, s)

-- besides one record for each standing step a saga owes one while neither cancelled nor finished, and two more while stepping
abbrev pub owes_more : Aim → ℕ
owes_more Stepping = 3
owes_more (Retreating g d) = cond (d == 0) 0 1
owes_more Finishing = 0

abbrev pub owes_in : Phase → ℕ → ℕ
owes_in Running n = n + 1
owes_in (Pending a t) n = n + owes_more a
owes_in Closed n = 0

-- the records that a saga still owes
abbrev pub owes : Saga → ℕ
owes s = owes_in s.phase (length s.standing)

abbrev pub is_open : Phase → Bool
is_open Running = true
is_open (Pending a t) = true
is_open Closed = false
