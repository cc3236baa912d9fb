-- What a record says, and the record that says it.
use Rattle.std.specs.Prelude.{◌≡◌, ℕ, Bool, cond, ◌&&◌, Some, None, Option, Result, MatchResult, ◌<◌, ◌⊎◌, ◌==◌}
use Rattle.std.specs.Result.{result_ok}
use Rattle.terms.specs.declared.Refusal.{Refusal}
use Rattle.terms.specs.Codes.{refusal_code, refusal_of}
use Rattle.record.specs.declared.Record.{Record}
use Rattle.law.specs.declared.event.Step.{Step}
use Rattle.law.specs.declared.event.Event.{Event}
use Rattle.law.specs.declared.event.Event.TheVariants.{Begin, Intent, Done, Refused, Mark, Join, Back, Undone, Finish, Settled}
use Rattle.law.specs.declared.event.Unlawful.{Unlawful}
use Rattle.law.specs.declared.event.Kind.{Kind}
use Rattle.law.specs.declared.event.Kind.TheVariants as kind

-- the number that a kind has in a record
abbrev pub kind_number : Kind → ℕ
kind_number kind.Begin = 1
kind_number kind.Intent = 2
kind_number kind.Done = 3
kind_number kind.Refused = 4
kind_number kind.Mark = 5
kind_number kind.Join = 6
kind_number kind.Back = 7
kind_number kind.Undone = 8
kind_number kind.Finish = 9
kind_number kind.Settled = 10

-- the kind of a number, or an error where no kind has it
abbrev pub IsKind : ℕ → Result Kind Unlawful → Type 0
IsKind n x = MatchResult x (λ k. kind_number k ≡ n) (λ _. (n ≡ 0) ⊎ (10 < n))

abbrev pub step_of : Record → Step
step_of r = record { number = r.step; participant = r.participant; request = record { verb = r.verb; amount = r.amount; a = r.a; b = r.b } }

-- the fields that only an intent uses are 0
abbrev pub no_request : Record → Bool
no_request r = r.participant == 0 && (r.verb == 0 && (r.amount == 0 && (r.a == 0 && r.b == 0)))

-- every field but the step is 0
abbrev pub only_step : Record → Bool
only_step r = r.depth == 0 && (r.cause == 0 && no_request r)

-- every field is 0
abbrev pub nothing : Record → Bool
nothing r = r.step == 0 && only_step r

-- a cause that is no refusal's number says nothing lawful
abbrev pub refused_by : ℕ → Option Refusal → Option Event
refused_by k None = None
refused_by k (Some c) = Some (Refused k c)

-- by its kind, where the fields that the kind does not use are 0; any other record says nothing lawful
abbrev pub event_of : Record → Option Event
event_of r =
    cond (r.kind == 1) (cond (nothing r) (Some Begin) None)
    (cond (r.kind == 2) (cond (r.depth == 0 && r.cause == 0) (Some (Intent (step_of r))) None)
    (cond (r.kind == 3) (cond (only_step r) (Some (Done r.step)) None)
    (cond (r.kind == 4) (cond (r.depth == 0 && no_request r) (refused_by r.step (refusal_of r.cause)) None)
    (cond (r.kind == 5) (cond (nothing r) (Some Mark) None)
    (cond (r.kind == 6) (cond (nothing r) (Some Join) None)
    (cond (r.kind == 7) (cond (r.step == 0 && (r.cause == 0 && no_request r)) (Some (Back r.depth)) None)
    (cond (r.kind == 8) (cond (only_step r) (Some (Undone r.step)) None)
    (cond (r.kind == 9) (cond (nothing r) (Some Finish) None)
    (cond (r.kind == 10) (cond (only_step r) (Some (Settled r.step)) None)
    None)))))))))

-- the event that the record says, or an error where it says none
abbrev pub Says : Record → Result Event Unlawful → Type 0
Says r x = result_ok x ≡ event_of r

-- a record by kind, saga, step, depth and cause
abbrev pub plain_record : ℕ → ℕ → ℕ → ℕ → ℕ → Record
plain_record k s n d c = record { kind = k; saga = s; step = n; participant = 0; verb = 0; depth = d; cause = c; amount = 0; a = 0; b = 0 }

-- unused fields are 0
abbrev pub record_of : ℕ → Event → Record
record_of s Begin = plain_record 1 s 0 0 0
record_of s (Intent t) = record { kind = 2; saga = s; step = t.number; participant = t.participant; verb = t.request.verb; depth = 0; cause = 0; amount = t.request.amount; a = t.request.a; b = t.request.b }
record_of s (Done k) = plain_record 3 s k 0 0
record_of s (Refused k c) = plain_record 4 s k 0 (refusal_code c)
record_of s Mark = plain_record 5 s 0 0 0
record_of s Join = plain_record 6 s 0 0 0
record_of s (Back d) = plain_record 7 s 0 d 0
record_of s (Undone k) = plain_record 8 s k 0 0
record_of s Finish = plain_record 9 s 0 0 0
record_of s (Settled k) = plain_record 10 s k 0 0

-- no event has the kind 0
abbrev pub record_of_nothing : ℕ → Record
record_of_nothing s = plain_record 0 s 0 0 0

-- what is written is read back, of the same saga; what is written of nothing reads back as nothing
pub record ReadsBack : Type 0 where
  pub says : (s : ℕ) (e : Event) → event_of (record_of s e) ≡ Some e
  pub of_saga : (s : ℕ) (e : Event) → (record_of s e).saga ≡ s
  pub says_nothing : (s : ℕ) → event_of (record_of_nothing s) ≡ None
  pub nothing_of_saga : (s : ℕ) → (record_of_nothing s).saga ≡ s
