-- The law over all sagas: the highest number begun, and each open saga with a note of the table's owner.
use Rattle.std.specs.Prelude.{ℕ, ◌+◌, Bool, true, false, cond, ◌&&◌, List, [], ◌∷◌, ◌++◌, length, Some, None, Ok, Err, sum_by, Option, Result, ◌==◌, nat_le, nat_lt}
use Rattle.bounded.specs.Firsts.{cut, put, first}
use Rattle.record.specs.declared.Record.{Record}
use Rattle.law.specs.declared.event.Event.{Event}
use Rattle.law.specs.declared.event.Event.TheVariants.{Begin, Intent, Done, Refused, Mark, Join, Back, Undone, Finish, Settled}
use Rattle.law.specs.Events.{event_of}
use Rattle.law.specs.Law.{Saga, begun, lawful, next, owes, is_open}

pub record Sagas (V : Type 0) : Type 0 where
  pub top : ℕ
  pub rows : List (Saga × V)

abbrev pub sagas : {V : Type 0} → ℕ → List (Saga × V) → Sagas V
sagas n rows = record { top = n; rows = rows }

abbrev pub of_saga : {V : Type 0} → ℕ → (Saga × V) → Bool
of_saga s x = x.0.number == s

-- a closed saga leaves the table
abbrev pub placed : {V : Type 0} → ℕ → (Saga × V) → List (Saga × V) → List (Saga × V)
placed s x rows = cond (is_open x.0.phase) (put (of_saga s) x rows) (cut (of_saga s) rows)

-- a number above every one begun, of at most 1,000,000, with fewer than 8 sagas open
abbrev pub may_begin : {V : Type 0} → ℕ → Sagas V → Bool
may_begin s t = nat_lt t.top s && (nat_le s 1000000 && nat_lt (length t.rows) 8)

abbrev pub begins : {V : Type 0} → ℕ → V → Sagas V → Bool × Sagas V
begins s v t = cond (may_begin s t) (true, sagas s (t.rows ++ (begun s, v) ∷ [])) (false, t)

abbrev pub moves_by : {V : Type 0} → ℕ → ℕ → Event → Sagas V → Option (Saga × V) → Bool × Sagas V
moves_by n s e t None = (false, t)
moves_by n s e t (Some x) = cond (lawful n x.0 e) (true, sagas t.top (placed s (next x.0 e, x.1) t.rows)) (false, t)

-- a record of a saga that is not open is unlawful
abbrev pub moves : {V : Type 0} → ℕ → ℕ → Event → Sagas V → Bool × Sagas V
moves n s e t = moves_by n s e t (first (of_saga s) t.rows)

-- whether a record is lawful in a bank of n participants, and the sagas then; v is the note of a saga that begins
abbrev pub applied : {V : Type 0} → ℕ → ℕ → Event → V → Sagas V → Bool × Sagas V
applied n s Begin v t = begins s v t
applied n s (Intent u) v t = moves n s (Intent u) t
applied n s (Done i) v t = moves n s (Done i) t
applied n s (Refused i c) v t = moves n s (Refused i c) t
applied n s Mark v t = moves n s Mark t
applied n s Join v t = moves n s Join t
applied n s (Back d) v t = moves n s (Back d) t
applied n s (Undone i) v t = moves n s (Undone i) t
applied n s Finish v t = moves n s Finish t
applied n s (Settled i) v t = moves n s (Settled i) t

abbrev pub owed : {V : Type 0} → Sagas V → ℕ
owed t = sum_by (λ x. owes x.0) t.rows

-- another note for a saga
abbrev pub renoted : {V : Type 0} → ℕ → V → List (Saga × V) → List (Saga × V)
renoted s v [] = []
renoted s v (x ∷ rows) = cond (of_saga s x) ((x.0, v) ∷ rows) (x ∷ renoted s v rows)

abbrev pub noted : {V : Type 0} → ℕ → V → Sagas V → Sagas V
noted s v t = sagas t.top (renoted s v t.rows)

abbrev pub applied_if : {V : Type 0} → ℕ → ℕ → Option Event → V → Sagas V → Bool × Sagas V
applied_if n s None v t = (false, t)
applied_if n s (Some e) v t = applied n s e v t

-- the same of a record as it lies in the journal; one that says nothing is unlawful
abbrev pub taken : {V : Type 0} → ℕ → V → Sagas V → Record → Bool × Sagas V
taken n v t r = applied_if n r.saga (event_of r) v t

-- the law's reading of the records, from the i-th on: the sagas, or the index of the first that is not lawful
abbrev pub read_from : {V : Type 0} → ℕ → V → ℕ → Sagas V → List Record → Result (Sagas V) ℕ
read_from n v i t [] = Ok t
read_from n v i t (r ∷ rs) = cond (taken n v t r).0 (read_from n v (i + 1) (taken n v t r).1 rs) (Err i)

abbrev pub reading : {V : Type 0} → ℕ → V → List Record → Result (Sagas V) ℕ
reading n v rs = read_from n v 0 (sagas 0 []) rs
