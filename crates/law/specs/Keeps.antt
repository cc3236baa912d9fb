-- What every lawful list of records keeps.
use Rattle.std.specs.Prelude.{◌≡◌, ℕ, ◌-◌, ◌<◌, ◌≤◌, List, [], ◌∷◌, ◌++◌, length, Some, Ok, Err}
use Rattle.std.specs.List.{slice_get, AllByRecursion}
use Rattle.terms.specs.declared.Request.{Request}
use Rattle.record.specs.declared.Record.{Record}
use Rattle.law.specs.declared.event.Step.{Step}
use Rattle.law.specs.declared.event.Phase.{Phase}
use Rattle.law.specs.declared.event.Phase.TheVariants.{Running, Pending, Closed}
use Rattle.law.specs.declared.event.Aim.TheVariants.{Stepping, Retreating, Finishing}
use Rattle.law.specs.declared.event.Event.TheVariants.{Begin, Intent, Done, Mark, Back, Undone}
use Rattle.law.specs.Events.{record_of}
use Rattle.law.specs.Law.{Saga}
use Rattle.law.specs.Sagas.{Sagas, reading}

-- steps whose numbers rise strictly, from above g and at most l
abbrev pub Rising : ℕ → ℕ → List Step → Type 0
Rising g l [] = Unit {0}
Rising g l (t ∷ ts) = (g < t.number) × (t.number ≤ l) × Rising t.number l ts

-- the pending step is the last one issued, which does not stand; the highest that stands, above the target; or the lowest
abbrev pub Pends : Phase → ℕ → List Step → Type 0
Pends Running l ts = Unit {0}
Pends (Pending Stepping t) l ts = (t.number ≡ l) × (0 < l) × AllByRecursion (λ u. u.number < l) ts
Pends (Pending (Retreating g d) t) l ts = (slice_get ts (length ts - 1) ≡ Some t) × (g < t.number)
Pends (Pending Finishing t) l ts = slice_get ts 0 ≡ Some t
Pends Closed l ts = ⊥

pub record Sound (s : Saga) : Type 0 where
  -- at most 32 steps are issued
  pub issued : s.last ≤ 32
  -- standing steps were issued, and stand in the order of their numbers, none twice
  pub rises : Rising 0 s.last s.standing
  pub few_marks : length s.marks ≤ 8
  pub marked : AllByRecursion (λ m. m ≤ s.last) s.marks
  pub pends : Pends s.phase s.last s.standing

-- sagas whose numbers rise strictly, from above g and at most l
abbrev pub Ordered : {V : Type 0} → ℕ → ℕ → List (Saga × V) → Type 0
Ordered g l [] = Unit {0}
Ordered g l (x ∷ rows) = (g < x.0.number) × (x.0.number ≤ l) × Sound x.0 × Ordered x.0.number l rows

pub record Keeps {V : Type 0} (t : Sagas V) : Type 0 where
  -- the highest number begun is in range
  pub in_range : t.top ≤ 1000000
  -- at most 8 sagas are open
  pub few : length t.rows ≤ 8
  -- their numbers are at least 1, none twice, and at most the highest begun
  pub ordered : Ordered 0 t.top t.rows

-- saga 5 sets a mark, does step 1, goes back to the mark and issues step 1 again
abbrev pub issued_again : Request → List Record
issued_again q =
    let one : Step = record { number = 1; participant = 1; request = q } in
    record_of 5 Begin ∷ record_of 5 Mark ∷ record_of 5 (Intent one) ∷ record_of 5 (Done 1) ∷ record_of 5 (Back 1) ∷ record_of 5 (Undone 1) ∷ record_of 5 (Intent one) ∷ []

pub record Readings (V : Type 0) : Type 0 where
  -- a list of lawful records keeps this
  pub keeps : (n : ℕ) (v : V) (rs : List Record) (t : Sagas V) → reading n v rs ≡ Ok t → Keeps t
  -- every front of a lawful list is lawful
  pub front : (n : ℕ) (v : V) (rs more : List Record) (t : Sagas V) → reading n v (rs ++ more) ≡ Ok t → (u : Sagas V) × (reading n v rs ≡ Ok u)
  -- the first unlawful record is one of the list, and stays the first whatever follows
  pub within : (n : ℕ) (v : V) (rs : List Record) (i : ℕ) → reading n v rs ≡ Err i → i < length rs
  pub first : (n : ℕ) (v : V) (rs more : List Record) (i : ℕ) → reading n v rs ≡ Err i → reading n v (rs ++ more) ≡ Err i
  -- an undo of a step that was never issued
  pub undone_first : (n : ℕ) (v : V) → reading n v (record_of 5 Begin ∷ record_of 5 (Undone 1) ∷ []) ≡ Err 1
  -- a step number used again
  pub step_again : (v : V) (q : Request) → reading 3 v (issued_again q) ≡ Err 6
