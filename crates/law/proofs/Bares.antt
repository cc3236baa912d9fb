-- The law never looks at the notes.
use Rattle.std.proofs.Common.{◌≡◌, ℕ, ◌+◌, Bool, true, false, cond, List, [], ◌∷◌, ◌++◌, map, Some, None, Ok, Err, Option, Result, refl, ap, ◌∙◌, arith}
use lib.ListN.{length-map}
use Rattle.std.specs.Option.{option_map}
use Rattle.std.specs.List.{AllByRecursion}
use Rattle.std.proofs.lemmas.List.{map_push}
use Rattle.std.proofs.lemmas.Bool.{cond_both}
use Rattle.std.proofs.ByRecursion.{All-push}
use Rattle.bounded.specs.Firsts.{cut, put, first}
use Rattle.record.specs.declared.Record.{Record}
use Rattle.law.specs.declared.event.Event.{Event}
use Rattle.law.specs.declared.event.Event.TheVariants.{Begin}
use Rattle.law.specs.Events.{event_of}
use Rattle.law.specs.Law.{Saga, begun, lawful, next, is_open}
use Rattle.law.specs.Sagas.{Sagas, sagas, of_saga, placed, may_begin, begins, moves_by, moves, applied, applied_if, taken, renoted, noted, read_from}
use Rattle.law.specs.Bare.{row_bare, bare}

module _ {V : Type 0} (s : ℕ) where
  pub first_bare : (rows : List (Saga × V)) → first (of_saga s) (map row_bare rows) ≡ option_map row_bare (first (of_saga s) rows)
  first_bare [] = refl
  first_bare (x ∷ rows) = grind (arith, first_bare rows)

  put_bare : (y : Saga × V) (rows : List (Saga × V)) → put (of_saga s) (row_bare y) (map row_bare rows) ≡ map row_bare (put (of_saga s) y rows)
  put_bare y [] = refl
  put_bare y (x ∷ rows) = grind (arith, put_bare y rows)

  cut_bare : (rows : List (Saga × V)) → cut (of_saga s) (map row_bare rows) ≡ map row_bare (cut (of_saga s) rows)
  cut_bare [] = refl
  cut_bare (x ∷ rows) = grind (arith, cut_bare rows)

  placed_bare : (y : Saga × V) (rows : List (Saga × V)) → placed s (row_bare y) (map row_bare rows) ≡ map row_bare (placed s y rows)
  placed_bare y rows = grind (arith, put_bare y rows, cut_bare rows)

  renoted_bare : (v : V) (rows : List (Saga × V)) → map row_bare (renoted s v rows) ≡ map row_bare rows
  renoted_bare v [] = refl
  renoted_bare v (x ∷ rows) = grind (arith, renoted_bare v rows)

  pub noted_bare : (v : V) (t : Sagas V) → bare (noted s v t) ≡ bare t
  noted_bare v t = ap (sagas t.top) (renoted_bare v t.rows)

abbrev Both : Type 0
Both = Bool × Sagas (Unit {0})

abbrev both_bare : {V : Type 0} → Bool × Sagas V → Both
both_bare x = (x.0, bare x.1)

module _ {V : Type 0} (n s : ℕ) where
  begins_bare : (v : V) (t : Sagas V) → begins s tt (bare t) ≡ both_bare (begins s v t)
  begins_bare v t = grind (arith, length-map t.rows row_bare, map_push row_bare t.rows (begun s, v))

  moves_bare : (e : Event) (t : Sagas V) → moves n s e (bare t) ≡ both_bare (moves n s e t)
  moves_bare e t = ap (moves_by n s e (bare t)) (first_bare s t.rows) ∙ by_it (first (of_saga s) t.rows)
    where
      by_it : (o : Option (Saga × V)) → moves_by n s e (bare t) (option_map row_bare o) ≡ both_bare (moves_by n s e t o)
      by_it None = refl
      by_it (Some x) = grind (arith, placed_bare s (next x.0 e, x.1) t.rows)

  pub applied_bare : (e : Event) (v : V) (t : Sagas V) → applied n s e tt (bare t) ≡ both_bare (applied n s e v t)
  applied_bare Begin v t = begins_bare v t
  applied_bare e v t = moves_bare e t

  if_bare : (o : Option Event) (v : V) (t : Sagas V) → applied_if n s o tt (bare t) ≡ both_bare (applied_if n s o v t)
  if_bare None v t = refl
  if_bare (Some e) v t = applied_bare e v t

-- a reading that ends well takes its first record
pub read_on : {V : Type 0} (b : Bool) (x : Result (Sagas V) ℕ) (i : ℕ) (t : Sagas V) → cond b x (Err i) ≡ Ok t → (b ≡ true) × (x ≡ Ok t)
read_on true x i t e = (refl, e)
read_on false x i t e = absurd cc

-- the reading of one record more
pub read_push : {V : Type 0} (n : ℕ) (v : V) (i : ℕ) (t t' : Sagas V) (rs : List Record) (r : Record) → read_from n v i t rs ≡ Ok t' → (taken n v t' r).0 ≡ true → read_from n v i t (rs ++ r ∷ []) ≡ Ok (taken n v t' r).1
read_push n v i t t' [] r e h = let same : t ≡ t' = cc in rw (same, h) refl
read_push n v i t t' (x ∷ rs) r e h = let q = read_on (taken n v t x).0 _ i t' e in rw q.0 (read_push n v (i + 1) (taken n v t x).1 t' rs r q.1 h)

-- a reading with notes is the reading without
pub read_bare : {V : Type 0} (n : ℕ) (v : V) (i : ℕ) (t t' : Sagas V) (rs : List Record) → read_from n v i t rs ≡ Ok t' → read_from n tt i (bare t) rs ≡ Ok (bare t')
read_bare n v i t t' [] e = let same : t ≡ t' = cc in rw same refl
read_bare n v i t t' (x ∷ rs) e = let q = read_on (taken n v t x).0 _ i t' e in rw (if_bare n x.saga (event_of x) v t, q.0) (read_bare n v (i + 1) (taken n v t x).1 t' rs q.1)

pub read_stops : {V : Type 0} (n : ℕ) (v : V) (i j : ℕ) (t : Sagas V) (rs : List Record) → read_from n v i t rs ≡ Err j → read_from n tt i (bare t) rs ≡ Err j
read_stops n v i j t [] e = absurd cc
read_stops n v i j t (x ∷ rs) e = rw (if_bare n x.saga (event_of x) v t) (go (taken n v t x).0 (read_stops n v (i + 1) j (taken n v t x).1 rs) e)
  where
    go : (b : Bool) → (read_from n v (i + 1) (taken n v t x).1 rs ≡ Err j → read_from n tt (i + 1) (bare (taken n v t x).1) rs ≡ Err j) → ◌≡◌ {A = Result (Sagas _) ℕ} (cond b (read_from n v (i + 1) (taken n v t x).1 rs) (Err i)) (Err j) → ◌≡◌ {A = Result (Sagas (Unit {0})) ℕ} (cond b (read_from n tt (i + 1) (bare (taken n v t x).1) rs) (Err i)) (Err j)
    go true ih q = ih q
    go false ih q = cc

-- what holds of every row holds of one that is found, and of the rows with another in its place
pub all_first : {X : Type 0} (p : X → Bool) (P : X → Type 0) (xs : List X) (x : X) → AllByRecursion P xs → first p xs ≡ Some x → P x
all_first p P [] x h e = absurd cc
all_first p P (y ∷ xs) x h e = go (p y) (all_first p P xs x h.1) e
  where
    go : (b : Bool) → (first p xs ≡ Some x → P x) → ◌≡◌ {A = Option _} (cond b (Some y) (first p xs)) (Some x) → P x
    go true ih q = let same : y ≡ x = cc in rw (← same) h.0
    go false ih q = ih q

module _ {V : Type 0} (s : ℕ) (y : Saga × V) (P : Saga × V → Type 0) where
  all_put : (rows : List (Saga × V)) → P y → AllByRecursion P rows → AllByRecursion P (put (of_saga s) y rows)
  all_put [] p h = (p, tt)
  all_put (x ∷ rows) p h = cond_both (of_saga s x) _ _ (AllByRecursion P) (λ _. (p, h.1)) (λ _. (h.0, all_put rows p h.1))

  all_cut : (rows : List (Saga × V)) → AllByRecursion P rows → AllByRecursion P (cut (of_saga s) rows)
  all_cut [] h = h
  all_cut (x ∷ rows) h = cond_both (of_saga s x) _ _ (AllByRecursion P) (λ _. h.1) (λ _. (h.0, all_cut rows h.1))

  all_placed : (rows : List (Saga × V)) → P y → AllByRecursion P rows → AllByRecursion P (placed s y rows)
  all_placed rows p h = cond_both (is_open y.0.phase) _ _ (AllByRecursion P) (λ _. all_put rows p h) (λ _. all_cut rows h)

-- what holds of every note
module _ {V : Type 0} (P : V → Type 0) (s : ℕ) where
  abbrev Noted : List (Saga × V) → Type 0
  Noted rows = AllByRecursion (λ (x : Saga × V). P x.1) rows

  noted_moves : (n : ℕ) (e : Event) (t : Sagas V) → Noted t.rows → Noted (moves n s e t).1.rows
  noted_moves n e t h = by_it (first (of_saga s) t.rows) (λ x q. all_first (of_saga s) (λ (y : Saga × V). P y.1) t.rows x h q)
    where
      by_it : (o : Option (Saga × V)) → ((x : Saga × V) → o ≡ Some x → P x.1) → Noted (moves_by n s e t o).1.rows
      by_it None f = h
      by_it (Some x) f = cond_both (lawful n x.0 e) _ _ (λ (y : Bool × Sagas V). Noted y.1.rows) (λ _. all_placed s (next x.0 e, x.1) (λ (y : Saga × V). P y.1) t.rows (f x refl) h) (λ _. h)

  noted_begins : (v : V) (t : Sagas V) → P v → Noted t.rows → Noted (begins s v t).1.rows
  noted_begins v t p h = cond_both (may_begin s t) _ _ (λ (y : Bool × Sagas V). Noted y.1.rows) (λ _. All-push (λ (y : Saga × V). P y.1) t.rows (begun s, v) h p) (λ _. h)

  noted_applied : (n : ℕ) (e : Event) (v : V) (t : Sagas V) → P v → Noted t.rows → Noted (applied n s e v t).1.rows
  noted_applied n Begin v t p h = noted_begins v t p h
  noted_applied n e v t p h = noted_moves n e t h

  noted_if : (n : ℕ) (o : Option Event) (v : V) (t : Sagas V) → P v → Noted t.rows → Noted (applied_if n s o v t).1.rows
  noted_if n None v t p h = h
  noted_if n (Some e) v t p h = noted_applied n e v t p h

-- all notes of a reading are the one it was made with
pub noted_read : {V : Type 0} (P : V → Type 0) (n : ℕ) (v : V) (i : ℕ) (t t' : Sagas V) (rs : List Record) → P v → AllByRecursion (λ (x : Saga × V). P x.1) t.rows → read_from n v i t rs ≡ Ok t' → AllByRecursion (λ (x : Saga × V). P x.1) t'.rows
noted_read P n v i t t' [] p h e = let same : t ≡ t' = cc in rw (← same) h
noted_read P n v i t t' (x ∷ rs) p h e = noted_read P n v (i + 1) (taken n v t x).1 t' rs p (noted_if P x.saga n (event_of x) v t p h) (read_on (taken n v t x).0 _ i t' e).1
