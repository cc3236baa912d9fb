-- What a look-up finds once the row of one saga is replaced or taken out: for the other sagas the same.
use Rattle.std.proofs.Common.{◌≡◌, ℕ, ◌<◌, ◌≤◌, Bool, cond, List, [], ◌∷◌, ◌++◌, map, Some, None, Option, refl, ◌∙◌, arith}
use Rattle.std.proofs.lemmas.Bool.{cond_both, cond-true, cond-false, eq-eqb, ne_eqb, eqb-true}
use Rattle.std.proofs.lemmas.Bool.Decides.{nat_tests}
use Rattle.bounded.specs.Firsts.{first, put, cut}
use Rattle.law.specs.Keeps.{Ordered}
use Rattle.law.specs.Law.{Saga, is_open}
use Rattle.law.specs.Sagas.{of_saga, placed, renoted}
use Rattle.law.specs.Bare.{row_bare}

module _ {V : Type 0} where
  module _ (s r : ℕ) (apart : s ≡ r → ⊥) where
    cut_other : (rows : List (Saga × V)) → first (of_saga r) (cut (of_saga s) rows) ≡ first (of_saga r) rows
    cut_other [] = refl
    cut_other (x ∷ rows) = grind (arith, nat_tests, cut_other rows)

    put_other : (y : Saga × V) → y.0.number ≡ s → (rows : List (Saga × V)) → first (of_saga r) (put (of_saga s) y rows) ≡ first (of_saga r) rows
    put_other y own [] = grind (arith, nat_tests)
    put_other y own (x ∷ rows) = grind (arith, nat_tests, put_other y own rows)

    -- another saga's record changes nothing of this one
    pub placed_other : (y : Saga × V) → y.0.number ≡ s → (rows : List (Saga × V)) → first (of_saga r) (placed s y rows) ≡ first (of_saga r) rows
    placed_other y own rows = grind (arith, put_other y own rows, cut_other rows)

    -- one row more, and another note
    pub push_other : (y : Saga × V) → y.0.number ≡ s → (rows : List (Saga × V)) → first (of_saga r) (rows ++ y ∷ []) ≡ first (of_saga r) rows
    push_other y own [] = grind (arith, nat_tests)
    push_other y own (x ∷ rows) = grind (arith, push_other y own rows)

    pub note_other : (v : V) (rows : List (Saga × V)) → first (of_saga r) (renoted s v rows) ≡ first (of_saga r) rows
    note_other v [] = refl
    note_other v (x ∷ rows) = grind (arith, nat_tests, note_other v rows)

  -- rows in the order of their numbers hold none below the first or above the last
  above_none : (s g l : ℕ) (rows : List (Saga × V)) → s ≤ g → Ordered g l rows → first (of_saga s) rows ≡ None
  above_none s g l [] h r = refl
  above_none s g l (x ∷ rows) h r = cond-false _ _ _ (ne_eqb x.0.number s (λ e. omega (arith, e, r.0))) ∙ above_none s x.0.number l rows (omega (arith, r.0)) r.3

  pub below_none : (s g l : ℕ) (rows : List (Saga × V)) → l < s → Ordered g l rows → first (of_saga s) rows ≡ None
  below_none s g l [] h r = refl
  below_none s g l (x ∷ rows) h r = cond-false _ _ _ (ne_eqb x.0.number s (λ e. omega (arith, e, r.1))) ∙ below_none s x.0.number l rows h r.3

  pub push_own : (s : ℕ) (y : Saga × V) → y.0.number ≡ s → (rows : List (Saga × V)) → first (of_saga s) rows ≡ None → first (of_saga s) (rows ++ y ∷ []) ≡ Some y
  push_own s y own [] h = cond-true _ _ _ (eq-eqb y.0.number s own)
  push_own s y own (x ∷ rows) h = grind (arith, push_own s y own rows)

  -- the row of the saga's own, once it is replaced
  cut_own : (s g l : ℕ) (rows : List (Saga × V)) → Ordered g l rows → first (of_saga s) (cut (of_saga s) rows) ≡ None
  cut_own s g l [] r = refl
  cut_own s g l (x ∷ rows) r =
      cond_both (of_saga s x) _ _ (λ (k : List (Saga × V)). first (of_saga s) k ≡ None) (λ e. above_none s x.0.number l rows (omega (arith, eqb-true x.0.number s e)) r.3) (λ e. cond-false _ _ _ e ∙ cut_own s x.0.number l rows r.3)

  put_own : (s : ℕ) (y : Saga × V) → y.0.number ≡ s → (rows : List (Saga × V)) (x : Saga × V) → first (of_saga s) rows ≡ Some x → first (of_saga s) (put (of_saga s) y rows) ≡ Some y
  put_own s y own [] x f = absurd cc
  put_own s y own (r ∷ rows) x f = grind (arith, eq-eqb y.0.number s own, put_own s y own rows x)

  pub placed_own : (s : ℕ) (y : Saga × V) → y.0.number ≡ s → (g l : ℕ) (rows : List (Saga × V)) (x : Saga × V) → Ordered g l rows → first (of_saga s) rows ≡ Some x → first (of_saga s) (placed s y rows) ≡ cond (is_open y.0.phase) (Some y) None
  placed_own s y own g l rows x r f = grind (arith, put_own s y own rows x f, cut_own s g l rows r)

  abbrev pub re_noted : V → Option (Saga × V) → Option (Saga × V)
  re_noted v None = None
  re_noted v (Some x) = Some (x.0, v)

  pub re_noted_open : (b : Bool) (z : Saga) (u v : V) → re_noted v (cond b (Some (z, u)) None) ≡ cond b (Some (z, v)) None
  re_noted_open b z u v = grind arith

  pub note_own : (s : ℕ) (v : V) (rows : List (Saga × V)) → first (of_saga s) (renoted s v rows) ≡ re_noted v (first (of_saga s) rows)
  note_own s v [] = refl
  note_own s v (x ∷ rows) = grind (arith, note_own s v rows)

  pub first_number : (s : ℕ) (rows : List (Saga × V)) (x : Saga × V) → first (of_saga s) rows ≡ Some x → x.0.number ≡ s
  first_number s [] x f = absurd cc
  first_number s (r ∷ rows) x f = grind (arith, nat_tests, first_number s rows x)

-- rows are in order with their notes as without
pub ordered_bare : {V : Type 0} (g l : ℕ) (rows : List (Saga × V)) → Ordered g l (map row_bare rows) → Ordered g l rows
ordered_bare g l [] r = tt
ordered_bare g l (x ∷ rows) r = (r.0, r.1, r.2, ordered_bare x.0.number l rows r.3)
