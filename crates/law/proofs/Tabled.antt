-- The table of rows as the list of sagas that it means.
use Rattle.std.proofs.Common.{◌≡◌, ℕ, Bool, true, false, cond, List, [], ◌∷◌, map, set, Some, None, sym, refl, ap, ◌∙◌, arith}
use Rattle.std.specs.List.{slice_get, remove}
use Rattle.bounded.specs.Firsts.{place, cut, put, first}
use Rattle.bounded.proofs.Mapped.{first_not, first_at, put_at, cut_at}
use Rattle.law.specs.declared.event.Event.{Event}
use Rattle.law.specs.Law.{Saga, lawful, next, moved, is_open}
use Rattle.law.specs.Sagas.{sagas, of_saga, moves, moves_by, renoted}

-- the two answers of a move
abbrev Told : Type 0
Told = Bool × Saga

unlawful_is : (b : Bool) (x y z : Saga) → ◌≡◌ {A = Told} (false, z) (cond b (true, x) (false, y)) → b ≡ false
unlawful_is b x y z e = grind arith

lawful_is : (b : Bool) (x y z : Saga) → ◌≡◌ {A = Told} (true, z) (cond b (true, x) (false, y)) → (b ≡ true) × (z ≡ x)
lawful_is b x y z e = (grind arith, grind arith)

module _ {X V : Type 0} (f : X → Saga × V) where
  module _ (n top s : ℕ) (e : Event) (xs : List X) where
    pub move_none : None ≡ place (of_saga s) (map f xs) → (false, sagas top (map f xs)) ≡ moves n s e (sagas top (map f xs))
    move_none h = sym (ap (moves_by n s e (sagas top (map f xs))) (first_not (of_saga s) f xs h))

    module _ (i : ℕ) (o : X) (at : Some i ≡ place (of_saga s) (map f xs)) (read : Some o ≡ slice_get xs i) where
      by_it : moves n s e (sagas top (map f xs)) ≡ moves_by n s e (sagas top (map f xs)) (Some (f o))
      by_it = ap (moves_by n s e (sagas top (map f xs))) (first_at (of_saga s) f xs i at o read)

      pub move_not : (z : Saga) → (false, z) ≡ moved n (f o).0 e → (false, sagas top (map f xs)) ≡ moves n s e (sagas top (map f xs))
      move_not z h = let b = unlawful_is (lawful n (f o).0 e) (next (f o).0 e) (f o).0 z h in sym (by_it ∙ rw b refl)

      module _ (z : Saga) (went : (true, z) ≡ moved n (f o).0 e) where
        is_lawful : lawful n (f o).0 e ≡ true
        is_lawful = (lawful_is (lawful n (f o).0 e) (next (f o).0 e) (f o).0 z went).0

        is_next : z ≡ next (f o).0 e
        is_next = (lawful_is (lawful n (f o).0 e) (next (f o).0 e) (f o).0 z went).1

        pub move_stays : (ys : List X) (o' : X) → is_open z.phase ≡ true → f o' ≡ (z, (f o).1) → ys ≡ set xs i o' → (true, sagas top (map f ys)) ≡ moves n s e (sagas top (map f xs))
        move_stays ys o' open' m w =
            let op : is_open (next (f o).0 e).phase ≡ true = ap (λ (y : Saga). is_open y.phase) (sym is_next) ∙ open' in
            let rows : map f ys ≡ put (of_saga s) (next (f o).0 e, (f o).1) (map f xs) = ap (map f) w ∙ put_at (of_saga s) f xs i at o' ∙ ap (λ y. put (of_saga s) y (map f xs)) (m ∙ ap (λ (y : Saga). (y, (f o).1)) is_next) in
            sym (by_it ∙ rw (is_lawful, op) (ap (λ l. (true, sagas top l)) (sym rows)))

        pub move_leaves : (ys : List X) → is_open z.phase ≡ false → ys ≡ remove xs i → (true, sagas top (map f ys)) ≡ moves n s e (sagas top (map f xs))
        move_leaves ys shut w =
            let op : is_open (next (f o).0 e).phase ≡ false = ap (λ (y : Saga). is_open y.phase) (sym is_next) ∙ shut in
            let rows : map f ys ≡ cut (of_saga s) (map f xs) = ap (map f) w ∙ cut_at (of_saga s) f xs i at in
            sym (by_it ∙ rw (is_lawful, op) (ap (λ l. (true, sagas top l)) (sym rows)))

renoted_none : {V : Type 0} (s : ℕ) (v : V) (rows : List (Saga × V)) → first (of_saga s) rows ≡ None → renoted s v rows ≡ rows
renoted_none s v [] h = refl
renoted_none s v (x ∷ rows) h = grind (arith, renoted_none s v rows)

renoted_index : {V : Type 0} (s : ℕ) (v : V) (y : Saga × V) (rows : List (Saga × V)) → first (of_saga s) rows ≡ Some y → put (of_saga s) (y.0, v) rows ≡ renoted s v rows
renoted_index s v y [] r = absurd cc
renoted_index s v y (x ∷ rows) r = grind (arith, renoted_index s v y rows)

module _ {X V : Type 0} (f : X → Saga × V) (s : ℕ) (v : V) (xs : List X) where
  pub note_none : None ≡ place (of_saga s) (map f xs) → map f xs ≡ renoted s v (map f xs)
  note_none h = sym (renoted_none s v (map f xs) (first_not (of_saga s) f xs h))

  pub note_at : (i : ℕ) (o o' : X) (ys : List X) → Some i ≡ place (of_saga s) (map f xs) → Some o ≡ slice_get xs i → f o' ≡ ((f o).0, v) → ys ≡ set xs i o' → map f ys ≡ renoted s v (map f xs)
  note_at i o o' ys at read m w =
      ap (map f) w ∙ put_at (of_saga s) f xs i at o' ∙ ap (λ y. put (of_saga s) y (map f xs)) m
      ∙ renoted_index s v (f o) (map f xs) (first_at (of_saga s) f xs i at o read)
