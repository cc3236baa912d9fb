-- The first item that passes a test, taken out: what is left of a filter, a sum and a test.
use Rattle.std.proofs.Common.{◌≡◌, ℕ, ◌+◌, Bool, true, false, List, [], ◌∷◌, ◌++◌, sum_by, filter, refl, arith}
use Rattle.std.proofs.lemmas.List.Sums.{sum_by-cons}
use Rattle.bounded.specs.Firsts.{any, pick, cut}

module _ {X : Type 0} (p q : X → Bool) where
  -- p passes only what q passes
  pub kept_cut_in : ((x : X) → p x ≡ true → q x ≡ true) → (xs : List X) → filter q (cut p xs) ≡ cut p (filter q xs)
  kept_cut_in h [] = refl
  kept_cut_in h (x ∷ xs) = let ih = kept_cut_in h xs in let e = h x in grind arith

  pub kept_cut_out : ((x : X) → p x ≡ true → q x ≡ false) → (xs : List X) → filter q (cut p xs) ≡ filter q xs
  kept_cut_out h [] = refl
  kept_cut_out h (x ∷ xs) = let ih = kept_cut_out h xs in let e = h x in grind arith

module _ {X : Type 0} (p : X → Bool) where
  pub sum_cut : (f : X → ℕ) (d : X) (xs : List X) → any p xs ≡ true → f (pick p d xs) + sum_by f (cut p xs) ≡ sum_by f xs
  sum_cut f d [] h = absurd cc
  sum_cut f d (x ∷ xs) h = grind (arith, sum_cut f d xs, sum_by-cons f x xs, sum_by-cons f x (cut p xs))

  pub cut_none : (xs : List X) → any p xs ≡ false → cut p xs ≡ xs
  cut_none [] h = refl
  cut_none (x ∷ xs) h = grind (arith, cut_none xs)

  pub pick_passes : (d : X) (xs : List X) → any p xs ≡ true → p (pick p d xs) ≡ true
  pick_passes d [] h = absurd cc
  pick_passes d (x ∷ xs) h = grind (arith, pick_passes d xs)

  -- one more item at the end
  pub pick_push_old : (d y : X) (xs : List X) → any p xs ≡ true → pick p d (xs ++ y ∷ []) ≡ pick p d xs
  pick_push_old d y [] h = absurd cc
  pick_push_old d y (x ∷ xs) h = grind (arith, pick_push_old d y xs)

  pub pick_push_new : (d y : X) (xs : List X) → any p xs ≡ false → p y ≡ true → pick p d (xs ++ y ∷ []) ≡ y
  pick_push_new d y [] h e = grind arith
  pick_push_new d y (x ∷ xs) h e = grind (arith, pick_push_new d y xs)

  pub any_push_old : (y : X) (xs : List X) → any p xs ≡ true → any p (xs ++ y ∷ []) ≡ true
  any_push_old y [] h = absurd cc
  any_push_old y (x ∷ xs) h = grind (arith, any_push_old y xs)

  pub any_push_new : (y : X) (xs : List X) → p y ≡ true → any p (xs ++ y ∷ []) ≡ true
  any_push_new y [] e = grind arith
  any_push_new y (x ∷ xs) e = grind (arith, any_push_new y xs e)
