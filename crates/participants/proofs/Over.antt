-- A loop that reads each item and writes f of it in its place.
use Rattle.std.proofs.Common.{◌≡◌, ℕ, ◌+◌, ◌<◌, ◌≤◌, List, ◌++◌, map, length, get_or, take, drop, set, Some, Option, sym, ap, ◌∙◌, ⊎_elim, arith}
use Rattle.std.specs.List.{slice_get}
use Rattle.std.proofs.lemmas.List.{length-map, length-append, length-drop, length-take-le, drop_more, get_or_at, take_all, drop_all, append-nil}
use Rattle.std.proofs.lemmas.List.Edits.{map_over_more}
use Rattle.std.proofs.lemmas.Option.{slice_get_cases, get_or_from_slice_get}

module _ {X : Type 0} (f : X → X) (xs ys : List X) (i : ℕ) (so_far : ys ≡ map f (take i xs) ++ drop i xs) where
  pub over_length : i ≤ length xs → length ys ≡ length xs
  over_length h = ap length so_far ∙ length-append (map f (take i xs)) (drop i xs) ∙ omega (arith, length-map (take i xs) f, length-take-le i xs h, length-drop i xs)

  pub over_end : length xs ≤ i → ys ≡ map f xs
  over_end h = so_far ∙ ap (λ t. map f t ++ drop i xs) (take_all i xs h) ∙ ap (λ t. map f xs ++ t) (drop_all i xs h) ∙ append-nil (map f xs)

  module _ (h : i < length xs) where
    -- what is read at i is still the old item
    pub over_read : (x : X) → Some x ≡ slice_get ys i → x ≡ get_or xs i x
    over_read x e = sym (get_or_from_slice_get ys i x x (sym e)) ∙ ap (λ l. get_or l i x) (so_far ∙ ap (λ t. map f (take i xs) ++ t) (drop_more xs i x h)) ∙ get_or_at (map f (take i xs)) (get_or xs i x) (drop (i + 1) xs) x i (length-map (take i xs) f ∙ length-take-le i xs (omega arith))

    pub over_more : (x y : X) → Some x ≡ slice_get ys i → y ≡ f x → set ys i y ≡ map f (take (i + 1) xs) ++ drop (i + 1) xs
    over_more x y e q = ap (set ys i) q ∙ map_over_more f xs ys i x h so_far (sym (get_or_from_slice_get ys i x x (sym e)))

    -- and there is one
    pub over_never : (o : Option X) → o ≡ slice_get ys i → ((x : X) → o ≡ Some x → ⊥) → ⊥
    over_never o e k = ⊎_elim (λ w. k w.0 (e ∙ w.2)) (λ w. omega (arith, over_length (omega arith), w.0)) (slice_get_cases ys i).1
