-- Each search is the library's word for it.
use Rattle.std.proofs.Common.{◌≡◌, ℕ, ◌+◌, Bool, cond, ◌||◌, ◌&&◌, List, [], ◌∷◌, Some, refl, sym, ap, ◌∙◌}
use Rattle.std.specs.List.{list_any, list_all, find, position, position_from}
use Rattle.std.proofs.lemmas.Iterator.Adapters.{position_from-zero}
use Rattle.bounded.specs.Firsts.{any, every, place_from, place, first}

module _ {X : Type 0} (p : X → Bool) where
  pub any_word : (xs : List X) → any p xs ≡ list_any p xs
  any_word [] = refl
  any_word (x ∷ xs) = ap (λ b. p x || b) (any_word xs)

  pub every_word : (xs : List X) → every p xs ≡ list_all p xs
  every_word [] = refl
  every_word (x ∷ xs) = ap (λ b. p x && b) (every_word xs)

  place_from_word : (n : ℕ) (xs : List X) → place_from n p xs ≡ position_from p n xs
  place_from_word n [] = refl
  place_from_word n (x ∷ xs) = ap (λ o. cond (p x) (Some n) o) (place_from_word (n + 1) xs)

  pub place_word : (xs : List X) → place p xs ≡ position p xs
  place_word xs = place_from_word 0 xs ∙ sym (position_from-zero p xs)

  pub first_word : (xs : List X) → first p xs ≡ find p xs
  first_word [] = refl
  first_word (x ∷ xs) = ap (λ o. cond (p x) (Some x) o) (first_word xs)
