-- A search of a list of meanings, by the items that have them.
use Rattle.std.proofs.Common.{◌≡◌, ℕ, zero, suc, ◌<◌, Bool, List, [], ◌∷◌, map, length, option_map, set, Some, None, sym, refl, ap, ◌∙◌, arith}
use lib.ListN.{length-map}
use Rattle.std.specs.List.{slice_get, remove}
use Rattle.std.proofs.lemmas.List.{map-set}
use Rattle.std.proofs.lemmas.Option.{slice_get-map}
use Rattle.bounded.specs.Firsts.{place, cut, put, first}
use Rattle.bounded.proofs.Laws.{Found, found, place_none, first_none}

map_removed : {X Y : Type 0} (f : X → Y) (xs : List X) (i : ℕ) → map f (remove xs i) ≡ remove (map f xs) i
map_removed f [] zero = refl
map_removed f [] (suc i) = refl
map_removed f (x ∷ xs) zero = refl
map_removed f (x ∷ xs) (suc i) = ap (λ l. f x ∷ l) (map_removed f xs i)

nth_some : {X : Type 0} (xs : List X) (i : ℕ) → i < length xs → None ≡ slice_get xs i → ⊥
nth_some [] i h e = omega arith
nth_some (x ∷ xs) zero h e = grind arith
nth_some (x ∷ xs) (suc i) h e = nth_some xs i (omega arith) e

-- its answer
module _ {X Y : Type 0} (p : Y → Bool) (f : X → Y) (xs : List X) where
  pub first_not : None ≡ place p (map f xs) → first p (map f xs) ≡ None
  first_not h = first_none p (map f xs) (place_none p 0 (map f xs) (sym h))

  module _ (i : ℕ) (at : Some i ≡ place p (map f xs)) where
    there : Found p (map f xs) i
    there = found p i (map f xs) (sym at)

    pub first_at : (x : X) → Some x ≡ slice_get xs i → first p (map f xs) ≡ Some (f x)
    first_at x h = there.item ∙ slice_get-map f xs i ∙ ap (option_map f) (sym h)

    pub place_held : None ≡ slice_get xs i → ⊥
    place_held h = let l = length-map xs f in let b = there.within in nth_some xs i (omega arith) h

    pub put_at : (x : X) → map f (set xs i x) ≡ put p (f x) (map f xs)
    put_at x = map-set f xs i x ∙ there.replaced (f x)

    pub cut_at : map f (remove xs i) ≡ cut p (map f xs)
    cut_at = map_removed f xs i ∙ there.without
