-- A library's search of items, as a search of what they mean.
use Rattle.std.proofs.Common.{◌≡◌, ℕ, ◌+◌, Bool, List, [], ◌∷◌, map, refl, arith}
use Rattle.std.specs.List.{position_from}
use Rattle.bounded.specs.Firsts.{place_from}

pub placed_from : {X Y : Type 0} (p : Y → Bool) (f : X → Y) (n : ℕ) (xs : List X) → position_from (λ x. p (f x)) n xs ≡ place_from n p (map f xs)
placed_from p f n [] = refl
placed_from p f n (x ∷ xs) = grind (arith, placed_from p f (n + 1) xs)
