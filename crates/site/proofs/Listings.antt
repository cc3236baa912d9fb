-- The cells of a list, one by one.
use Rattle.std.proofs.Common.{◌≡◌, ℕ, suc, ◌+◌, ◌<◌, List, [], ◌∷◌, ◌++◌, length, get_or, take, refl, ap, ◌∙◌, arith}
use Rattle.std.proofs.lemmas.List.{take_more, length-take-le}
use Rattle.participants.specs.declared.cell.Cell.{Cell}
use Rattle.site.specs.Listing.{cells_from}

module _ {L : Type 0} (f : L → ℕ → Cell) where
  pub cells_length : (n : ℕ) (xs : List L) → length (cells_from f n xs) ≡ length xs
  cells_length n [] = refl
  cells_length n (x ∷ xs) = ap suc (cells_length (n + 1) xs)

  cells_push : (n : ℕ) (xs : List L) (x : L) → cells_from f n (xs ++ x ∷ []) ≡ cells_from f n xs ++ f x (n + length xs) ∷ []
  cells_push n [] x = let e : n ≡ n + 0 = omega arith in ap (λ k. f x k ∷ []) e
  cells_push n (y ∷ xs) x =
      let e : n + 1 + length xs ≡ n + length (y ∷ xs) = omega arith in
      ap (λ t. f y n ∷ t) (cells_push (n + 1) xs x ∙ ap (λ k. cells_from f (n + 1) xs ++ f x k ∷ []) e)

  -- one more of the list
  pub cells_more : (xs : List L) (i : ℕ) (d : L) → i < length xs → cells_from f 1 (take (i + 1) xs) ≡ cells_from f 1 (take i xs) ++ f (get_or xs i d) (i + 1) ∷ []
  cells_more xs i d h =
      let e : 1 + length (take i xs) ≡ i + 1 = omega (arith, length-take-le i xs (omega arith)) in
      ap (cells_from f 1) (take_more xs i d h) ∙ cells_push 1 (take i xs) (get_or xs i d) ∙ ap (λ k. cells_from f 1 (take i xs) ++ f (get_or xs i d) k ∷ []) e
