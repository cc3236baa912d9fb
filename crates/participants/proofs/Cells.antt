-- Cells and sums over entries.
use Rattle.std.proofs.Common.{◌≡◌, ℕ, ◌+◌, ◌<◌, ◌≤◌, eqb, List, [], ◌∷◌, ◌++◌, map, length, get_or, take, drop, Some, option_map, sum_by, refl, sym, subst, arith}
use Rattle.std.specs.List.{find, slice_get}
use Rattle.std.proofs.lemmas.List.Sums.{sum_by-cons}
use Rattle.std.proofs.ByRecursion.{All-get_or}
use Rattle.terms.specs.declared.Request.{Request}
use Rattle.participants.specs.declared.cell.Cell.{Cell}
use Rattle.participants.specs.declared.cell.Side.{Side}
use Rattle.participants.specs.Effects.{effect}
use Rattle.participants.specs.Party.{value_in, raised, Raisable}
use Rattle.participants.proofs.Over.{over_read}

-- a value by number is the library's `find`, and then the value
pub value_word : (n : ℕ) (xs : List Cell) → value_in n xs ≡ option_map (λ (x : Cell). x.value) (find (λ (x : Cell). eqb x.number n) xs)
value_word n [] = refl
value_word n (x ∷ xs) = let i = value_word n xs in grind arith

pub sum_both : {X : Type 0} (f g : X → ℕ) (xs : List X) → sum_by (λ x. f x + g x) xs ≡ sum_by f xs + sum_by g xs
sum_both f g [] = refl
sum_both f g (x ∷ xs) = omega (arith, sum_both f g xs, sum_by-cons (λ y. f y + g y) x xs, sum_by-cons f x xs, sum_by-cons g x xs)

pub raisable_at : (s : Side) (q : Request) (xs : List Cell) (i : ℕ) (x : Cell) → i < length xs → x ≡ get_or xs i x → Raisable s q xs → x.value + effect s x.number q ≤ 1000000
unfolding Raisable
raisable_at s q xs i x h e r =
    let P : Cell → Type 0 = λ y. y.value + effect s y.number q ≤ 1000000 in
    subst P (sym e) (All-get_or P xs i x h r)

-- what a loop that raises reads is still the old cell
pub raisable_read : (s : Side) (q : Request) (xs ys : List Cell) (i : ℕ) (x : Cell) → ys ≡ map (raised s q) (take i xs) ++ drop i xs → i < length xs → Some x ≡ slice_get ys i → Raisable s q xs → x.value + effect s x.number q ≤ 1000000
raisable_read s q xs ys i x so_far h e r = raisable_at s q xs i x h (over_read (raised s q) xs ys i so_far h x e) r
