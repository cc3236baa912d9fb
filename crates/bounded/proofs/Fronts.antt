-- The front of a list.
use Rattle.std.proofs.Common.{◌≡◌, ℕ, ◌+◌, ◌-◌, ◌<◌, ◌≤◌, List, ◌++◌, length, take, drop, set, sym, ap, ◌∙◌, add-one, arith}
use Rattle.std.proofs.Math.Seq.{take-set-lt, take-paste}
use Rattle.std.specs.List.{remove, copy_within}
use Rattle.std.proofs.lemmas.List.{length-take, length-drop, take-take, drop-take}
use Rattle.bounded.specs.declared.Bounded.{Bounded}
use Rattle.bounded.specs.Held.{held}

pub front_set : {T : Type 0} (xs : List T) (n i : ℕ) (x : T) → i < n → take n (set xs i x) ≡ set (take n xs) i x
front_set xs n i x h = take-set-lt n xs i x h

-- the items behind i, copied one place to the front
pub front_moved : {T : Type 0} (xs : List T) (i n : ℕ) → n ≤ length xs → i < n → take (n - 1) (copy_within xs (i + 1) n i) ≡ remove (take n xs) i
front_moved xs i n fits h =
    let m = n - (i + 1) in
    let a : n - 1 ≡ i + m = omega arith in
    let b : i + 1 + m ≡ n = omega arith in
    ap (λ j. take j (copy_within xs (i + 1) n i)) a
    ∙ take-paste xs i (drop (i + 1) xs) m (omega arith) (omega (arith, length-drop (i + 1) xs))
    ∙ ap (λ t. t ++ take m (drop (i + 1) xs)) (sym (take-take i n xs (omega arith)))
    ∙ ap (λ t. take i (take n xs) ++ t) (sym (drop-take (i + 1) m xs) ∙ ap (λ j. drop (i + 1) (take j xs)) b ∙ ap (λ j. drop j (take n xs)) (add-one i))

pub held_fits : {T : Type 0} {n : ℕ} (b : Bounded T n) → length (held b) ≤ n
held_fits b = omega (arith, b.fits, length-take b.len b.items)
