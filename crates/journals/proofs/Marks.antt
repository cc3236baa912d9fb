-- What a chain over the slots of some bytes counts.
use Rattle.std.proofs.Common.{◌≡◌, ℕ, zero, suc, ◌+◌, ◌/◌, min, Bool, eqb, nat_eq, List, [], ◌∷◌, length, get_or, take, drop, sym, refl, ap, ◌∙◌, subst, arith}
use Rattle.std.specs.List.{starts_with, prefix_len}
use Rattle.std.specs.Iterator.{AlwaysYields}
use Rattle.std.specs.Slice.Iter.{chunks_exact_steps, chunks_exact_rest, chunks_exact_size}
use Rattle.std.proofs.lemmas.Iterator.{YieldsList}
use Rattle.std.proofs.lemmas.List.Folds.{length-prefix_len}
use Rattle.std.proofs.lemmas.List.{length-append, take_at, drop_at}
use Rattle.journals.specs.Bytes.{marked}

-- the first c slots
abbrev pub chunks : ℕ → List ℕ → List (List ℕ)
chunks zero s = []
chunks (suc c) s = take 32 s ∷ chunks c (drop 32 s)

pub take-chunks : (n c : ℕ) (s : List ℕ) → take n (chunks c s) ≡ chunks (min c n) s
take-chunks zero c s = let e : min c 0 ≡ 0 = omega arith in rw e refl
take-chunks (suc n) zero s = let e : min 0 (suc n) ≡ 0 = omega arith in rw e refl
take-chunks (suc n) (suc c) s =
    let e : min (suc c) (suc n) ≡ suc (min c n) = omega arith in
    rw e (ap (λ (xs : List (List ℕ)). take 32 s ∷ xs) (take-chunks n c (drop 32 s)))

-- a slot's test for the mark
abbrev pub is_marked : List ℕ → Bool
is_marked slot = starts_with nat_eq slot (90 ∷ [])

is_marked-take : (s : List ℕ) → is_marked (take 32 s) ≡ eqb (get_or s 0 0) 90
is_marked-take [] = refl
is_marked-take (b ∷ s) = grind arith

pub marked_prefix : (c : ℕ) (s : List ℕ) → prefix_len is_marked (chunks c s) ≡ marked c s
marked_prefix zero s = refl
marked_prefix (suc c) s =
    let e : 1 + marked c (drop 32 s) ≡ suc (marked c (drop 32 s)) = omega arith in
    simp (is_marked-take s, marked_prefix c (drop 32 s), e)

given : (c : ℕ) (it : _) → chunks_exact_size it ≡ 32 → length (chunks_exact_rest it) / 32 ≡ c → AlwaysYields chunks_exact_steps (λ x. x.now) it (chunks c (chunks_exact_rest it))
given zero it size l = λ x j step. absurd (omega (arith, size, l, step.1.1, ap length step.1.0, length-append x.now (chunks_exact_rest j)))
given (suc c) it size l = (
  λ j step. absurd (omega (arith, size, l, step.1.0)),
  λ x j step.
      let n : length x.now ≡ 32 = step.1.1 ∙ size in
      let first : take 32 (chunks_exact_rest it) ≡ x.now = ap (take 32) step.1.0 ∙ take_at x.now (chunks_exact_rest j) 32 n in
      let rest : chunks_exact_rest j ≡ drop 32 (chunks_exact_rest it) = sym (ap (drop 32) step.1.0 ∙ drop_at x.now (chunks_exact_rest j) 32 n) in
      let m : length (chunks_exact_rest j) / 32 ≡ c = omega (arith, l, n, ap length step.1.0, length-append x.now (chunks_exact_rest j)) in
      let P : List ℕ → Type 0 = λ t. AlwaysYields chunks_exact_steps (λ x. x.now) j (chunks c t) in
      (sym first, subst P rest (given c j (step.0 ∙ size) m)),
)

pub YieldsList-from_chunks : {it : _} (s : List ℕ) → chunks_exact_rest it ≡ s → chunks_exact_size it ≡ 32 → YieldsList chunks_exact_steps (λ x. x.now) it (chunks (length s / 32) s)
YieldsList-from_chunks {it} s rest size = let P : List ℕ → Type 0 = λ t. AlwaysYields chunks_exact_steps (λ x. x.now) it (chunks (length t / 32) t) in record { runs = subst P rest (given (length (chunks_exact_rest it) / 32) it size refl) }

-- the slots with the mark before the first without it, among the first n
pub count_marked : (n : ℕ) (s : List ℕ) → length (take (prefix_len is_marked (take n (chunks (length s / 32) s))) (take n (chunks (length s / 32) s))) ≡ marked (min (length s / 32) n) s
count_marked n s = length-prefix_len is_marked (take n (chunks (length s / 32) s)) ∙ ap (prefix_len is_marked) (take-chunks n (length s / 32) s) ∙ marked_prefix (min (length s / 32) n) s
