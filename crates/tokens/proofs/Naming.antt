-- The number of a name.
use Rattle.std.proofs.Common.{◌≡◌, ℕ, zero, suc, ◌+◌, ◌*◌, ◌<◌, ◌≤◌, true, List, [], ◌∷◌, length, get_or, arith}
use Rattle.std.proofs.lemmas.Bool.Decides.{nat_tests}
use Rattle.tokens.specs.Bytes.{member, padded, EveryOf, NamesDiffer}
use Rattle.tokens.specs.declared.text.Class.TheVariants as class

-- a byte of a name is no zero byte
name_byte : (b : ℕ) → member class.Name b ≡ true → (1 ≤ b) × (b < 256)
name_byte b h = grind (arith, nat_tests)

small : (s : List ℕ) (i : ℕ) → EveryOf class.Name s → get_or s i 0 < 256
small [] i f = grind arith
small (b ∷ s) zero f = grind (arith, name_byte)
small (b ∷ s) (suc i) f = grind (arith, small s i f.1)

same_list : (n : ℕ) (s t : List ℕ) → EveryOf class.Name s → EveryOf class.Name t → length s ≤ n → length t ≤ n → ((i : ℕ) → i < n → get_or s i 0 ≡ get_or t i 0) → s ≡ t
same_list n [] [] f g p q h = grind arith
same_list n [] (b ∷ t) f g p q h = grind (arith, h 0, name_byte b g.0)
same_list n (a ∷ s) [] f g p q h = grind (arith, h 0, name_byte a f.0)
same_list zero (a ∷ s) (b ∷ t) f g p q h = grind arith
same_list (suc n) (a ∷ s) (b ∷ t) f g p q h = grind (arith, h 0, same_list n s t f.1 g.1 (omega arith) (omega arith) (λ i r. h (suc i) (omega (arith, r))))

-- eight numbers below 256, the high one first
horner : (s : List ℕ) → ℕ → ℕ
horner s zero = 0
horner s (suc i) = horner s i * 256 + get_or s i 0

digits : (s t : List ℕ) → EveryOf class.Name s → EveryOf class.Name t → (n : ℕ) → horner s n ≡ horner t n → (i : ℕ) → i < n → get_or s i 0 ≡ get_or t i 0
unfolding horner
digits s t f g zero h i r = grind arith
digits s t f g (suc n) h i r = grind (arith, digits s t f g n, small s n f, small t n g)

padded_horner : (s : List ℕ) → padded s ≡ horner s 8
unfolding horner
padded_horner s = omega arith

pub names_differ : NamesDiffer
names_differ s t f g p q h = same_list 8 s t f g p q (digits s t f g 8 (grind (arith, padded_horner)))
