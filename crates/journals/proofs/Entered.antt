-- One step of an iterator over the places of a list.
use Rattle.std.proofs.Common.{◌≡◌, ℕ, zero, suc, ◌+◌, ◌-◌, ◌<◌, List, [], ◌∷◌, length, take, drop, Option, None, Some, sym, refl, ap, ◌∙◌, subst, arith}
use Rattle.std.specs.List.{slice_get}
use Rattle.std.specs.Iterator.{YieldsFirst, MakesProgress, item_count}
use Rattle.std.specs.Option.{MatchOption}
use Rattle.std.proofs.lemmas.List.{take_all, drop_all}

module _ {X : Type 0} where
  abbrev left : List X → ℕ → ℕ → List X
  left xs a b = take (b - a) (drop a xs)

  abbrev Steps : List X → ℕ → ℕ → Option X → Type 0
  Steps xs a b r = MatchOption r ((left xs a b ≡ []) × (left xs (a + 1) b ≡ [])) (λ x. left xs a b ≡ x ∷ left xs (a + 1) b)

  none_left : (a b : ℕ) → left [] a b ≡ []
  none_left a b = ap (take (b - a)) (drop_all a [] (omega arith)) ∙ take_all (b - a) [] (omega arith)

  at_place : (xs : List X) (a b : ℕ) → a < b → Steps xs a b (slice_get xs a)
  at_place [] a b h = (none_left a b, none_left (a + 1) b)
  at_place (x ∷ xs) zero b h = let e : b - 0 ≡ suc (b - (0 + 1)) = omega arith in rw e refl
  at_place (x ∷ xs) (suc a) b h =
      let e : b - suc a ≡ (b - 1) - a = omega arith in
      let f : b - suc (a + 1) ≡ (b - 1) - (a + 1) = omega arith in
      let g : suc a + 1 ≡ suc (a + 1) = omega arith in
      rw (g, e, f) (at_place xs a (b - 1) (omega arith))

  pub step : (xs : List X) (a b c : ℕ) (r : Option X) → c ≡ a + 1 → a < b → r ≡ slice_get xs a → MatchOption r ((left xs a b ≡ []) × (left xs c b ≡ [])) (λ x. left xs a b ≡ x ∷ left xs c b)
  step xs a b c r e h is = rw e (let P : Option X → Type 0 = λ o. Steps xs a b o in subst P (sym is) (at_place xs a b h))

-- an iterator that shows the list of what is left goes on to its end
pub progress : {S A : Type 0} (can : S → Type 0) (rest : S → List A) (s t : S) (r : Option A) → ((u : S) → can u) → YieldsFirst rest s r t → MakesProgress can (item_count rest) s r t
progress can rest s t None all steps = record { on = λ _. tt; keeps = tt; rests = λ _. tt }
progress can rest s t (Some x) all steps = record { on = λ _. (all t, tt, omega (arith, ap length steps)); keeps = all t; rests = λ _. tt }
