-- A saga that the law's reading keeps sound, as calls meet it: its steps are apart, and the one that is pending stands last or first.
use Rattle.std.proofs.Common.{◌≡◌, ℕ, ◌+◌, ◌-◌, ◌<◌, ◌≤◌, Bool, true, false, eqb, List, [], ◌∷◌, ◌++◌, length, take, Some, None, Option, sym, refl, ap, ◌∙◌, inl, inr, arith}
use Rattle.std.specs.List.{remove, slice_get, AllByRecursion}
use Rattle.std.proofs.lemmas.List.{take_all, take_more}
use Rattle.std.proofs.lemmas.Option.{slice_get_within, get_or_from_slice_get}
use Rattle.std.proofs.ByRecursion.{All-weaker}
use Rattle.std.proofs.lemmas.Bool.{cond-true}
use Rattle.std.proofs.lemmas.Bool.Decides.{nat_tests}
use Rattle.law.specs.declared.event.Aim.TheVariants.{Stepping, Retreating, Finishing}
use Rattle.law.specs.declared.event.Step.{Step}
use Rattle.law.specs.declared.event.Phase.{Phase}
use Rattle.law.specs.declared.event.Phase.TheVariants.{Running, Pending, Closed}
use Rattle.law.specs.Keeps.{Rising, Pends, Sound}
use Rattle.law.specs.Law.{Saga}
use Rattle.rehearsal.specs.Shows.{without}
use Rattle.rehearsal.proofs.Shown.{In, Apart, all_in, eqb_refl}

-- finishing, or retreating to 0
abbrev pub closing : Phase → Bool
closing Running = false
closing Closed = false
closing (Pending Stepping t) = false
closing (Pending (Retreating g d) t) = eqb d 0
closing (Pending Finishing t) = true

abbrev pub closing_of : Option Saga → Bool
closing_of None = false
closing_of (Some x) = closing x.phase

pub rising_apart : (g n : ℕ) (l : List Step) → Rising g n l → AllByRecursion (λ (u : Step). g < u.number) l × Apart l
rising_apart g n [] r = (tt, tt)
rising_apart g n (t ∷ l) r =
    let k = rising_apart t.number n l r.2 in
    let up = r.0 in
    ((up, All-weaker (λ (u : Step). t.number < u.number) (λ (u : Step). g < u.number) (λ u h. omega (arith, h, up)) l k.0), k)

pub apart_of : (x : Saga) → Sound x → Apart x.standing
apart_of x s = (rising_apart 0 x.last x.standing s.rises).1

-- the step that stands last, and the first
pub ends_with : (l : List Step) (t : Step) → slice_get l (length l - 1) ≡ Some t → l ≡ take (length l - 1) l ++ t ∷ []
ends_with l t e =
    let i = length l - 1 in
    let h = slice_get_within l i t e in
    sym (take_all (i + 1) l (omega (arith, h))) ∙ take_more l i t h ∙ ap (λ (u : Step). take i l ++ u ∷ []) (get_or_from_slice_get l i t t e)

pub starts_with : (l : List Step) (t : Step) → slice_get l 0 ≡ Some t → l ≡ t ∷ remove l 0
starts_with [] t e = absurd cc
starts_with (u ∷ l) t e = cc

-- something stands of a saga on its way out
pub stands_in : (p : Phase) (n : ℕ) (l : List Step) → Pends p n l → closing p ≡ true → 1 ≤ length l
stands_in (Pending (Retreating g d) t) n l h c = omega (arith, slice_get_within l (length l - 1) t h.0)
stands_in (Pending Finishing t) n l h c = slice_get_within l 0 t h
stands_in p n l h c = absurd cc

pub in_last : (front : List Step) (t : Step) → In t (front ++ t ∷ [])
in_last [] t = inl refl
in_last (u ∷ front) t = inr (in_last front t)

pub without_last : (front : List Step) (t : Step) → Apart (front ++ t ∷ []) → without t (front ++ t ∷ []) ≡ front
without_last [] t a = cond-true (eqb t.number t.number) _ _ (eqb_refl t.number)
without_last (u ∷ front) t a = let less = all_in (λ (v : Step). u.number < v.number) t (front ++ t ∷ []) a.0 (in_last front t) in grind (arith, nat_tests, without_last front t a.1)

pub without_first : (t : Step) (rest : List Step) → without t (t ∷ rest) ≡ rest
without_first t rest = cond-true (eqb t.number t.number) _ _ (eqb_refl t.number)
