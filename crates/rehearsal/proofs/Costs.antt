-- A record uses a place, and lowers by one or more what is owed, but for what its call wanted free.
use Rattle.std.proofs.Common.{◌≡◌, ℕ, ◌+◌, ◌-◌, ◌≤◌, false, cond, eqb, List, [], ◌∷◌, length, take, Some, None, sum_by, Option, refl, ap, arith, Err, Ok}
use Rattle.std.specs.List.{remove, slice_get}
use Rattle.std.proofs.lemmas.List.Sums.{sum_by-cons}
use Rattle.std.proofs.lemmas.List.{length-take, length-append}
use Rattle.std.proofs.lemmas.List.Edits.{length-remove}
use Rattle.std.proofs.lemmas.Option.{slice_get_within}
use Rattle.std.proofs.lemmas.Bool.{cond_both}
use Rattle.bounded.specs.Firsts.{first, put, cut}
use Rattle.law.specs.Outcomes.{Outcome}
use Rattle.law.specs.declared.event.Aim.{Aim}
use Rattle.law.specs.declared.event.Aim.TheVariants.{Stepping, Retreating, Finishing}
use Rattle.law.specs.declared.event.Step.{Step}
use Rattle.law.specs.declared.event.Event.{Event}
use Rattle.law.specs.declared.event.Event.TheVariants.{Intent, Mark, Join, Back, Finish}
use Rattle.law.specs.declared.event.Phase.{Phase}
use Rattle.law.specs.declared.event.Phase.TheVariants.{Running, Pending, Closed}
use Rattle.law.specs.Keeps.{Pends, Sound}
use Rattle.law.specs.Law.{Saga, saga, next, owes, owes_in, retreat_by, finishing, target, is_open}
use Rattle.law.specs.Sagas.{of_saga, placed}
use Rattle.runner.specs.Calls.{event_for}

-- one more while the way back leads to a mark
abbrev alive : ℕ → ℕ
alive d = cond (eqb d 0) 0 1

retreat_owes : (g d n : ℕ) (o : Option Step) → owes_in (retreat_by g d o) n ≤ n + alive d
retreat_owes g d n None = grind arith
retreat_owes g d n (Some t) = grind arith

ending_owes : (l : List Step) (n : ℕ) → owes_in (finishing l) n ≤ n
ending_owes [] n = omega arith
ending_owes (t ∷ l) n = omega arith

abbrev pub Cost : Saga → Event → ℕ → Type 0
Cost x e k = 1 + owes (next x e) ≤ owes x + k

module _ (x : Saga) (run : x.phase ≡ Running) where
  owes_running : owes x ≡ length x.standing + 1
  owes_running = ap (λ p. owes_in p (length x.standing)) run

  pub step_cost : (t : Step) → Cost x (Intent t) 3
  step_cost t = omega (arith, owes_running)

  pub mark_cost : Cost x Mark 1
  mark_cost = omega (arith, owes_running)

  pub join_cost : Cost x Join 1
  join_cost = omega (arith, owes_running)

  pub back_cost : (d : ℕ) → Cost x (Back d) 1
  back_cost d =
      let r = retreat_owes (target x.marks d) d (length x.standing) (slice_get x.standing (length x.standing - 1)) in
      let a : alive d ≤ 1 = grind arith in
      omega (arith, owes_running, r, a)

  pub cancel_cost : Cost x (Back 0) 0
  cancel_cost = omega (arith, owes_running, retreat_owes 0 0 (length x.standing) (slice_get x.standing (length x.standing - 1)))

  pub finish_cost : Cost x Finish 0
  finish_cost = omega (arith, owes_running, ending_owes x.standing (length x.standing))

abbrev of : ℕ → ℕ → List Step → List ℕ → Outcome → Phase → Saga
of n k l ms o p = saga n p k l ms o

-- the record of a call, by the phase it is made in
told_of : (n k : ℕ) (l : List Step) (ms : List ℕ) (o : Outcome) (a : Aim) (t : Step) (y : Outcome) → Pends (Pending a t) k l → Cost (of n k l ms o (Pending a t)) (event_for a t y) 0
told_of n k l ms o Stepping t (Ok z) h = omega (arith, length-append l (t ∷ []))
told_of n k l ms o Stepping t (Err c) h = omega arith
told_of n k l ms o (Retreating g d) t y h =
    let front = take (length l - 1) l in
    let some = slice_get_within l (length l - 1) t h.0 in
    omega (arith, some, length-take (length l - 1) l, retreat_owes g d (length front) (slice_get front (length front - 1)))
told_of n k l ms o Finishing t y h =
    let rest = remove l 0 in
    let some = slice_get_within l 0 t h in
    omega (arith, some, length-remove l 0 some, ending_owes rest (length rest))

pub told_cost : (x : Saga) (a : Aim) (t : Step) (y : Outcome) → x.phase ≡ Pending a t → Sound x → Cost x (event_for a t y) 0
told_cost x a t y e h =
    let same : x ≡ of x.number x.last x.standing x.marks x.outcome (Pending a t) = ap (of x.number x.last x.standing x.marks x.outcome) e in
    let h' : Pends (Pending a t) x.last x.standing = rw e at h.pends in
    rw same (told_of x.number x.last x.standing x.marks x.outcome a t y h')

-- the table with one row moved
abbrev pub Bare : Type 0
Bare = Saga × Unit {0}

abbrev pub owes_row : Bare → ℕ
owes_row x = owes x.0

module _ (s : ℕ) (y : Bare) where
  sum_put : (rows : List Bare) (x : Bare) → first (of_saga s) rows ≡ Some x → sum_by owes_row (put (of_saga s) y rows) + owes_row x ≡ sum_by owes_row rows + owes_row y
  sum_put [] x e = absurd cc
  sum_put (r ∷ rows) x e = grind (arith, sum_put rows x, sum_by-cons owes_row y rows, sum_by-cons owes_row r rows, sum_by-cons owes_row r (put (of_saga s) y rows))

  sum_cut : (rows : List Bare) (x : Bare) → first (of_saga s) rows ≡ Some x → sum_by owes_row (cut (of_saga s) rows) + owes_row x ≡ sum_by owes_row rows
  sum_cut [] x e = absurd cc
  sum_cut (r ∷ rows) x e = grind (arith, sum_cut rows x, sum_by-cons owes_row r rows, sum_by-cons owes_row r (cut (of_saga s) rows))

  owes_closed : (p : Phase) (n : ℕ) → is_open p ≡ false → owes_in p n ≡ 0
  owes_closed Running n h = absurd cc
  owes_closed (Pending a t) n h = absurd cc
  owes_closed Closed n h = refl

  pub sum_placed : (rows : List Bare) (x : Bare) → first (of_saga s) rows ≡ Some x → sum_by owes_row (placed s y rows) + owes_row x ≡ sum_by owes_row rows + owes_row y
  sum_placed rows x e =
      cond_both (is_open y.0.phase) _ _ (λ (l : List Bare). sum_by owes_row l + owes_row x ≡ sum_by owes_row rows + owes_row y) (λ _. sum_put rows x e) (λ c. omega (arith, owes_closed y.0.phase (length y.0.standing) c, sum_cut rows x e))

pub owes_within : (s : ℕ) (rows : List Bare) (x : Bare) → first (of_saga s) rows ≡ Some x → owes x.0 ≤ sum_by owes_row rows
owes_within s rows x f = omega (arith, sum_cut s x rows x f)
