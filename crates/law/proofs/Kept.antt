-- Every lawful record keeps the order of steps and sagas.
use Rattle.std.proofs.Common.{◌≡◌, ℕ, zero, suc, ◌+◌, ◌-◌, ◌<◌, ◌≤◌, Bool, true, false, cond, ◌&&◌, eqb, ltb, leb, List, [], ◌∷◌, ◌++◌, length, take, Some, None, Ok, Err, Option, Result, sym, refl, ap, ◌∙◌, arith}
use Rattle.std.specs.List.{slice_get, remove, AllByRecursion}
use Rattle.std.proofs.lemmas.List.{length-append, length-take}
use Rattle.std.proofs.lemmas.Bool.{cond_both, cond-true, ltb-true, leb-true, and_parts}
use Rattle.std.proofs.ByRecursion.{All-weaker, All-push, All-take}
use Rattle.bounded.specs.Firsts.{cut, put, first}
use Rattle.record.specs.declared.Record.{Record}
use Rattle.law.specs.declared.event.Step.{Step}
use Rattle.law.specs.declared.event.Phase.{Phase}
use Rattle.law.specs.declared.event.Phase.TheVariants.{Running, Pending, Closed}
use Rattle.law.specs.declared.event.Aim.TheVariants.{Stepping, Retreating}
use Rattle.law.specs.declared.event.Event.{Event}
use Rattle.law.specs.declared.event.Event.TheVariants.{Begin, Intent, Done, Refused, Mark, Join, Back, Undone, Finish, Settled}
use Rattle.law.specs.Events.{event_of}
use Rattle.law.specs.Law.{Saga, begun, in_bank, lawful, next, is_open, retreat, retreat_by, retreat_on, finishing, target, with_pending, without_last, if_running, if_stepping, if_retreating}
use Rattle.law.specs.Sagas.{Sagas, sagas, of_saga, placed, may_begin, begins, moves_by, moves, applied, applied_if, taken, read_from}
use Rattle.law.proofs.Bares.{all_first, read_on}
use Rattle.law.specs.Keeps.{Rising, Pends, Sound, Ordered, Keeps, Readings}

-- steps in order
rising_high : (g l m : ℕ) (ts : List Step) → l ≤ m → Rising g l ts → Rising g m ts
rising_high g l m [] h r = tt
rising_high g l m (t ∷ ts) h r = (r.0, omega (arith, r.1), rising_high t.number l m ts h r.2)

rising_low : (g k l : ℕ) (ts : List Step) → k ≤ g → Rising g l ts → Rising k l ts
rising_low g k l [] h r = tt
rising_low g k l (t ∷ ts) h r = (omega (arith, r.0), r.1, r.2)

pub rising_take : (k g l : ℕ) (ts : List Step) → Rising g l ts → Rising g l (take k ts)
rising_take zero g l [] r = tt
rising_take zero g l (t ∷ ts) r = tt
rising_take (suc k) g l [] r = tt
rising_take (suc k) g l (t ∷ ts) r = (r.0, r.1, rising_take k t.number l ts r.2)

rising_push : (g l : ℕ) (ts : List Step) (t : Step) → g < t.number → t.number ≤ l → AllByRecursion (λ (u : Step). u.number < t.number) ts → Rising g l ts → Rising g l (ts ++ t ∷ [])
rising_push g l [] t a b h r = (a, b, tt)
rising_push g l (u ∷ ts) t a b h r = (r.0, r.1, rising_push u.number l ts t h.0 b h.1 r.2)

rising_below : (g l m : ℕ) (ts : List Step) → l < m → Rising g l ts → AllByRecursion (λ (u : Step). u.number < m) ts
rising_below g l m [] h r = tt
rising_below g l m (t ∷ ts) h r = (omega (arith, r.1), rising_below t.number l m ts h r.2)

rising_rest : (l : ℕ) (ts : List Step) → Rising 0 l ts → Rising 0 l (remove ts 0)
rising_rest l [] r = tt
rising_rest l (t ∷ ts) r = rising_low t.number 0 l ts (omega arith) r.2

-- the phase that a retreat or a finish comes to
retreat_pends : (g d l : ℕ) (ts : List Step) → is_open (retreat g d ts) ≡ true → Pends (retreat g d ts) l ts
retreat_pends g d l ts h = by_it (slice_get ts (length ts - 1)) refl h
  where
    over : (b : Bool) → is_open (cond b Closed Running) ≡ true → Pends (cond b Closed Running) l ts
    over true e = absurd cc
    over false e = tt

    by_it : (o : Option Step) → slice_get ts (length ts - 1) ≡ o → is_open (retreat_by g d o) ≡ true → Pends (retreat_by g d o) l ts
    by_it None q o = over (eqb d 0) o
    by_it (Some t) q o = cond_both (ltb g t.number) _ _ (λ p. is_open p ≡ true → Pends p l ts) (λ e _. (q, ltb-true g t.number e)) (λ _ k. over (eqb d 0) k) o

finish_pends : (l : ℕ) (ts : List Step) → is_open (finishing ts) ≡ true → Pends (finishing ts) l ts
finish_pends l [] h = absurd cc
finish_pends l (t ∷ ts) h = refl

-- what a lawful Done finds
stands_next : (p : Phase) (k l : ℕ) (ts : List Step) → if_stepping p (λ t. eqb k t.number) ≡ true → Pends p l ts → Rising 0 l ts → Rising 0 l (with_pending p ts)
stands_next (Pending Stepping t) k l ts e q r =
    let same : t.number ≡ l = q.0 in
    let below : AllByRecursion (λ (u : Step). u.number < t.number) ts = rw same q.2 in
    rising_push 0 l ts t (omega (arith, q.1)) (omega arith) below r
stands_next p k l ts e q r = absurd cc

undone_pends : (p : Phase) (k l : ℕ) (ts : List Step) → if_retreating p (λ t. eqb k t.number) ≡ true → is_open (retreat_on p ts) ≡ true → Pends (retreat_on p ts) l ts
undone_pends (Pending (Retreating g d) t) k l ts e o = retreat_pends g d l ts o
undone_pends p k l ts e o = absurd cc

-- what a check of the phase says
pub runs_only : (p : Phase) (b : Bool) → if_running p b ≡ true → (p ≡ Running) × (b ≡ true)
runs_only Running b h = (refl, h)
runs_only p b h = absurd cc

-- a lawful record that leaves its saga open keeps it sound
module _ (n : ℕ) (s : Saga) (h : Sound s) where
  sound_intent : (t : Step) → lawful n s (Intent t) ≡ true → Sound (next s (Intent t))
  sound_intent t e =
      let r = (runs_only s.phase _ e).1 in
      let a = and_parts (eqb t.number (s.last + 1)) (leb t.number 32 && in_bank n t.participant) r in
      let b = and_parts (leb t.number 32) (in_bank n t.participant) a.1 in
      let one : t.number ≡ s.last + 1 = grind (arith, a.0) in
      let few : t.number ≤ 32 = grind (arith, b.0) in
      record {
        issued = few;
        rises = rising_high 0 s.last t.number s.standing (omega arith) h.rises;
        few_marks = h.few_marks;
        marked = All-weaker (λ m. m ≤ s.last) (λ m. m ≤ t.number) (λ m q. omega (arith, q, one)) s.marks h.marked;
        pends = (refl, omega arith, rising_below 0 s.last t.number s.standing (omega arith) h.rises);
      }

  sound_done : (i : ℕ) → lawful n s (Done i) ≡ true → Sound (next s (Done i))
  sound_done i e = record { issued = h.issued; rises = stands_next s.phase i s.last s.standing e h.pends h.rises; few_marks = h.few_marks; marked = h.marked; pends = tt }

  sound_mark : lawful n s Mark ≡ true → Sound (next s Mark)
  sound_mark e =
      let r = (runs_only s.phase _ e).1 in
      let few : length s.marks < 8 = grind (arith, r) in
      record {
        issued = h.issued;
        rises = h.rises;
        few_marks = simp length-append (omega arith);
        marked = All-push (λ m. m ≤ s.last) s.marks s.last h.marked (omega arith);
        pends = tt;
      }

  fewer_marks : (i : ℕ) → length (take i s.marks) ≤ 8
  fewer_marks i = omega (arith, length-take i s.marks, h.few_marks)

  sound_join : Sound (next s Join)
  sound_join = record { issued = h.issued; rises = h.rises; few_marks = fewer_marks (length s.marks - 1); marked = All-take (λ m. m ≤ s.last) (length s.marks - 1) s.marks h.marked; pends = tt }

  sound_back : (d : ℕ) → is_open (next s (Back d)).phase ≡ true → Sound (next s (Back d))
  sound_back d o = record { issued = h.issued; rises = h.rises; few_marks = fewer_marks d; marked = All-take (λ m. m ≤ s.last) d s.marks h.marked; pends = retreat_pends (target s.marks d) d s.last s.standing o }

  sound_undone : (i : ℕ) → lawful n s (Undone i) ≡ true → is_open (next s (Undone i)).phase ≡ true → Sound (next s (Undone i))
  sound_undone i e o = record { issued = h.issued; rises = rising_take (length s.standing - 1) 0 s.last s.standing h.rises; few_marks = h.few_marks; marked = h.marked; pends = undone_pends s.phase i s.last (without_last s.standing) e o }

  sound_finish : is_open (next s Finish).phase ≡ true → Sound (next s Finish)
  sound_finish o = record { issued = h.issued; rises = h.rises; few_marks = h.few_marks; marked = h.marked; pends = finish_pends s.last s.standing o }

  sound_settled : (i : ℕ) → is_open (next s (Settled i)).phase ≡ true → Sound (next s (Settled i))
  sound_settled i o = record { issued = h.issued; rises = rising_rest s.last s.standing h.rises; few_marks = h.few_marks; marked = h.marked; pends = finish_pends s.last (remove s.standing 0) o }

  sound_next : (e : Event) → lawful n s e ≡ true → is_open (next s e).phase ≡ true → Sound (next s e)
  sound_next Begin l o = h
  sound_next (Intent t) l o = sound_intent t l
  sound_next (Done i) l o = sound_done i l
  sound_next (Refused i c) l o = record { issued = h.issued; rises = h.rises; few_marks = h.few_marks; marked = h.marked; pends = tt }
  sound_next Mark l o = sound_mark l
  sound_next Join l o = sound_join
  sound_next (Back d) l o = sound_back d o
  sound_next (Undone i) l o = sound_undone i l o
  sound_next Finish l o = sound_finish o
  sound_next (Settled i) l o = sound_settled i o

pub next_number : (s : Saga) (e : Event) → (next s e).number ≡ s.number
next_number s Begin = refl
next_number s e = refl

sound_begun : (n : ℕ) → Sound (begun n)
sound_begun n = record { issued = omega arith; rises = tt; few_marks = omega arith; marked = tt; pends = tt }

pub sound_open : (s : Saga) → Sound s → is_open s.phase ≡ true
sound_open s h = go s.phase h.pends
  where
    go : (p : Phase) → Pends p s.last s.standing → is_open p ≡ true
    go Running q = refl
    go (Pending a t) q = refl
    go Closed q = absurd q

-- sagas in order
module _ {V : Type 0} where
  ordered_low : (g m l : ℕ) (rows : List (Saga × V)) → m ≤ g → Ordered g l rows → Ordered m l rows
  ordered_low g m l [] h r = tt
  ordered_low g m l (x ∷ rows) h r = (omega (arith, r.0), r.1, r.2, r.3)

  ordered_push : (g l n : ℕ) (v : V) (rows : List (Saga × V)) → g ≤ l → l < n → Ordered g l rows → Ordered g n (rows ++ (begun n, v) ∷ [])
  ordered_push g l n v [] a b r = (omega arith, omega arith, sound_begun n, tt)
  ordered_push g l n v (x ∷ rows) a b r = (r.0, omega (arith, r.1), r.2, ordered_push x.0.number l n v rows r.1 b r.3)

  module _ (s : ℕ) where
    ordered_cut : (g l : ℕ) (rows : List (Saga × V)) → Ordered g l rows → Ordered g l (cut (of_saga s) rows)
    ordered_cut g l [] r = tt
    ordered_cut g l (x ∷ rows) r = cond_both (of_saga s x) _ _ (Ordered g l) (λ _. ordered_low x.0.number g l rows (omega (arith, r.0)) r.3) (λ _. (r.0, r.1, r.2, ordered_cut x.0.number l rows r.3))

    cut_few : (rows : List (Saga × V)) → length (cut (of_saga s) rows) ≤ length rows
    cut_few [] = omega arith
    cut_few (x ∷ rows) = grind (arith, cut_few rows)

    module _ (x y : Saga × V) (same : y.0.number ≡ x.0.number) (new : Sound y.0) where
      ordered_put : (g l : ℕ) (rows : List (Saga × V)) → Ordered g l rows → first (of_saga s) rows ≡ Some x → Ordered g l (put (of_saga s) y rows)
      ordered_put g l [] r e = absurd cc
      ordered_put g l (w ∷ rows) r e = go (of_saga s w) (ordered_put w.0.number l rows r.3) e
        where
          go : (b : Bool) → (first (of_saga s) rows ≡ Some x → Ordered w.0.number l (put (of_saga s) y rows)) → cond b (Some w) (first (of_saga s) rows) ≡ Some x → Ordered g l (cond b (y ∷ rows) (w ∷ put (of_saga s) y rows))
          go true ih q =
              let is : w ≡ x = cc in
              let n : w.0.number ≡ y.0.number = ap (λ (z : Saga × V). z.0.number) is ∙ sym same in
              (omega (arith, r.0, n), omega (arith, r.1, n), new, rw (← n) r.3)
          go false ih q = (r.0, r.1, r.2, ih q)

      put_few : (rows : List (Saga × V)) → first (of_saga s) rows ≡ Some x → length (put (of_saga s) y rows) ≤ length rows
      put_few [] e = absurd cc
      put_few (w ∷ rows) e = grind (arith, put_few rows)

  -- a row that is found
  in_order : (g l : ℕ) (rows : List (Saga × V)) → Ordered g l rows → AllByRecursion (λ (x : Saga × V). (x.0.number ≤ l) × Sound x.0) rows
  in_order g l [] r = tt
  in_order g l (x ∷ rows) r = ((r.1, r.2), in_order x.0.number l rows r.3)

  pub keeps_row : (s : ℕ) (t : Sagas V) (x : Saga × V) → Keeps t → first (of_saga s) t.rows ≡ Some x → (x.0.number ≤ t.top) × Sound x.0
  keeps_row s t x h q = all_first (of_saga s) _ t.rows x (in_order 0 t.top t.rows h.ordered) q

  keeps_begins : (s : ℕ) (v : V) (t : Sagas V) → Keeps t → Keeps (begins s v t).1
  keeps_begins s v t h =
      cond_both (may_begin s t) _ _ (λ (y : Bool × Sagas V). Keeps y.1) (λ e.
      let a = and_parts (ltb t.top s) (leb s 1000000 && ltb (length t.rows) 8) e in
      let b = and_parts (leb s 1000000) (ltb (length t.rows) 8) a.1 in
      let above = ltb-true t.top s a.0 in
      let room = ltb-true (length t.rows) 8 b.1 in
      record { in_range = leb-true s 1000000 b.0; few = simp length-append (omega arith); ordered = ordered_push 0 t.top s v t.rows (omega arith) above h.ordered }) (λ _. h)

  keeps_moves : (k : ℕ) (s : ℕ) (e : Event) (t : Sagas V) → Keeps t → Keeps (moves k s e t).1
  keeps_moves k s e t h = by_it (first (of_saga s) t.rows) refl
    where
      placed_keeps : (x : Saga × V) → first (of_saga s) t.rows ≡ Some x → lawful k x.0 e ≡ true → Keeps (sagas t.top (placed s (next x.0 e, x.1) t.rows))
      placed_keeps x q l =
          let y : Saga × V = (next x.0 e, x.1) in
          cond_both (is_open y.0.phase) _ _ (λ (rows : List (Saga × V)). Keeps (sagas t.top rows)) (λ o.
          let new = sound_next k x.0 (keeps_row s t x h q).1 e l o in
          let same = next_number x.0 e in
          record { in_range = h.in_range; few = omega (arith, put_few s x y same new t.rows q, h.few); ordered = ordered_put s x y same new 0 t.top t.rows h.ordered q }) (λ _.
          record { in_range = h.in_range; few = omega (arith, cut_few s t.rows, h.few); ordered = ordered_cut s 0 t.top t.rows h.ordered })

      by_it : (o : Option (Saga × V)) → first (of_saga s) t.rows ≡ o → Keeps (moves_by k s e t o).1
      by_it None q = h
      by_it (Some x) q = cond_both (lawful k x.0 e) _ _ (λ (y : Bool × Sagas V). Keeps y.1) (placed_keeps x q) (λ _. h)

  keeps_applied : (k : ℕ) (s : ℕ) (e : Event) (v : V) (t : Sagas V) → Keeps t → Keeps (applied k s e v t).1
  keeps_applied k s Begin v t h = keeps_begins s v t h
  keeps_applied k s e v t h = keeps_moves k s e t h

  pub keeps_if : (k s : ℕ) (o : Option Event) (v : V) (t : Sagas V) → Keeps t → Keeps (applied_if k s o v t).1
  keeps_if k s None v t h = h
  keeps_if k s (Some e) v t h = keeps_applied k s e v t h

  -- over a list
  module _ (n : ℕ) (v : V) where
    keeps_read : (rs : List Record) (i : ℕ) (t u : Sagas V) → Keeps t → read_from n v i t rs ≡ Ok u → Keeps u
    keeps_read [] i t u h e = let same : t ≡ u = cc in rw (← same) h
    keeps_read (r ∷ rs) i t u h e = keeps_read rs (i + 1) (taken n v t r).1 u (keeps_if n r.saga (event_of r) v t h) (read_on (taken n v t r).0 _ i u e).1

    front_read : (rs more : List Record) (i : ℕ) (t u : Sagas V) → read_from n v i t (rs ++ more) ≡ Ok u → (w : Sagas V) × (read_from n v i t rs ≡ Ok w)
    front_read [] more i t u e = (t, refl)
    front_read (r ∷ rs) more i t u e = let q = read_on (taken n v t r).0 _ i u e in let w = front_read rs more (i + 1) (taken n v t r).1 u q.1 in (w.0, cond-true (taken n v t r).0 _ _ q.0 ∙ w.1)

    first_read : (rs more : List Record) (i j : ℕ) (t : Sagas V) → read_from n v i t rs ≡ Err j → (j < i + length rs) × (read_from n v i t (rs ++ more) ≡ Err j)
    first_read [] more i j t e = absurd cc
    first_read (r ∷ rs) more i j t e = go (taken n v t r).0 (first_read rs more (i + 1) j (taken n v t r).1) e
      where
        go : (b : Bool) → (read_from n v (i + 1) (taken n v t r).1 rs ≡ Err j → (j < i + 1 + length rs) × (read_from n v (i + 1) (taken n v t r).1 (rs ++ more) ≡ Err j)) → ◌≡◌ {A = Result (Sagas V) ℕ} (cond b (read_from n v (i + 1) (taken n v t r).1 rs) (Err i)) (Err j) → (j < i + suc (length rs)) × (◌≡◌ {A = Result (Sagas V) ℕ} (cond b (read_from n v (i + 1) (taken n v t r).1 (rs ++ more)) (Err i)) (Err j))
        go true ih q = let w = ih q in (omega (arith, w.0), w.1)
        go false ih q = let same : i ≡ j = cc in (omega arith, q)

  pub none_open : Keeps (sagas {V = V} 0 [])
  none_open = record { in_range = omega arith; few = omega arith; ordered = tt }

  pub readings : Readings V
  readings = record {
    keeps = λ n v rs t e. keeps_read n v rs 0 (sagas 0 []) t none_open e;
    front = λ n v rs more t e. front_read n v rs more 0 (sagas 0 []) t e;
    within = λ n v rs i e. let w = first_read n v rs [] 0 i (sagas 0 []) e in omega (arith, w.0);
    first = λ n v rs more i e. (first_read n v rs more 0 i (sagas 0 []) e).1;
    undone_first = λ n v. refl;
    step_again = λ v q. refl;
  }
