-- What every lawful journal keeps: its open sagas are sound, their steps are those that were issued, and only a finished saga has settled ones.
use Rattle.std.proofs.Common.{◌≡◌, ℕ, ◌+◌, ◌-◌, ◌<◌, ◌≤◌, Bool, true, false, cond, ◌&&◌, ◌||◌, eqb, ltb, List, [], ◌∷◌, ◌++◌, length, get_or, Some, None, Ok, Option, sym, refl, ap, ◌∙◌, subst, ⊎_elim, append_assoc, append-nil, arith}
use Rattle.std.specs.List.{remove, slice_get, AllByRecursion}
use Rattle.std.proofs.ByRecursion.{All-push, All-weaker, All-take, All-get_or}
use Rattle.std.proofs.lemmas.Option.{slice_get-get_or}
use Rattle.std.proofs.lemmas.Bool.{both_ways, cond_both, cond-true, cond-false, cases_eq, cases_lt, eqb-true, ne_eqb, ltb-true, and_left, and_parts}
use Rattle.std.proofs.Math.Bool.{or_assoc}
use Rattle.std.proofs.lemmas.Bool.Decides.{nat_tests}
use Rattle.bounded.specs.Firsts.{any, pick, first}
use Rattle.law.specs.Outcomes.{Outcome}
use Rattle.law.specs.declared.event.Aim.TheVariants.{Stepping, Retreating, Finishing}
use Rattle.law.specs.declared.event.Step.{Step}
use Rattle.record.specs.declared.Record.{Record}
use Rattle.law.specs.declared.event.Event.{Event}
use Rattle.law.specs.declared.event.Event.TheVariants.{Begin, Intent, Done, Refused, Mark, Join, Back, Undone, Finish, Settled}
use Rattle.law.specs.declared.event.Phase.{Phase}
use Rattle.law.specs.declared.event.Phase.TheVariants.{Running, Pending, Closed}
use Rattle.law.specs.Events.{event_of, record_of}
use Rattle.law.specs.Keeps.{Rising, Sound, Keeps}
use Rattle.law.proofs.Bares.{read_on}
use Rattle.law.proofs.Kept.{keeps_if, keeps_row, next_number, none_open, rising_take, runs_only, sound_open}
use Rattle.law.proofs.Said.{reads_back}
use Rattle.law.specs.Law.{Saga, saga, begun, next, lawful, retreat, retreat_by, retreat_on, back_at, finishing, target, if_running, if_retreating, is_open}
use Rattle.law.specs.Sagas.{sagas, of_saga, placed, moves, moves_by, begins, may_begin, applied, applied_if, taken, reading, read_from}
use Rattle.rehearsal.specs.Shows.{ends, ends_by, ended, heard, issue, issued, settling, settled_among, settled_steps, no_step}
use Rattle.rehearsal.proofs.Cuts.{pick_push_old, pick_push_new, any_push_old, any_push_new}
use Rattle.rehearsal.proofs.Looks.{placed_other, placed_own, push_other, push_own, below_none, first_number}
use Rattle.rehearsal.proofs.Costs.{Bare}
use Rattle.rehearsal.proofs.Rooms.{Plain}
use Rattle.rehearsal.proofs.Shown.{eqb_refl}
use Rattle.rehearsal.proofs.Sounds.{closing, rising_apart}

-- one record more
heard_more : (f : Event → List Step → List Step) → ((e : Event) (l m : List Step) → f e (l ++ m) ≡ f e l ++ m) → (o : Option Event) (l m : List Step) → heard f o (l ++ m) ≡ heard f o l ++ m
heard_more f h None l m = refl
heard_more f h (Some e) l m = h e l m

issue_more : (s n : ℕ) (e : Event) (l m : List Step) → issue s n e (l ++ m) ≡ issue s n e l ++ m
issue_more s n (Intent t) l m = grind arith
issue_more s n e l m = refl

issued_push : (s : ℕ) (rs : List Record) (r : Record) → issued s (rs ++ r ∷ []) ≡ issued s rs ++ heard (issue s r.saga) (event_of r) []
issued_push s [] r = refl
issued_push s (x ∷ rs) r = ap (heard (issue s x.saga) (event_of x)) (issued_push s rs r) ∙ heard_more (issue s x.saga) (issue_more s x.saga) (event_of x) (issued s rs) (heard (issue s r.saga) (event_of r) [])

settling_more : (a : List Step) (s n : ℕ) (e : Event) (l m : List Step) → settling a s n e (l ++ m) ≡ settling a s n e l ++ m
settling_more a s n (Settled k) l m = grind arith
settling_more a s n e l m = refl

settled_push : (a : List Step) (s : ℕ) (rs : List Record) (r : Record) → settled_among a s (rs ++ r ∷ []) ≡ settled_among a s rs ++ heard (settling a s r.saga) (event_of r) []
settled_push a s [] r = refl
settled_push a s (x ∷ rs) r = ap (heard (settling a s x.saga) (event_of x)) (settled_push a s rs r) ∙ heard_more (settling a s x.saga) (settling_more a s x.saga) (event_of x) (settled_among a s rs) (heard (settling a s r.saga) (event_of r) [])

-- a record that says e of saga n
abbrev pub Says : Record → ℕ → Event → Type 0
Says r n e = (r.saga ≡ n) × (event_of r ≡ Some e)

pub said : (n : ℕ) (e : Event) → Says (record_of n e) n e
said n e = (reads_back.of_saga n e, reads_back.says n e)

issued_said : (s : ℕ) (rs : List Record) (r : Record) (n : ℕ) (e : Event) → Says r n e → issued s (rs ++ r ∷ []) ≡ issued s rs ++ issue s n e []
issued_said s rs r n e y = issued_push s rs r ∙ ap (λ (k : ℕ). issued s rs ++ heard (issue s k) (event_of r) []) y.0 ∙ ap (λ (o : Option Event). issued s rs ++ heard (issue s n) o []) y.1

settled_said : (a : List Step) (s : ℕ) (rs : List Record) (r : Record) (n : ℕ) (e : Event) → Says r n e → settled_among a s (rs ++ r ∷ []) ≡ settled_among a s rs ++ settling a s n e []
settled_said a s rs r n e y = settled_push a s rs r ∙ ap (λ (k : ℕ). settled_among a s rs ++ heard (settling a s k) (event_of r) []) y.0 ∙ ap (λ (o : Option Event). settled_among a s rs ++ heard (settling a s n) o []) y.1

-- a record of another saga
issue_other : (s n : ℕ) (e : Event) → (n ≡ s → ⊥) → issue s n e [] ≡ []
issue_other s n (Intent t) d = cond-false (eqb n s) _ _ (ne_eqb n s d)
issue_other s n e d = refl

settling_other : (a : List Step) (s n : ℕ) (e : Event) → (n ≡ s → ⊥) → settling a s n e [] ≡ []
settling_other a s n (Settled k) d = cond-false (eqb n s) _ _ (ne_eqb n s d)
settling_other a s n e d = refl

module _ (s n : ℕ) (e : Event) (apart : n ≡ s → ⊥) (rs : List Record) (r : Record) (y : Says r n e) where
  pub issued_other : issued s (rs ++ r ∷ []) ≡ issued s rs
  issued_other = issued_said s rs r n e y ∙ ap (λ (l : List Step). issued s rs ++ l) (issue_other s n e apart) ∙ append-nil (issued s rs)

  pub among_other : (a : List Step) → settled_among a s (rs ++ r ∷ []) ≡ settled_among a s rs
  among_other a = settled_said a s rs r n e y ∙ ap (λ (l : List Step). settled_among a s rs ++ l) (settling_other a s n e apart) ∙ append-nil (settled_among a s rs)

  pub settled_other : settled_steps s (rs ++ r ∷ []) ≡ settled_steps s rs
  settled_other = among_other (issued s (rs ++ r ∷ [])) ∙ ap (λ (a : List Step). settled_among a s rs) issued_other

-- a record that tells of no end
or_false : (a b : Bool) → b ≡ false → (a || b) ≡ a
or_false a b e = grind arith

ended_push : (s : ℕ) (rs : List Record) (r : Record) → ended s (rs ++ r ∷ []) ≡ (ended s rs || ends_by s r.saga (event_of r))
ended_push s [] r = or_false (ends_by s r.saga (event_of r)) false refl
ended_push s (x ∷ rs) r = ap (λ (b : Bool). ends_by s x.saga (event_of x) || b) (ended_push s rs r) ∙ sym (or_assoc (ends_by s x.saga (event_of x)) (ended s rs) (ends_by s r.saga (event_of r)))

ended_said : (s : ℕ) (rs : List Record) (r : Record) (n : ℕ) (e : Event) → Says r n e → ended s (rs ++ r ∷ []) ≡ (ended s rs || ends s n e)
ended_said s rs r n e y = ended_push s rs r ∙ ap (λ (k : ℕ). ended s rs || ends_by s k (event_of r)) y.0 ∙ ap (λ (o : Option Event). ended s rs || ends_by s n o) y.1

ends_other : (s n : ℕ) (e : Event) → (n ≡ s → ⊥) → ends s n e ≡ false
ends_other s n (Back k) d = and_left _ _ (ne_eqb n s d)
ends_other s n Finish d = ne_eqb n s d
ends_other s n e d = refl

pub ended_other : (s n : ℕ) (e : Event) → (n ≡ s → ⊥) → (rs : List Record) (r : Record) → Says r n e → ended s (rs ++ r ∷ []) ≡ ended s rs
ended_other s n e d rs r y = ended_said s rs r n e y ∙ or_false (ended s rs) (ends s n e) (ends_other s n e d)

-- a step that the journal issued under its number
abbrev pub Known : List Step → Step → Type 0
Known a u = (any (λ (v : Step). eqb v.number u.number) a ≡ true) × (pick (λ (v : Step). eqb v.number u.number) no_step a ≡ u)

known_push : (a : List Step) (t u : Step) → Known a u → Known (a ++ t ∷ []) u
known_push a t u k = (any_push_old (λ (v : Step). eqb v.number u.number) t a k.0, pick_push_old (λ (v : Step). eqb v.number u.number) no_step t a k.0 ∙ k.1)

low_none : (n k : ℕ) (a : List Step) → AllByRecursion (λ (u : Step). u.number ≤ n) a → n < k → any (λ (v : Step). eqb v.number k) a ≡ false
low_none n k [] h l = refl
low_none n k (u ∷ a) h l = let le = h.0 in grind (arith, low_none n k a h.1 l, nat_tests)

known_new : (n : ℕ) (a : List Step) (t : Step) → AllByRecursion (λ (u : Step). u.number ≤ n) a → n < t.number → Known (a ++ t ∷ []) t
known_new n a t h l = (any_push_new (λ (v : Step). eqb v.number t.number) t a (eqb_refl t.number), pick_push_new (λ (v : Step). eqb v.number t.number) no_step t a (low_none n t.number a h l) (eqb_refl t.number))

-- the step in hand is one that was issued, and a retreat to depth 0 goes all the way
abbrev pub Steps : Phase → List Step → Type 0
Steps Running a = Unit {0}
Steps Closed a = Unit {0}
Steps (Pending Stepping t) a = Known a t
Steps (Pending (Retreating g d) t) a = d ≡ 0 → g ≡ 0
Steps (Pending Finishing t) a = Unit {0}

abbrev pub NoneSettled : ℕ → List Record → Type 0
NoneSettled s rs = (a : List Step) → settled_among a s rs ≡ []

abbrev pub Unsettled : Phase → ℕ → List Record → Type 0
Unsettled Running s rs = NoneSettled s rs
Unsettled Closed s rs = Unit {0}
Unsettled (Pending Stepping t) s rs = NoneSettled s rs
Unsettled (Pending (Retreating g d) t) s rs = NoneSettled s rs
Unsettled (Pending Finishing t) s rs = Unit {0}

-- what the records have of an open saga
pub record Lives (x : Saga) (s : ℕ) (rs : List Record) : Type 0 where
  pub known : AllByRecursion (Known (issued s rs)) x.standing
  pub low : AllByRecursion (λ (u : Step). u.number ≤ x.last) (issued s rs)
  pub step : Steps x.phase (issued s rs)
  pub unsettled : Unsettled x.phase s rs
  pub out : is_open x.phase ≡ true → ended s rs ≡ closing x.phase

lives_other : (x : Saga) (s n : ℕ) (e : Event) (rs : List Record) (r : Record) → Says r n e → (n ≡ s → ⊥) → Lives x s rs → Lives x s (rs ++ r ∷ [])
lives_other x s n e rs r y d h =
    let same = issued_other s n e d rs r y in
    record {
      known = subst (λ (a : List Step). AllByRecursion (Known a) x.standing) (sym same) h.known;
      low = subst (λ (a : List Step). AllByRecursion (λ (u : Step). u.number ≤ x.last) a) (sym same) h.low;
      step = subst (Steps x.phase) (sym same) h.step;
      unsettled = go x.phase h.unsettled;
      out = λ o. ended_other s n e d rs r y ∙ h.out o;
    }
  where
    go : (p : Phase) → Unsettled p s rs → Unsettled p s (rs ++ r ∷ [])
    go Running u = λ a. among_other s n e d rs r y a ∙ u a
    go Closed u = tt
    go (Pending Stepping t) u = λ a. among_other s n e d rs r y a ∙ u a
    go (Pending (Retreating g k) t) u = λ a. among_other s n e d rs r y a ∙ u a
    go (Pending Finishing t) u = tt

-- whether a record tells of a settled step, or of an issued one
abbrev pub SettlesNone : Event → Type 0
SettlesNone e = (a : List Step) (s : ℕ) → settling a s s e [] ≡ []

abbrev IssuesNone : Event → Type 0
IssuesNone e = (s : ℕ) → issue s s e [] ≡ []

module _ (s : ℕ) (rs : List Record) (r : Record) where
  abbrev grown : List Record
  grown = rs ++ r ∷ []

  pub issued_same : (e : Event) → Says r s e → IssuesNone e → issued s grown ≡ issued s rs
  issued_same e y h = issued_said s rs r s e y ∙ ap (λ (l : List Step). issued s rs ++ l) (h s) ∙ append-nil (issued s rs)

  issued_step : (t : Step) → Says r s (Intent t) → issued s grown ≡ issued s rs ++ t ∷ []
  issued_step t y = issued_said s rs r s (Intent t) y ∙ ap (λ (l : List Step). issued s rs ++ l) (cond-true (eqb s s) (t ∷ []) [] (eqb_refl s))

  none_more : (e : Event) → Says r s e → SettlesNone e → NoneSettled s rs → NoneSettled s grown
  none_more e y h u a = settled_said a s rs r s e y ∙ ap (λ (l : List Step). settled_among a s rs ++ l) (h a s) ∙ append-nil (settled_among a s rs) ∙ u a

  -- no step is settled by a record that does not say so
  pub settled_same : (e : Event) → Says r s e → SettlesNone e → NoneSettled s rs → settled_steps s grown ≡ settled_steps s rs
  settled_same e y h u = none_more e y h u (issued s grown) ∙ sym (u (issued s rs))

  pub settled_more : (t : Step) → Says r s (Settled t.number) → Known (issued s rs) t → settled_steps s grown ≡ settled_steps s rs ++ t ∷ []
  settled_more t y k =
      ap (λ (a : List Step). settled_among a s grown) (issued_same (Settled t.number) y (λ _. refl))
      ∙ settled_said (issued s rs) s rs r s (Settled t.number) y
      ∙ ap (λ (l : List Step). settled_steps s rs ++ l) (cond-true (eqb s s) _ _ (eqb_refl s) ∙ ap (λ (u : Step). u ∷ []) k.1)

  -- the phases that a way back or a finish comes to
  idle_unsettled : (d : ℕ) (qs : List Record) → NoneSettled s qs → Unsettled (back_at d) s qs
  idle_unsettled d qs u = cond_both (eqb d 0) Closed Running (λ (p : Phase). Unsettled p s qs) (λ _. tt) (λ _. u)

  back_unsettled : (g d : ℕ) (o : Option Step) (qs : List Record) → NoneSettled s qs → Unsettled (retreat_by g d o) s qs
  back_unsettled g d None qs u = idle_unsettled d qs u
  back_unsettled g d (Some t) qs u = cond_both (ltb g t.number) (Pending (Retreating g d) t) (back_at d) (λ (p : Phase). Unsettled p s qs) (λ _. u) (λ _. idle_unsettled d qs u)

  -- whether it has ended
  ended_same : (e : Event) → Says r s e → ends s s e ≡ false → ended s grown ≡ ended s rs
  ended_same e y h = ended_said s rs r s e y ∙ or_false (ended s rs) (ends s s e) h

  ended_now : (e : Event) (b : Bool) → Says r s e → ended s rs ≡ false → ends s s e ≡ b → ended s grown ≡ b
  ended_now e b y no' h = ended_said s rs r s e y ∙ ap (λ (a : Bool). a || ends s s e) no' ∙ h

  back_out : (g d : ℕ) (o : Option Step) → is_open (retreat_by g d o) ≡ true → eqb d 0 ≡ closing (retreat_by g d o)
  back_out g d None h = grind arith
  back_out g d (Some t) h = grind arith

  end_out : (l : List Step) → is_open (finishing l) ≡ true → true ≡ closing (finishing l)
  end_out [] h = absurd cc
  end_out (t ∷ l) h = refl

  end_unsettled : (l : List Step) (qs : List Record) → Unsettled (finishing l) s qs
  end_unsettled [] qs = tt
  end_unsettled (t ∷ l) qs = tt

  back_steps : (g d : ℕ) (o : Option Step) (a : List Step) → (d ≡ 0 → g ≡ 0) → Steps (retreat_by g d o) a
  back_steps g d o a z = go o
    where
      idle : Steps (back_at d) a
      idle = cond_both (eqb d 0) Closed Running (λ (p : Phase). Steps p a) (λ _. tt) (λ _. tt)

      go : (o : Option Step) → Steps (retreat_by g d o) a
      go None = idle
      go (Some t) = cond_both (ltb g t.number) (Pending (Retreating g d) t) (back_at d) (λ (p : Phase). Steps p a) (λ _. z) (λ _. idle)

  end_steps : (l a : List Step) → Steps (finishing l) a
  end_steps [] a = tt
  end_steps (t ∷ l) a = tt

  known_rest : (a l : List Step) → AllByRecursion (Known a) l → AllByRecursion (Known a) (remove l 0)
  known_rest a [] h = tt
  known_rest a (u ∷ l) h = h.1

  -- the facts but soundness, from one list of issued steps to the same
  record Rest (x : Saga) : Type 0 where
    known : AllByRecursion (Known (issued s rs)) x.standing
    low : AllByRecursion (λ (u : Step). u.number ≤ x.last) (issued s rs)
    step : Steps x.phase (issued s rs)
    unsettled : Unsettled x.phase s grown
    out : is_open x.phase ≡ true → ended s grown ≡ closing x.phase

  rest_lives : (x : Saga) (e : Event) → Says r s e → IssuesNone e → Rest x → Lives x s grown
  rest_lives x e y none q =
      let same = sym (issued_same e y none) in
      record {
        known = subst (λ (a : List Step). AllByRecursion (Known a) x.standing) same q.known;
        low = subst (λ (a : List Step). AllByRecursion (λ (u : Step). u.number ≤ x.last) a) same q.low;
        step = subst (Steps x.phase) same q.step;
        unsettled = q.unsettled;
        out = q.out;
      }

  module _ (b n k : ℕ) (l : List Step) (ms : List ℕ) (o : Outcome) where
    abbrev of : Phase → Saga
    of p = saga n p k l ms o

    running_none : (p : Phase) (c : Bool) → if_running p c ≡ true → Lives (of p) s rs → NoneSettled s rs
    running_none p c h v = subst (λ (q : Phase). Unsettled q s rs) (runs_only p c h).0 v.unsettled

    running_out : (p : Phase) (c : Bool) → if_running p c ≡ true → Lives (of p) s rs → ended s rs ≡ false
    running_out p c h v = subst (λ (q : Phase). is_open q ≡ true → ended s rs ≡ closing q) (runs_only p c h).0 v.out refl

    lives_of : (p : Phase) (e : Event) → Says r s e → lawful b (of p) e ≡ true → Lives (of p) s rs → Lives (next (of p) e) s grown
    lives_of p (Intent t) y h v =
        let is = eqb-true t.number (k + 1) (and_parts _ _ (runs_only p _ h).1).0 in
        let none = running_none p _ h v in
        let more = sym (issued_step t y) in
        record {
          known = subst (λ (a : List Step). AllByRecursion (Known a) l) more (All-weaker (Known (issued s rs)) (Known (issued s rs ++ t ∷ [])) (λ u k. known_push (issued s rs) t u k) l v.known);
          low = subst (λ (a : List Step). AllByRecursion (λ (u : Step). u.number ≤ t.number) a) more (All-push (λ (u : Step). u.number ≤ t.number) (issued s rs) t (All-weaker (λ (u : Step). u.number ≤ k) (λ (u : Step). u.number ≤ t.number) (λ u le. omega (arith, is, le)) (issued s rs) v.low) (omega arith));
          step = subst (λ (a : List Step). Known a t) more (known_new k (issued s rs) t v.low (omega (arith, is)));
          unsettled = none_more (Intent t) y (λ _ _. refl) none;
          out = λ _. ended_now (Intent t) false y (running_out p _ h v) refl;
        }
    lives_of (Pending Stepping t) (Done j) y h v = rest_lives _ (Done j) y (λ _. refl) (record { known = All-push (Known (issued s rs)) l t v.known v.step; low = v.low; step = tt; unsettled = none_more (Done j) y (λ _ _. refl) v.unsettled; out = λ _. ended_same (Done j) y refl ∙ v.out refl })
    lives_of (Pending Stepping t) (Refused j c) y h v = rest_lives _ (Refused j c) y (λ _. refl) (record { known = v.known; low = v.low; step = tt; unsettled = none_more (Refused j c) y (λ _ _. refl) v.unsettled; out = λ _. ended_same (Refused j c) y refl ∙ v.out refl })
    lives_of p Mark y h v = rest_lives _ Mark y (λ _. refl) (record { known = v.known; low = v.low; step = tt; unsettled = none_more Mark y (λ _ _. refl) (running_none p _ h v); out = λ _. ended_now Mark false y (running_out p _ h v) refl })
    lives_of p Join y h v = rest_lives _ Join y (λ _. refl) (record { known = v.known; low = v.low; step = tt; unsettled = none_more Join y (λ _ _. refl) (running_none p _ h v); out = λ _. ended_now Join false y (running_out p _ h v) refl })
    lives_of p (Back d) y h v = rest_lives _ (Back d) y (λ _. refl) (record { known = v.known; low = v.low; step = back_steps (target ms d) d _ (issued s rs) (ap (target ms)); unsettled = back_unsettled (target ms d) d _ grown (none_more (Back d) y (λ _ _. refl) (running_none p _ h v)); out = λ q. ended_now (Back d) (eqb d 0) y (running_out p _ h v) (ap (λ (b : Bool). b && eqb d 0) (eqb_refl s)) ∙ back_out (target ms d) d _ q })
    lives_of (Pending (Retreating g d) t) (Undone j) y h v = rest_lives _ (Undone j) y (λ _. refl) (record { known = All-take (Known (issued s rs)) (length l - 1) l v.known; low = v.low; step = back_steps g d _ (issued s rs) v.step; unsettled = back_unsettled g d _ grown (none_more (Undone j) y (λ _ _. refl) v.unsettled); out = λ q. ended_same (Undone j) y refl ∙ v.out refl ∙ back_out g d _ q })
    lives_of p Finish y h v = rest_lives _ Finish y (λ _. refl) (record { known = v.known; low = v.low; step = end_steps l (issued s rs); unsettled = end_unsettled l grown; out = λ q. ended_now Finish true y (running_out p _ h v) (eqb_refl s) ∙ end_out l q })
    lives_of (Pending Finishing t) (Settled j) y h v = rest_lives _ (Settled j) y (λ _. refl) (record { known = known_rest (issued s rs) l v.known; low = v.low; step = end_steps (remove l 0) (issued s rs); unsettled = end_unsettled (remove l 0) grown; out = λ q. ended_same (Settled j) y refl ∙ v.out refl ∙ end_out (remove l 0) q })
    lives_of p e y h v = absurd cc

  pub lives_next : (b : ℕ) (x : Saga) (e : Event) → Says r s e → lawful b x e ≡ true → Lives x s rs → Lives (next x e) s grown
  lives_next b x e y h v = lives_of b x.number x.last x.standing x.marks x.outcome x.phase e y h v

-- a saga that a record closes has nothing standing
retreat_none : (g d n : ℕ) (l : List Step) → (d ≡ 0 → g ≡ 0) → Rising 0 n l → is_open (retreat g d l) ≡ false → l ≡ []
retreat_none g d n [] z r c = refl
retreat_none g d n (u ∷ l) z r c =
    let i = length (u ∷ l) - 1 in
    let e : slice_get (u ∷ l) i ≡ Some (get_or (u ∷ l) i u) = slice_get-get_or (u ∷ l) i u (omega arith) in
    let some = All-get_or (λ (t : Step). 0 < t.number) (u ∷ l) i u (omega arith) (rising_apart 0 n (u ∷ l) r).0 in
    absurd (stays (get_or (u ∷ l) i u) some (subst (λ (o : Option Step). is_open (retreat_by g d o) ≡ false) e c))
  where
    stays : (t : Step) → 0 < t.number → is_open (retreat_by g d (Some t)) ≡ false → ⊥
    stays t h k = grind (arith, nat_tests)

undone_none : (p : Phase) (k n : ℕ) (l a : List Step) → if_retreating p (λ t. eqb k t.number) ≡ true → Steps p a → Rising 0 n l → is_open (retreat_on p l) ≡ false → l ≡ []
undone_none (Pending (Retreating g d) t) k n l a h z r c = retreat_none g d n l z r c
undone_none p k n l a h z r c = absurd cc

end_none : (l : List Step) → is_open (finishing l) ≡ false → l ≡ []
end_none [] c = refl
end_none (t ∷ l) c = absurd cc

pub closed_none : (n : ℕ) (x : Saga) (e : Event) (a : List Step) → lawful n x e ≡ true → Sound x → Steps x.phase a → is_open (next x e).phase ≡ false → (next x e).standing ≡ []
closed_none n x (Back d) a h s z c = retreat_none (target x.marks d) d x.last x.standing (ap (target x.marks)) s.rises c
closed_none n x (Undone k) a h s z c = undone_none x.phase k x.last _ a h z (rising_take (length x.standing - 1) 0 x.last x.standing s.rises) c
closed_none n x Finish a h s z c = end_none x.standing c
closed_none n x (Settled k) a h s z c = end_none (remove x.standing 0) c
closed_none n x e a h s z c = absurd cc

-- the whole table
pub record Good (rs : List Record) (t : Plain) : Type 0 where
  pub keeps : Keeps t
  pub fresh : (s : ℕ) → t.top < s → (issued s rs ≡ []) × NoneSettled s rs × (ended s rs ≡ false)
  pub each : (s : ℕ) (x : Bare) → first (of_saga s) t.rows ≡ Some x → Lives x.0 s rs

open_is : {X : Type 0} (b : Bool) (y z : X) → ◌≡◌ {A = Option X} (cond b (Some y) None) (Some z) → y ≡ z
open_is b y z e = grind arith

good_moves : (n s : ℕ) (e : Event) (t : Plain) (rs : List Record) (q : Record) → Says q s e → (x : Bare) → first (of_saga s) t.rows ≡ Some x → lawful n x.0 e ≡ true → Good rs t → Keeps (sagas t.top (placed s (next x.0 e, x.1) t.rows)) → Good (rs ++ q ∷ []) (sagas t.top (placed s (next x.0 e, x.1) t.rows))
good_moves n s e t rs q said' x f l good keeps =
    let y : Bare = (next x.0 e, x.1) in
    let mine' = first_number s t.rows x f in
    let own : y.0.number ≡ s = next_number x.0 e ∙ mine' in
    let under = (keeps_row s t x good.keeps f).0 in
    record {
      keeps = keeps;
      fresh = λ r more.
          let apart : s ≡ r → ⊥ = λ q. omega (arith, q, mine', under, more) in
          let old = good.fresh r more in
          (issued_other r s e apart rs q said' ∙ old.0, (λ a. among_other r s e apart rs q said' a ∙ old.1 a), ended_other r s e apart rs q said' ∙ old.2);
      each = λ r z g. ⊎_elim
          (λ (eq : s ≡ r).
          let g' : first (of_saga s) (placed s y t.rows) ≡ Some z = subst (λ (k : ℕ). first (of_saga k) (placed s y t.rows) ≡ Some z) (sym eq) g in
          let same : y ≡ z = open_is (is_open y.0.phase) y z (sym (placed_own s y own 0 t.top t.rows x good.keeps.ordered f) ∙ g') in
          subst (λ (k : ℕ). Lives z.0 k (rs ++ q ∷ [])) eq (subst (λ (u : Bare). Lives u.0 s (rs ++ q ∷ [])) same (lives_next s rs q n x.0 e said' l (good.each s x f))))
          (λ (d : s ≡ r → ⊥). lives_other z.0 r s e rs q said' d (good.each r z (sym (placed_other s r d y own t.rows) ∙ g)))
          (cases_eq s r);
    }

good_begins : (s : ℕ) (t : Plain) (rs : List Record) (q : Record) → Says q s Begin → t.top < s → Good rs t → Keeps (sagas s (t.rows ++ (begun s, tt) ∷ [])) → Good (rs ++ q ∷ []) (sagas s (t.rows ++ (begun s, tt) ∷ []))
good_begins s t rs q said' more good keeps =
    let y : Bare = (begun s, tt) in
    let old = good.fresh s more in
    record {
      keeps = keeps;
      fresh = λ r above.
          let apart : s ≡ r → ⊥ = λ q. omega (arith, q, above) in
          let before = good.fresh r (omega (arith, above, more)) in
          (issued_other r s Begin apart rs q said' ∙ before.0, (λ a. among_other r s Begin apart rs q said' a ∙ before.1 a), ended_other r s Begin apart rs q said' ∙ before.2);
      each = λ r z g. ⊎_elim
          (λ (eq : s ≡ r).
          let g' : first (of_saga s) (t.rows ++ y ∷ []) ≡ Some z = subst (λ (k : ℕ). first (of_saga k) (t.rows ++ y ∷ []) ≡ Some z) (sym eq) g in
          let is : ◌≡◌ {A = Option Bare} (Some y) (Some z) = sym (push_own s y refl t.rows (below_none s 0 t.top t.rows more good.keeps.ordered)) ∙ g' in
          let same : y ≡ z = cc in
          let none : issued s (rs ++ q ∷ []) ≡ [] = issued_same s rs q Begin said' (λ _. refl) ∙ old.0 in
          let new : Lives (begun s) s (rs ++ q ∷ []) = record { known = tt; low = subst (λ (a : List Step). AllByRecursion (λ (u : Step). u.number ≤ 0) a) (sym none) tt; step = tt; unsettled = none_more s rs q Begin said' (λ _ _. refl) old.1; out = λ _. ended_same s rs q Begin said' refl ∙ old.2 } in
          subst (λ (k : ℕ). Lives z.0 k (rs ++ q ∷ [])) eq (subst (λ (u : Bare). Lives u.0 s (rs ++ q ∷ [])) same new))
          (λ (d : s ≡ r → ⊥). lives_other z.0 r s Begin rs q said' d (good.each r z (sym (push_other s r d y refl t.rows) ∙ g)))
          (cases_eq s r);
    }

moves_good : (n s : ℕ) (e : Event) (t : Plain) (rs : List Record) (q : Record) → Says q s e → (moves n s e t).0 ≡ true → Good rs t → Keeps (moves n s e t).1 → Good (rs ++ q ∷ []) (moves n s e t).1
moves_good n s e t rs q said' h good keeps = go (first (of_saga s) t.rows) refl h keeps
  where
    by : (x : Bare) → first (of_saga s) t.rows ≡ Some x → (b : Bool) → lawful n x.0 e ≡ b → (cond {A = Bool × Plain} b (true, sagas t.top (placed s (next x.0 e, x.1) t.rows)) (false, t)).0 ≡ true → Keeps (cond {A = Bool × Plain} b (true, sagas t.top (placed s (next x.0 e, x.1) t.rows)) (false, t)).1 → Good (rs ++ q ∷ []) (cond {A = Bool × Plain} b (true, sagas t.top (placed s (next x.0 e, x.1) t.rows)) (false, t)).1
    by x f true l k new = good_moves n s e t rs q said' x f l good new
    by x f false l k new = absurd cc

    go : (o : Option Bare) → first (of_saga s) t.rows ≡ o → (moves_by n s e t o).0 ≡ true → Keeps (moves_by n s e t o).1 → Good (rs ++ q ∷ []) (moves_by n s e t o).1
    go None f k new = absurd cc
    go (Some x) f k new = by x f (lawful n x.0 e) refl k new

begins_good : (s : ℕ) (t : Plain) (rs : List Record) (q : Record) → Says q s Begin → (begins s tt t).0 ≡ true → Good rs t → Keeps (begins s tt t).1 → Good (rs ++ q ∷ []) (begins s tt t).1
begins_good s t rs q said' h good keeps = go (may_begin s t) refl h keeps
  where
    go : (b : Bool) → may_begin s t ≡ b → (cond {A = Bool × Plain} b (true, sagas s (t.rows ++ (begun s, tt) ∷ [])) (false, t)).0 ≡ true → Keeps (cond {A = Bool × Plain} b (true, sagas s (t.rows ++ (begun s, tt) ∷ [])) (false, t)).1 → Good (rs ++ q ∷ []) (cond {A = Bool × Plain} b (true, sagas s (t.rows ++ (begun s, tt) ∷ [])) (false, t)).1
    go true m k new = good_begins s t rs q said' (ltb-true t.top s (and_parts _ _ m).0) good new
    go false m k new = absurd cc

applied_good : (n s : ℕ) (e : Event) (t : Plain) (rs : List Record) (q : Record) → Says q s e → (applied n s e tt t).0 ≡ true → Good rs t → Keeps (applied n s e tt t).1 → Good (rs ++ q ∷ []) (applied n s e tt t).1
applied_good n s Begin t rs q y h g k = begins_good s t rs q y h g k
applied_good n s e t rs q y h g k = moves_good n s e t rs q y h g k

good_if : (n s : ℕ) (o : Option Event) (t : Plain) (rs : List Record) (q : Record) → q.saga ≡ s → event_of q ≡ o → (applied_if n s o tt t).0 ≡ true → Good rs t → Keeps (applied_if n s o tt t).1 → Good (rs ++ q ∷ []) (applied_if n s o tt t).1
good_if n s None t rs q y e h g k = absurd cc
good_if n s (Some e) t rs q y z h g k = applied_good n s e t rs q (y, z) h g k

read_good : (n i : ℕ) (t u : Plain) (front rest : List Record) → read_from n tt i t rest ≡ Ok u → Good front t → Good (front ++ rest) u
read_good n i t u front [] e g = let same : t ≡ u = cc in subst (λ (l : List Record). Good l u) (sym (append-nil front)) (subst (Good front) same g)
read_good n i t u front (r ∷ rest) e g =
    let q = read_on (taken n tt t r).0 _ i u e in
    let new = good_if n r.saga (event_of r) t front r refl refl q.0 g (keeps_if n r.saga (event_of r) tt t g.keeps) in
    subst (λ (l : List Record). Good l u) (append_assoc front (r ∷ []) rest) (read_good n (i + 1) (taken n tt t r).1 u (front ++ r ∷ []) rest q.1 new)

-- the law's reading of any records
pub reading_good : (n : ℕ) (rs : List Record) (t : Plain) → reading n tt rs ≡ Ok t → Good rs t
reading_good n rs t e = read_good n 0 (sagas 0 []) t [] rs e (record { keeps = none_open; fresh = λ s _. (refl, (λ _. refl), refl); each = λ s x f. absurd cc })

-- a saga that is cancelled or finished: closed, or on its way there
module _ (n : ℕ) (rs : List Record) (t : Plain) (e : reading n tt rs ≡ Ok t) (s : ℕ) (h : ended s rs ≡ true) where
  pub ended_begun : s ≤ t.top
  ended_begun = ⊎_elim (λ (less : t.top < s). absurd (both_ways (ended s rs) ((reading_good n rs t e).fresh s less).2 h)) (λ (le : s ≤ t.top). le) (cases_lt t.top s)

  pub ended_closing : (x : Bare) → first (of_saga s) t.rows ≡ Some x → closing x.0.phase ≡ true
  ended_closing x f = let good = reading_good n rs t e in sym ((good.each s x f).out (sound_open x.0 (keeps_row s t x good.keeps f).1)) ∙ h
