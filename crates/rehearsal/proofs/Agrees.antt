-- Of one saga: what the participants hold and what settles took off, beside what the journal shows, before and after a record or a call.
use Rattle.std.proofs.Common.{◌≡◌, ℕ, ◌-◌, ◌<◌, Bool, true, false, cond, eqb, ◌⊎◌, List, [], ◌∷◌, ◌++◌, map, length, take, Some, None, filter, Option, sym, refl, ap, ◌∙◌, subst, subst₂, inl, inr, ⊎_elim, append-nil, Err, Ok}
use Rattle.std.specs.List.{remove, AllByRecursion}
use Rattle.std.proofs.lemmas.List.{map-append}
use Rattle.std.proofs.lemmas.List.Elements.{filter-append}
use Rattle.std.proofs.lemmas.Bool.{cond_both, cond-true, cond-false, cases_Bool, cases_eq, eq-eqb, ne_eqb, eqb-true, and_parts}
use Rattle.bounded.specs.Firsts.{any, pick, cut}
use Rattle.law.specs.Outcomes.{Outcome}
use Rattle.terms.specs.declared.Entry.{Entry}
use Rattle.terms.specs.declared.Refusal.{Refusal}
use Rattle.participants.specs.Party.{Party, is_key, no_entry}
use Rattle.bank.specs.Banks.{party_at}
use Rattle.law.specs.Events.{record_of}
use Rattle.law.specs.declared.event.Aim.{Aim}
use Rattle.law.specs.declared.event.Aim.TheVariants.{Stepping, Retreating, Finishing}
use Rattle.law.specs.declared.event.Step.{Step}
use Rattle.record.specs.declared.Record.{Record}
use Rattle.law.specs.declared.event.Event.TheVariants.{Done, Refused, Undone, Settled}
use Rattle.law.specs.declared.event.Phase.{Phase}
use Rattle.law.specs.declared.event.Phase.TheVariants.{Running, Pending, Closed}
use Rattle.law.specs.Keeps.{Pends, Sound}
use Rattle.law.specs.Law.{Saga, saga, next, is_open}
use Rattle.runner.specs.Memories.{Memory}
use Rattle.runner.specs.Calls.{asked_answer, asked_after, event_for}
use Rattle.rehearsal.specs.Shows.{standing_of, performed, performed_of, mine, entries_at, without, settled_steps, issued}
use Rattle.rehearsal.specs.Keeps.{settle_by, of_party}
use Rattle.rehearsal.proofs.Cuts.{cut_none, pick_passes}
use Rattle.rehearsal.proofs.Shown.{entry, key, In, Apart, mine_add_other, mine_cut_other, mine_add, mine_cut, any_mine, pick_mine, shown_add, shown_add_off, shown_cut, shown_cut_off, shown_once, shown_any, shown_pick, shown_fresh, shown_there, shown_itself}
use Rattle.rehearsal.proofs.Deeds.{elsewhere, undo_takes, settle_takes, do_stays, do_again, do_new}
use Rattle.rehearsal.proofs.Sounds.{apart_of, ends_with, starts_with, in_last, without_last, without_first}
use Rattle.rehearsal.proofs.Histories.{Known, Lives, said, settled_same, settled_more}

abbrev pub Taken : Type 0
Taken = List (ℕ × Entry)

abbrev alone : ℕ → Entry → Taken
alone q e = (q, e) ∷ []

-- by participant, the entries held of a saga, h, and those that settles took off, g: they show the steps l and o
abbrev pub Shows : ℕ → (ℕ → List Entry) → (ℕ → List Entry) → List Step → List Step → Type 0
Shows s h g l o = (p : ℕ) → (h p ≡ entries_at s p l) × (g p ≡ entries_at s p o)

-- the settled steps once the pending step has had its call
abbrev pub over_after : Phase → List Step → List Step
over_after Running o = o
over_after Closed o = o
over_after (Pending Stepping t) o = o
over_after (Pending (Retreating g d) t) o = o
over_after (Pending Finishing t) o = o ++ t ∷ []

abbrev pub over_of : Option Saga → List Step → List Step
over_of None o = o
over_of (Some x) o = over_after x.phase o

abbrev pub Before : ℕ → (ℕ → List Entry) → (ℕ → List Entry) → Option Saga → List Step → Type 0
Before s h g r o = Shows s h g (standing_of r) o

abbrev pub After : ℕ → (ℕ → List Entry) → (ℕ → List Entry) → Option Saga → List Step → Type 0
After s h g r o = Shows s h g (performed_of r) (over_of r o)

-- an answer that is remembered says which of the two it is
abbrev pub Fits : Memory → ℕ → (ℕ → List Entry) → (ℕ → List Entry) → Option Saga → List Step → Type 0
Fits None s h g r o = Before s h g r o ⊎ After s h g r o
Fits (Some (Ok z)) s h g r o = After s h g r o
Fits (Some (Err c)) s h g r o = Before s h g r o

-- only a pending step has an answer, and only a do is refused
abbrev pub HeardIn : Outcome → Phase → Type 0
HeardIn y Running = ⊥
HeardIn y Closed = ⊥
HeardIn (Ok z) (Pending a t) = Unit {0}
HeardIn (Err c) (Pending Stepping t) = Unit {0}
HeardIn (Err c) (Pending (Retreating g d) t) = ⊥
HeardIn (Err c) (Pending Finishing t) = ⊥

abbrev pub Heard : Memory → Option Saga → Type 0
Heard None r = Unit {0}
Heard (Some y) None = ⊥
Heard (Some y) (Some x) = HeardIn y x.phase

pub record One (m : Memory) (s : ℕ) (h g : ℕ → List Entry) (r : Option Saga) (o : List Step) : Type 0 where
  pub fits : Fits m s h g r o
  pub heard : Heard m r

pub either_way : (m : Memory) (s : ℕ) (h g : ℕ → List Entry) (r : Option Saga) (o : List Step) → Fits m s h g r o → Before s h g r o ⊎ After s h g r o
either_way None s h g r o f = f
either_way (Some (Ok z)) s h g r o f = inr f
either_way (Some (Err c)) s h g r o f = inl f

-- what is remembered is lost
pub forgotten : (m : Memory) (s : ℕ) (h g : ℕ → List Entry) (r : Option Saga) (o : List Step) → One m s h g r o → One None s h g r o
forgotten m s h g r o x = record { fits = either_way m s h g r o x.fits; heard = tt }

-- nothing is pending
pub still_none : (m : Memory) (s : ℕ) (h g : ℕ → List Entry) (o : List Step) → Fits m s h g None o → Shows s h g [] o
still_none None s h g o (inl f) = f
still_none None s h g o (inr f) = f
still_none (Some (Ok z)) s h g o f = f
still_none (Some (Err c)) s h g o f = f

module _ (s : ℕ) (h g : ℕ → List Entry) (x : Saga) (o : List Step) (run : x.phase ≡ Running) where
  still_after : After s h g (Some x) o → Shows s h g x.standing o
  still_after f = subst (λ (p : Phase). Shows s h g (performed p x.standing) (over_after p o)) run f

  pub still_running : (m : Memory) → Fits m s h g (Some x) o → Shows s h g x.standing o
  still_running None (inl f) = f
  still_running None (inr f) = still_after f
  still_running (Some (Ok z)) f = still_after f
  still_running (Some (Err c)) f = f

  pub blank_running : (m : Memory) → Heard m (Some x) → m ≡ None
  blank_running None k = refl
  blank_running (Some y) k = absurd (subst (HeardIn y) run k)

-- the row that a record leaves
pub row_left : (s : ℕ) (h g : ℕ → List Entry) (z : Saga) (o : List Step) → (is_open z.phase ≡ false → z.standing ≡ []) → Shows s h g z.standing o → (b : Bool) → is_open z.phase ≡ b → Before s h g (cond b (Some z) None) o
row_left s h g z o none f true e = f
row_left s h g z o none f false e = subst (λ (l : List Step). Shows s h g l o) (none e) f

-- the record that tells of the pending step's call
abbrev pub told_over : Aim → Step → List Step → List Step
told_over Stepping t o = o
told_over (Retreating g d) t o = o
told_over Finishing t o = o ++ t ∷ []

module _ (s : ℕ) (h g : ℕ → List Entry) (o : List Step) (n k : ℕ) (l : List Step) (ms : List ℕ) (oc : Outcome) where
  abbrev of : Phase → Saga
  of p = saga n p k l ms oc

  told_of : (a : Aim) (t : Step) (y : Outcome) → Sound (of (Pending a t)) → One (Some y) s h g (Some (of (Pending a t))) o → Shows s h g (next (of (Pending a t)) (event_for a t y)).standing (told_over a t o)
  told_of Stepping t (Ok z) sound x = x.fits
  told_of Stepping t (Err c) sound x = x.fits
  told_of (Retreating b d) t (Ok z) sound x =
      let w = ends_with l t sound.pends.0 in
      let same : without t l ≡ take (length l - 1) l = ap (without t) w ∙ without_last _ t (subst Apart w (apart_of _ sound)) in
      subst (λ (m : List Step). Shows s h g m o) same x.fits
  told_of (Retreating b d) t (Err c) sound x = absurd x.heard
  told_of Finishing t (Ok z) sound x =
      let same : without t l ≡ remove l 0 = ap (without t) (starts_with l t sound.pends) ∙ without_first t (remove l 0) in
      subst (λ (m : List Step). Shows s h g m (o ++ t ∷ [])) same x.fits
  told_of Finishing t (Err c) sound x = absurd x.heard

pub told_shows : (s : ℕ) (h g : ℕ → List Entry) (o : List Step) (x : Saga) (a : Aim) (t : Step) (y : Outcome) → x.phase ≡ Pending a t → Sound x → One (Some y) s h g (Some x) o → Shows s h g (next x (event_for a t y)).standing (told_over a t o)
told_shows s h g o x a t y e =
    subst (λ (p : Phase). Sound (saga x.number p x.last x.standing x.marks x.outcome) → One (Some y) s h g (Some (saga x.number p x.last x.standing x.marks x.outcome)) o → Shows s h g (next (saga x.number p x.last x.standing x.marks x.outcome) (event_for a t y)).standing (told_over a t o)) (sym e)
    (told_of s h g o x.number x.last x.standing x.marks x.outcome a t y)

-- and what the journal then shows as settled
pub told_settled : (s : ℕ) (rs : List Record) (x : Saga) (a : Aim) (t : Step) (y : Outcome) → x.phase ≡ Pending a t → Sound x → Lives x s rs → settled_steps s (rs ++ (record_of s (event_for a t y)) ∷ []) ≡ told_over a t (settled_steps s rs)
told_settled s rs x Stepping t (Ok z) e sound v = settled_same s rs (record_of s (Done t.number)) (Done t.number) (said s (Done t.number)) (λ _ _. refl) (rw e at v.unsettled)
told_settled s rs x Stepping t (Err c) e sound v = settled_same s rs (record_of s (Refused t.number c)) (Refused t.number c) (said s (Refused t.number c)) (λ _ _. refl) (rw e at v.unsettled)
told_settled s rs x (Retreating g d) t y e sound v = settled_same s rs (record_of s (Undone t.number)) (Undone t.number) (said s (Undone t.number)) (λ _ _. refl) (rw e at v.unsettled)
told_settled s rs x Finishing t y e sound v =
    let p : Pends (Pending Finishing t) x.last x.standing = rw e at sound.pends in
    settled_more s rs (record_of s (Settled t.number)) t (said s (Settled t.number)) (subst (AllByRecursion (Known (issued s rs))) (starts_with x.standing t p) v.known).0

-- what settles took off, one call more
abbrev pub held : List Party → ℕ → ℕ → List Entry
held ps s p = mine s (party_at ps p).entries

abbrev pub lost_of : Taken → ℕ → ℕ → List Entry
lost_of gone s p = mine s (of_party p gone)

of_party_more : (p : ℕ) (xs ys : Taken) → of_party p (xs ++ ys) ≡ of_party p xs ++ of_party p ys
of_party_more p xs ys = ap (map (λ (x : ℕ × Entry). x.1)) (filter-append (λ (x : ℕ × Entry). eqb x.0 p) xs ys) ∙ map-append (λ (x : ℕ × Entry). x.1) (filter (λ (x : ℕ × Entry). eqb x.0 p) xs) (filter (λ (x : ℕ × Entry). eqb x.0 p) ys)

pub of_party_one : (p q : ℕ) (e : Entry) (gone : Taken) → q ≡ p → of_party p (gone ++ (q, e) ∷ []) ≡ of_party p gone ++ e ∷ []
of_party_one p q e gone same = of_party_more p gone ((q, e) ∷ []) ∙ ap (λ (b : Bool). of_party p gone ++ map (λ (x : ℕ × Entry). x.1) (cond b ((q, e) ∷ []) [])) (eq-eqb q p same)

pub of_party_off : (p q : ℕ) (e : Entry) (gone : Taken) → (q ≡ p → ⊥) → of_party p (gone ++ (q, e) ∷ []) ≡ of_party p gone
of_party_off p q e gone d = of_party_more p gone ((q, e) ∷ []) ∙ ap (λ (b : Bool). of_party p gone ++ map (λ (x : ℕ × Entry). x.1) (cond b ((q, e) ∷ []) [])) (ne_eqb q p d) ∙ append-nil (of_party p gone)

-- a call for another saga's pending step
module _ (ps : List Party) (s r : ℕ) (apart : s ≡ r → ⊥) (t : Step) where
  turned : r ≡ s → ⊥
  turned e = apart (sym e)

  there_other : (a : Aim) → mine r (party_at (asked_after a ps s t) t.participant).entries ≡ mine r (party_at ps t.participant).entries
  there_other Stepping =
      let es = (party_at ps t.participant).entries in
      ⊎_elim
      (λ (y : any (is_key (key s t.number)) es ≡ true). ap (mine r) (do_stays ps s t y))
      (λ (n : any (is_key (key s t.number)) es ≡ false). ⊎_elim
      (λ (x : (asked_answer Stepping ps s t ≡ (Ok tt)) × ((party_at (asked_after Stepping ps s t) t.participant).entries ≡ es ++ entry s t ∷ [])). ap (mine r) x.1 ∙ mine_add_other r (entry s t) turned es)
      (λ (x : (c : Refusal) × (asked_answer Stepping ps s t ≡ Err c) × ((party_at (asked_after Stepping ps s t) t.participant).entries ≡ es)). ap (mine r) x.2)
      (do_new ps s t n))
      (cases_Bool (any (is_key (key s t.number)) es))
  there_other (Retreating g d) = ap (mine r) (undo_takes ps s t g d) ∙ mine_cut_other r s t.number turned (party_at ps t.participant).entries
  there_other Finishing = ap (mine r) (settle_takes ps s t) ∙ mine_cut_other r s t.number turned (party_at ps t.participant).entries

  pub held_other : (a : Aim) (p : ℕ) → held (asked_after a ps s t) r p ≡ held ps r p
  held_other a p = ⊎_elim
      (λ (e : p ≡ t.participant). subst (λ (q : ℕ). held (asked_after a ps s t) r q ≡ held ps r q) (sym e) (there_other a))
      (λ (d : p ≡ t.participant → ⊥). ap (λ (x : Party). mine r x.entries) (elsewhere ps s t a p d))
      (cases_eq p t.participant)

  one_other : (gone : Taken) (q p : ℕ) (e : Entry) → s ≡ e.key.saga → lost_of (gone ++ (q, e) ∷ []) r p ≡ lost_of gone r p
  one_other gone q p e own = ⊎_elim
      (λ (same : q ≡ p). ap (mine r) (of_party_one p q e gone same) ∙ mine_add_other r e (λ z. apart (own ∙ sym z)) (of_party p gone))
      (λ (d : q ≡ p → ⊥). ap (mine r) (of_party_off p q e gone d))
      (cases_eq q p)

  pub lost_other : (gone : Taken) (a : Aim) (p : ℕ) → lost_of (gone ++ settle_by s ps (Pending a t) None) r p ≡ lost_of gone r p
  lost_other gone Stepping p = ap (λ (l : Taken). lost_of l r p) (append-nil gone)
  lost_other gone (Retreating g d) p = ap (λ (l : Taken). lost_of l r p) (append-nil gone)
  lost_other gone Finishing p =
      let es = (party_at ps t.participant).entries in
      cond_both (any (is_key (key s t.number)) es) _ _ (λ (l : Taken). lost_of (gone ++ l) r p ≡ lost_of gone r p) (λ e.
      one_other gone t.participant p (pick (is_key (key s t.number)) no_entry es) (sym (eqb-true _ s (and_parts _ _ (pick_passes (is_key (key s t.number)) no_entry es e)).0))) (λ _. ap (λ (l : Taken). lost_of l r p) (append-nil gone))

pub one_same : (m : Memory) (s : ℕ) {h k g l : ℕ → List Entry} (r : Option Saga) (o : List Step) → ((p : ℕ) → k p ≡ h p) → ((p : ℕ) → l p ≡ g p) → One m s h g r o → One m s k l r o
one_same m s {h} {k} {g} {l} r o eh eg f = subst₂ (λ (a b : ℕ → List Entry). One m s a b r o) (λ i p. sym (eh p) i) (λ i p. sym (eg p) i) f

-- the call for the saga's own pending step
module _ (ps : List Party) (gone : Taken) (s : ℕ) (t : Step) where
  abbrev here : List Entry
  here = (party_at ps t.participant).entries

  -- at the participant called and elsewhere
  by_place : (P : ℕ → Type 0) → P t.participant → ((p : ℕ) → (p ≡ t.participant → ⊥) → P p) → (p : ℕ) → P p
  by_place P own other p = ⊎_elim (λ (e : p ≡ t.participant). subst P (sym e) own) (λ (d : p ≡ t.participant → ⊥). other p d) (cases_eq p t.participant)

  away : (a : Aim) (p : ℕ) → (p ≡ t.participant → ⊥) → held (asked_after a ps s t) s p ≡ held ps s p
  away a p d = ap (λ (x : Party). mine s x.entries) (elsewhere ps s t a p d)

  lost_same : (o : List Step) (p : ℕ) → lost_of gone s p ≡ entries_at s p o → lost_of (gone ++ []) s p ≡ entries_at s p o
  lost_same o p h = ap (λ (l : Taken). lost_of l s p) (append-nil gone) ∙ h

  lost_more : (o : List Step) → ((p : ℕ) → lost_of gone s p ≡ entries_at s p o) → (p : ℕ) → lost_of (gone ++ (t.participant, entry s t) ∷ []) s p ≡ entries_at s p (o ++ t ∷ [])
  lost_more o h p = ⊎_elim
      (λ (e : t.participant ≡ p).
      ap (mine s) (of_party_one p t.participant (entry s t) gone e) ∙ mine_add s (entry s t) refl (of_party p gone) ∙ ap (λ (x : List Entry). x ++ entry s t ∷ []) (h p) ∙ sym (shown_add s p t o (sym e)))
      (λ (d : t.participant ≡ p → ⊥). ap (mine s) (of_party_off p t.participant (entry s t) gone d) ∙ h p ∙ sym (shown_add_off s p t o (λ e. d (sym e))))
      (cases_eq t.participant p)

  module _ (l : List Step) (apart : Apart l) (there : In t l) where
    cut_here : (es : List Entry) → mine s es ≡ entries_at s t.participant l → mine s (cut (is_key (key s t.number)) es) ≡ entries_at s t.participant (without t l)
    cut_here es h = mine_cut s t.number es ∙ ap (cut (is_key (key s t.number))) h ∙ sym (shown_cut s t.participant t l apart there refl)

    cut_again : (es : List Entry) → mine s es ≡ entries_at s t.participant (without t l) → mine s (cut (is_key (key s t.number)) es) ≡ entries_at s t.participant (without t l)
    cut_again es h = mine_cut s t.number es ∙ ap (cut (is_key (key s t.number))) h ∙ cut_none (is_key (key s t.number)) (entries_at s t.participant (without t l)) (shown_once s t.participant t l apart)

    -- an entry that is taken off, for the first time or again
    off_first : (a : Aim) → (party_at (asked_after a ps s t) t.participant).entries ≡ cut (is_key (key s t.number)) here → ((p : ℕ) → held ps s p ≡ entries_at s p l) → (p : ℕ) → held (asked_after a ps s t) s p ≡ entries_at s p (without t l)
    off_first a e h = by_place (λ (p : ℕ). held (asked_after a ps s t) s p ≡ entries_at s p (without t l)) (ap (mine s) e ∙ cut_here here (h t.participant)) (λ p d. away a p d ∙ h p ∙ sym (shown_cut_off s p t l apart there d))

    off_again : (a : Aim) → (party_at (asked_after a ps s t) t.participant).entries ≡ cut (is_key (key s t.number)) here → ((p : ℕ) → held ps s p ≡ entries_at s p (without t l)) → (p : ℕ) → held (asked_after a ps s t) s p ≡ entries_at s p (without t l)
    off_again a e h = by_place (λ (p : ℕ). held (asked_after a ps s t) s p ≡ entries_at s p (without t l)) (ap (mine s) e ∙ cut_again here (h t.participant)) (λ p d. away a p d ∙ h p)

    pub asked_back : (g d : ℕ) (o : List Step) → Shows s (held ps s) (lost_of gone s) l o ⊎ Shows s (held ps s) (lost_of gone s) (without t l) o → Shows s (held (asked_after (Retreating g d) ps s t) s) (lost_of (gone ++ []) s) (without t l) o
    asked_back g d o (inl f) = λ p. (off_first (Retreating g d) (undo_takes ps s t g d) (λ q. (f q).0) p, lost_same o p (f p).1)
    asked_back g d o (inr f) = λ p. (off_again (Retreating g d) (undo_takes ps s t g d) (λ q. (f q).0) p, lost_same o p (f p).1)

    settle_first : mine s here ≡ entries_at s t.participant l → settle_by s ps (Pending Finishing t) None ≡ (t.participant, entry s t) ∷ []
    settle_first h =
        let yes : any (is_key (key s t.number)) here ≡ true = any_mine s t.number here ∙ ap (any (is_key (key s t.number))) h ∙ shown_any s t l there in
        let it : pick (is_key (key s t.number)) no_entry here ≡ entry s t = pick_mine s t.number no_entry here ∙ ap (pick (is_key (key s t.number)) no_entry) h ∙ shown_pick s t l apart there in
        cond-true (any (is_key (key s t.number)) here) _ _ yes ∙ ap (λ (e : Entry). alone t.participant e) it

    settle_again : mine s here ≡ entries_at s t.participant (without t l) → settle_by s ps (Pending Finishing t) None ≡ []
    settle_again h = cond-false (any (is_key (key s t.number)) here) _ _ (any_mine s t.number here ∙ ap (any (is_key (key s t.number))) h ∙ shown_once s t.participant t l apart)

    pub asked_end : (o : List Step) → Shows s (held ps s) (lost_of gone s) l o ⊎ Shows s (held ps s) (lost_of gone s) (without t l) (o ++ t ∷ []) → Shows s (held (asked_after Finishing ps s t) s) (lost_of (gone ++ settle_by s ps (Pending Finishing t) None) s) (without t l) (o ++ t ∷ [])
    asked_end o (inl f) = λ p. (off_first Finishing (settle_takes ps s t) (λ q. (f q).0) p, ap (λ (x : Taken). lost_of (gone ++ x) s p) (settle_first (f t.participant).0) ∙ lost_more o (λ q. (f q).1) p)
    asked_end o (inr f) = λ p. (off_again Finishing (settle_takes ps s t) (λ q. (f q).0) p, ap (λ (x : Taken). lost_of (gone ++ x) s p) (settle_again (f t.participant).0) ∙ lost_same (o ++ t ∷ []) p (f p).1)

  -- a do: (Ok tt), and the step stands; or refused, and it does not
  module _ (l o : List Step) (new : AllByRecursion (λ (u : Step). u.number < t.number) l) where
    abbrev Did : Outcome → Type 0
    Did (Ok z) = Shows s (held (asked_after Stepping ps s t) s) (lost_of (gone ++ []) s) (l ++ t ∷ []) o
    Did (Err c) = Shows s (held (asked_after Stepping ps s t) s) (lost_of (gone ++ []) s) l o

    stays : (k : List Step) → (party_at (asked_after Stepping ps s t) t.participant).entries ≡ here → Shows s (held ps s) (lost_of gone s) k o → Shows s (held (asked_after Stepping ps s t) s) (lost_of (gone ++ []) s) k o
    stays k e f = λ p. (by_place (λ (q : ℕ). held (asked_after Stepping ps s t) s q ≡ entries_at s q k) (ap (mine s) e ∙ (f t.participant).0) (λ q d. away Stepping q d ∙ (f q).0) p, lost_same o p (f p).1)

    joins : (party_at (asked_after Stepping ps s t) t.participant).entries ≡ here ++ entry s t ∷ [] → Shows s (held ps s) (lost_of gone s) l o → Shows s (held (asked_after Stepping ps s t) s) (lost_of (gone ++ []) s) (l ++ t ∷ []) o
    joins e f = λ p. (
      by_place (λ (q : ℕ). held (asked_after Stepping ps s t) s q ≡ entries_at s q (l ++ t ∷ []))
          (ap (mine s) e ∙ mine_add s (entry s t) refl here ∙ ap (λ (x : List Entry). x ++ entry s t ∷ []) (f t.participant).0 ∙ sym (shown_add s t.participant t l refl))
          (λ q d. away Stepping q d ∙ (f q).0 ∙ sym (shown_add_off s q t l d)) p,
      lost_same o p (f p).1,
    )

    pub asked_do : Shows s (held ps s) (lost_of gone s) l o ⊎ Shows s (held ps s) (lost_of gone s) (l ++ t ∷ []) o → Did (asked_answer Stepping ps s t)
    asked_do (inl f) =
        let none_yet : any (is_key (key s t.number)) here ≡ false = any_mine s t.number here ∙ ap (any (is_key (key s t.number))) (f t.participant).0 ∙ shown_fresh s t.participant t l new in
        ⊎_elim
        (λ (x : (asked_answer Stepping ps s t ≡ (Ok tt)) × ((party_at (asked_after Stepping ps s t) t.participant).entries ≡ here ++ entry s t ∷ [])). subst Did (sym x.0) (joins x.1 f))
        (λ (x : (c : Refusal) × (asked_answer Stepping ps s t ≡ Err c) × ((party_at (asked_after Stepping ps s t) t.participant).entries ≡ here)). subst Did (sym x.1) (stays l x.2 f))
        (do_new ps s t none_yet)
    asked_do (inr f) =
        let there : any (is_key (key s t.number)) here ≡ true = any_mine s t.number here ∙ ap (any (is_key (key s t.number))) (f t.participant).0 ∙ shown_there s t l in
        let itself : pick (is_key (key s t.number)) (entry s t) here ≡ entry s t = pick_mine s t.number (entry s t) here ∙ ap (pick (is_key (key s t.number)) (entry s t)) (f t.participant).0 ∙ shown_itself s t (entry s t) l new in
        let x = do_again ps s t there itself in
        subst Did (sym x.0) (stays (l ++ t ∷ []) x.1 f)

  module _ (o : List Step) (n k : ℕ) (l : List Step) (ms : List ℕ) (oc : Outcome) where
    abbrev row : Aim → Saga
    row a = saga n (Pending a t) k l ms oc

    did_one : (new : AllByRecursion (λ (u : Step). u.number < t.number) l) (y : Outcome) → Did l o new y → One (Some y) s (held (asked_after Stepping ps s t) s) (lost_of (gone ++ []) s) (Some (row Stepping)) o
    did_one new (Ok z) d = record { fits = d; heard = tt }
    did_one new (Err c) d = record { fits = d; heard = tt }

    asked_of : (a : Aim) → Sound (row a) → Before s (held ps s) (lost_of gone s) (Some (row a)) o ⊎ After s (held ps s) (lost_of gone s) (Some (row a)) o → One (Some (asked_answer a ps s t)) s (held (asked_after a ps s t) s) (lost_of (gone ++ settle_by s ps (Pending a t) None) s) (Some (row a)) o
    asked_of Stepping sound f =
        let new : AllByRecursion (λ (u : Step). u.number < t.number) l = rw sound.pends.0 sound.pends.2 in
        did_one new (asked_answer Stepping ps s t) (asked_do l o new f)
    asked_of (Retreating g d) sound f = record { fits = asked_back l (apart_of _ sound) (subst (In t) (sym (ends_with l t sound.pends.0)) (in_last _ t)) g d o f; heard = tt }
    asked_of Finishing sound f = record { fits = asked_end l (apart_of _ sound) (subst (In t) (sym (starts_with l t sound.pends)) (inl refl)) o f; heard = tt }

pub asked_one : (ps : List Party) (gone : Taken) (s : ℕ) (t : Step) (a : Aim) (x : Saga) (o : List Step) → x.phase ≡ Pending a t → Sound x → One None s (held ps s) (lost_of gone s) (Some x) o → One (Some (asked_answer a ps s t)) s (held (asked_after a ps s t) s) (lost_of (gone ++ settle_by s ps (Pending a t) None) s) (Some x) o
asked_one ps gone s t a x o e =
    subst (λ (p : Phase). Sound (saga x.number p x.last x.standing x.marks x.outcome) → One None s (held ps s) (lost_of gone s) (Some (saga x.number p x.last x.standing x.marks x.outcome)) o → One (Some (asked_answer a ps s t)) s (held (asked_after a ps s t) s) (lost_of (gone ++ settle_by s ps (Pending a t) None) s) (Some (saga x.number p x.last x.standing x.marks x.outcome)) o) (sym e)
    (λ sound f. asked_of ps gone s t o x.number x.last x.standing x.marks x.outcome a sound f.fits)
