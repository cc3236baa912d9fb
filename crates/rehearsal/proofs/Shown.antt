-- What the participants hold of one saga, beside what the journal shows of it.
use Rattle.std.proofs.Common.{◌≡◌, ℕ, ◌<◌, Bool, true, false, cond, eqb, ◌⊎◌, List, [], ◌∷◌, ◌++◌, sym, refl, subst, inl, inr, append-nil, arith}
use Rattle.std.specs.List.{AllByRecursion}
use Rattle.std.proofs.lemmas.Bool.Decides.{nat_tests}
use Rattle.std.proofs.lemmas.List.Elements.{filter-append}
use Rattle.std.proofs.lemmas.Bool.{eq-eqb, ne_eqb, eqb-true}
use Rattle.bounded.specs.Firsts.{any, pick, cut}
use Rattle.terms.specs.declared.Key.{Key}
use Rattle.terms.specs.declared.Entry.{Entry}
use Rattle.participants.specs.Party.{is_key, no_entry}
use Rattle.law.specs.declared.event.Step.{Step}
use Rattle.runner.specs.Calls.{entry_of}
use Rattle.rehearsal.specs.Shows.{mine, entries_at, without}
use Rattle.rehearsal.proofs.Cuts.{kept_cut_in, kept_cut_out}

pub eqb_refl : (n : ℕ) → eqb n n ≡ true
eqb_refl n = eq-eqb n n refl

abbrev pub key : ℕ → ℕ → Key
key s k = record { saga = s; step = k }

abbrev pub entry : ℕ → Step → Entry
entry s t = entry_of s t

abbrev pub In : Step → List Step → Type 0
In t [] = ⊥
In t (u ∷ l) = (t ≡ u) ⊎ In t l

-- the numbers rise
abbrev pub Apart : List Step → Type 0
Apart [] = Unit {0}
Apart (t ∷ l) = AllByRecursion (λ (u : Step). t.number < u.number) l × Apart l

pub all_in : (P : Step → Type 0) (t : Step) (l : List Step) → AllByRecursion P l → In t l → P t
all_in P t [] a h = elim h [ ]
all_in P t (u ∷ l) a (inl e) = subst P (sym e) a.0
all_in P t (u ∷ l) a (inr h) = all_in P t l a.1 h

-- another saga's entries
module _ (other : ℕ) where
  pub mine_add_other : (e : Entry) → (other ≡ e.key.saga → ⊥) → (es : List Entry) → mine other (es ++ e ∷ []) ≡ mine other es
  mine_add_other e h es = grind (arith, filter-append (λ (e : Entry). eqb e.key.saga other) es (e ∷ []), ne_eqb e.key.saga other (λ q. h (sym q)), append-nil)

  pub mine_cut_other : (s k : ℕ) → (other ≡ s → ⊥) → (es : List Entry) → mine other (cut (is_key (key s k)) es) ≡ mine other es
  mine_cut_other s k h es = kept_cut_out (is_key (key s k)) (λ e. eqb e.key.saga other) (λ e t. grind (arith, nat_tests)) es

module _ (s : ℕ) where
  pub mine_add : (e : Entry) → s ≡ e.key.saga → (es : List Entry) → mine s (es ++ e ∷ []) ≡ mine s es ++ e ∷ []
  mine_add e h es = grind (arith, filter-append (λ (e : Entry). eqb e.key.saga s) es (e ∷ []), eq-eqb e.key.saga s (sym h))

  pub mine_cut : (k : ℕ) (es : List Entry) → mine s (cut (is_key (key s k)) es) ≡ cut (is_key (key s k)) (mine s es)
  mine_cut k es = kept_cut_in (is_key (key s k)) (λ e. eqb e.key.saga s) (λ e t. grind (arith, nat_tests)) es

  pub any_mine : (k : ℕ) (es : List Entry) → any (is_key (key s k)) es ≡ any (is_key (key s k)) (mine s es)
  any_mine k [] = refl
  any_mine k (e ∷ es) = grind (arith, any_mine k es)

  pub pick_mine : (k : ℕ) (d : Entry) (es : List Entry) → pick (is_key (key s k)) d es ≡ pick (is_key (key s k)) d (mine s es)
  pick_mine k d [] = refl
  pick_mine k d (e ∷ es) = grind (arith, pick_mine k d es)

  -- the journal's side
  module _ (p : ℕ) where
    pub shown_add : (t : Step) (l : List Step) → p ≡ t.participant → entries_at s p (l ++ t ∷ []) ≡ entries_at s p l ++ entry s t ∷ []
    shown_add t [] h = grind (arith, eq-eqb p t.participant h)
    shown_add t (u ∷ l) h = grind (arith, shown_add t l h)

    pub shown_add_off : (t : Step) (l : List Step) → (p ≡ t.participant → ⊥) → entries_at s p (l ++ t ∷ []) ≡ entries_at s p l
    shown_add_off t [] h = grind (arith, ne_eqb p t.participant h)
    shown_add_off t (u ∷ l) h = grind (arith, shown_add_off t l h)

    pub shown_cut : (t : Step) (l : List Step) → Apart l → In t l → p ≡ t.participant → entries_at s p (without t l) ≡ cut (is_key (key s t.number)) (entries_at s p l)
    shown_cut t [] a h e = elim h [ ]
    shown_cut t (u ∷ l) a (inl h) e = rw (← h) (grind (arith, eq-eqb p t.participant e, eqb_refl t.number, eqb_refl s))
    shown_cut t (u ∷ l) a (inr h) e = let less = all_in (λ (v : Step). u.number < v.number) t l a.0 h in grind (arith, shown_cut t l a.1 h e, nat_tests)

    pub shown_cut_off : (t : Step) (l : List Step) → Apart l → In t l → (p ≡ t.participant → ⊥) → entries_at s p (without t l) ≡ entries_at s p l
    shown_cut_off t [] a h e = elim h [ ]
    shown_cut_off t (u ∷ l) a (inl h) e = rw (← h) (grind (arith, ne_eqb p t.participant e, eqb_refl t.number))
    shown_cut_off t (u ∷ l) a (inr h) e = let less = all_in (λ (v : Step). u.number < v.number) t l a.0 h in grind (arith, shown_cut_off t l a.1 h e, nat_tests)

    above_none : (k : ℕ) (l : List Step) → AllByRecursion (λ (u : Step). k < u.number) l → any (is_key (key s k)) (entries_at s p l) ≡ false
    above_none k [] h = refl
    above_none k (u ∷ l) h = let less = h.0 in grind (arith, above_none k l h.1, nat_tests)

    -- once taken out, it is not there again
    pub shown_once : (t : Step) (l : List Step) → Apart l → any (is_key (key s t.number)) (entries_at s p (without t l)) ≡ false
    shown_once t [] a = refl
    shown_once t (u ∷ l) a = go (eqb u.number t.number) refl (shown_once t l a.1)
      where
        go : (b : Bool) → eqb u.number t.number ≡ b → any (is_key (key s t.number)) (entries_at s p (without t l)) ≡ false → any (is_key (key s t.number)) (entries_at s p (cond b l (u ∷ without t l))) ≡ false
        go true e ih = let same = eqb-true u.number t.number e in above_none t.number l (subst (λ (n : ℕ). AllByRecursion (λ (v : Step). n < v.number) l) same a.0)
        go false e ih = grind (arith, nat_tests)

  pub shown_any : (t : Step) (l : List Step) → In t l → any (is_key (key s t.number)) (entries_at s t.participant l) ≡ true
  shown_any t [] h = elim h [ ]
  shown_any t (u ∷ l) (inl h) = rw (← h) (grind (arith, eqb_refl s, eqb_refl t.number, eqb_refl t.participant))
  shown_any t (u ∷ l) (inr h) = grind (arith, shown_any t l h)

  pub shown_pick : (t : Step) (l : List Step) → Apart l → In t l → pick (is_key (key s t.number)) no_entry (entries_at s t.participant l) ≡ entry s t
  shown_pick t [] a h = elim h [ ]
  shown_pick t (u ∷ l) a (inl e) = rw (← e) (grind (arith, eqb_refl s, eqb_refl t.number, eqb_refl t.participant))
  shown_pick t (u ∷ l) a (inr h) = let less = all_in (λ (v : Step). u.number < v.number) t l a.0 h in grind (arith, shown_pick t l a.1 h, nat_tests)

  -- a step not yet done is no entry
  pub shown_fresh : (p : ℕ) (t : Step) (l : List Step) → AllByRecursion (λ (u : Step). u.number < t.number) l → any (is_key (key s t.number)) (entries_at s p l) ≡ false
  shown_fresh p t [] h = refl
  shown_fresh p t (u ∷ l) h = let less = h.0 in grind (arith, shown_fresh p t l h.1, nat_tests)

  -- and once done, it is the entry of its key
  pub shown_there : (t : Step) (l : List Step) → any (is_key (key s t.number)) (entries_at s t.participant (l ++ t ∷ [])) ≡ true
  shown_there t [] = grind (arith, eqb_refl s, eqb_refl t.number, eqb_refl t.participant)
  shown_there t (u ∷ l) = grind (arith, shown_there t l)

  pub shown_itself : (t : Step) (d : Entry) (l : List Step) → AllByRecursion (λ (u : Step). u.number < t.number) l → pick (is_key (key s t.number)) d (entries_at s t.participant (l ++ t ∷ [])) ≡ entry s t
  shown_itself t d [] h = grind (arith, eqb_refl s, eqb_refl t.number, eqb_refl t.participant)
  shown_itself t d (u ∷ l) h = let less = h.0 in grind (arith, shown_itself t d l h.1, nat_tests)
