-- What a call to a participant leaves at it, and that it leaves the others alone.
use Rattle.std.proofs.Common.{◌≡◌, ℕ, zero, suc, ◌+◌, ◌-◌, ◌≤◌, Bool, true, false, cond, not, eqb, leb, ◌⊎◌, List, [], ◌∷◌, ◌++◌, map, length, get_or, Some, Option, sym, refl, ap, ◌∙◌, subst, inl, inr, arith, Err, Ok}
use Rattle.std.proofs.lemmas.List.Sums.{sum_by_push}
use Rattle.std.proofs.lemmas.Bool.{cond_both, cond-true, cond-false, eqb-true, eqb-false, or_parts, ltb-false}
use Rattle.std.proofs.lemmas.Bool.Decides.{nat_tests}
use Rattle.bounded.specs.Firsts.{any, pick, cut}
use Rattle.terms.specs.declared.Entry.{Entry}
use Rattle.terms.specs.declared.Request.{Request}
use Rattle.terms.specs.declared.Refusal.{Refusal}
use Rattle.terms.specs.declared.Refusal.TheVariants.{Unfit, OtherRequest, Full, Short, Above}
use Rattle.participants.specs.declared.answer.Accepted.TheVariants.{Done, Already}
use Rattle.participants.specs.declared.cell.Cell.{Cell}
use Rattle.participants.specs.declared.cell.Side.{Side}
use Rattle.participants.specs.declared.cell.Side.TheVariants.{Take, Give}
use Rattle.participants.specs.Effects.{takes, gives, effect, taken, given, fitting}
use Rattle.participants.specs.Party.{Party, Answer, is_key, same_request, short, above, new_answer, do_answer, lowered, raised, after_answer, do_after, taken_off, undo_after, settle_after, no_entry, value_in, value_of}
use Rattle.participants.proofs.Judged.{accepts}
use Rattle.bank.specs.Banks.{nobody, party_at, change, change_at}
use Rattle.law.specs.declared.event.Aim.{Aim}
use Rattle.law.specs.declared.event.Aim.TheVariants.{Stepping, Retreating, Finishing}
use Rattle.law.specs.declared.event.Step.{Step}
use Rattle.runner.specs.Calls.{outcome_of, asked_answer, asked_after}
use Rattle.rehearsal.proofs.Cuts.{cut_none, sum_cut}
use Rattle.rehearsal.proofs.Shown.{entry, key, eqb_refl}

-- a change at one place of the bank
change_here : (ps : List Party) (i : ℕ) (f : Party → Party) → f nobody ≡ nobody → get_or (change ps i f) i nobody ≡ f (get_or ps i nobody)
change_here [] i f z = sym z
change_here (x ∷ ps) zero f z = refl
change_here (x ∷ ps) (suc i) f z = change_here ps i f z

change_there : (ps : List Party) (i j : ℕ) (f : Party → Party) → (j ≡ i → ⊥) → get_or (change ps i f) j nobody ≡ get_or ps j nobody
change_there [] i j f d = refl
change_there (x ∷ ps) zero zero f d = absurd (d refl)
change_there (x ∷ ps) zero (suc j) f d = refl
change_there (x ∷ ps) (suc i) zero f d = refl
change_there (x ∷ ps) (suc i) (suc j) f d = change_there ps i j f (λ e. d (ap suc e))

module _ (ps : List Party) (p : ℕ) (f : Party → Party) where
  changed_own : f nobody ≡ nobody → party_at (change_at ps p f) p ≡ f (party_at ps p)
  changed_own z = go (eqb p 0)
    where
      go : (b : Bool) → cond b nobody (get_or (cond b ps (change ps (p - 1) f)) (p - 1) nobody) ≡ f (cond b nobody (get_or ps (p - 1) nobody))
      go true = sym z
      go false = change_here ps (p - 1) f z

  changed_other : (q : ℕ) → (q ≡ p → ⊥) → party_at (change_at ps p f) q ≡ party_at ps q
  changed_other q d = go (eqb q 0) refl (eqb p 0) refl
    where
      go : (a : Bool) → eqb q 0 ≡ a → (b : Bool) → eqb p 0 ≡ b → cond a nobody (get_or (cond b ps (change ps (p - 1) f)) (q - 1) nobody) ≡ cond a nobody (get_or ps (q - 1) nobody)
      go true e b h = refl
      go false e true h = refl
      go false e false h =
          let x : q ≡ 0 → ⊥ = eqb-false q 0 e in
          let y : p ≡ 0 → ⊥ = eqb-false p 0 h in
          change_there ps (p - 1) (q - 1) f (λ same. d (omega (arith, same, x, y)))

-- where there is no participant
nobody_does : (e : Entry) → do_after nobody e ≡ nobody
unfolding do_answer
nobody_does e = refl

off_entries : (side : Side) (p : Party) (s k : ℕ) → (taken_off side p (key s k)).entries ≡ cut (is_key (key s k)) p.entries
off_entries side p s k = grind (arith, cut_none (is_key (key s k)) p.entries)

-- cells
value_lower : (c v : ℕ) (q : Request) (cells : List Cell) → any (short q) cells ≡ false → value_in c cells ≡ Some v → (value_in c (map (lowered q) cells) ≡ Some (v - takes c q)) × (takes c q ≤ v)
value_lower c v q [] s h = absurd cc
value_lower c v q (x ∷ cells) s h = go (eqb x.number c) refl (value_lower c v q cells) h
  where
    go : (b : Bool) → eqb x.number c ≡ b → (any (short q) cells ≡ false → value_in c cells ≡ Some v → (value_in c (map (lowered q) cells) ≡ Some (v - takes c q)) × (takes c q ≤ v)) → ◌≡◌ {A = Option ℕ} (cond b (Some x.value) (value_in c cells)) (Some v) → (◌≡◌ {A = Option ℕ} (cond b (Some (x.value - takes x.number q)) (value_in c (map (lowered q) cells))) (Some (v - takes c q))) × (takes c q ≤ v)
    go true e ih k =
        let is : x.number ≡ c = eqb-true x.number c e in
        let same : x.value ≡ v = cc in
        let t : takes x.number q ≡ takes c q = ap (λ (n : ℕ). takes n q) is in
        let le = ltb-false x.value (takes x.number q) (or_parts _ _ s).0 in
        (ap Some (ap (λ (n : ℕ). n - takes x.number q) same ∙ ap (λ (n : ℕ). v - n) t), omega (arith, same, t, le))
    go false e ih k = ih (or_parts _ _ s).1 k

value_raise : (side : Side) (c v : ℕ) (q : Request) (cells : List Cell) → value_in c cells ≡ Some v → value_in c (map (raised side q) cells) ≡ Some (v + effect side c q)
value_raise side c v q [] h = absurd cc
value_raise side c v q (x ∷ cells) h = grind (arith, nat_tests, value_raise side c v q cells)

-- what a call leaves at its participant, beside what a settle took off: the worth of a cell of value v
abbrev pub Even : ℕ → ℕ → Party → Party → List Entry → Type 0
Even c v p q x = (u : ℕ) × (value_of q c ≡ Some u) × (u + taken c q.entries + taken c x ≡ v + taken c p.entries + given c x)

abbrev pub left_by : Aim → Party → ℕ → Step → List Entry
left_by Stepping p s t = []
left_by (Retreating g d) p s t = []
left_by Finishing p s t = cond (any (is_key (key s t.number)) p.entries) (pick (is_key (key s t.number)) no_entry p.entries ∷ []) []

module _ (c v : ℕ) (p : Party) (cell : value_of p c ≡ Some v) where
  stays_even : Even c v p p []
  stays_even = (v, cell, refl)

  done_even : (e : Entry) → Even c v p (do_after p e) []
  done_even e = go (do_answer p e) refl
    where
      go : (a : Answer) → do_answer p e ≡ a → Even c v p (after_answer a p e) []
      go (Ok Done) h =
          let x = value_lower c v e.request p.cells (accepts p e (sym h)).covered cell in
          let le = x.1 in
          let more = sum_by_push (λ (d : Entry). takes c d.request) p.entries e in
          (v - takes c e.request, x.0, omega (arith, le, more))
      go (Ok Already) h = stays_even
      go (Err r) h = stays_even

  undone_even : (s k : ℕ) → Even c v p (undo_after p (key s k)) []
  undone_even s k =
      cond_both (any (is_key (key s k)) p.entries) _ _ (λ q. Even c v p q []) (λ y.
      let r = (pick (is_key (key s k)) no_entry p.entries).request in
      let sum = sum_cut (is_key (key s k)) (λ (d : Entry). takes c d.request) no_entry p.entries y in
      (v + takes c r, value_raise Take c v r p.cells cell, omega (arith, sum))) (λ _. stays_even)

  settled_even : (s k : ℕ) → Even c v p (settle_after p (key s k)) (cond (any (is_key (key s k)) p.entries) (pick (is_key (key s k)) no_entry p.entries ∷ []) [])
  settled_even s k = go (any (is_key (key s k)) p.entries) refl
    where
      go : (b : Bool) → any (is_key (key s k)) p.entries ≡ b → Even c v p (cond b (record { verbs = p.verbs; cells = map (raised Give (pick (is_key (key s k)) no_entry p.entries).request) p.cells; entries = cut (is_key (key s k)) p.entries }) p) (cond b (pick (is_key (key s k)) no_entry p.entries ∷ []) [])
      go true y =
          let r = (pick (is_key (key s k)) no_entry p.entries).request in
          let sum = sum_cut (is_key (key s k)) (λ (d : Entry). takes c d.request) no_entry p.entries y in
          (v + gives c r, value_raise Give c v r p.cells cell, omega (arith, sum))
      go false y = stays_even

not_already : (n f h o : Bool) → ◌≡◌ {A = Answer} (cond n (Err Unfit) (cond f (Err Full) (cond h (Err Short) (cond o (Err Above) (Ok Done))))) (Ok Already) → ⊥
not_already n f h o e = grind arith

-- the call for a pending step
module _ (ps : List Party) (s : ℕ) (t : Step) where
  pub elsewhere : (a : Aim) (q : ℕ) → (q ≡ t.participant → ⊥) → party_at (asked_after a ps s t) q ≡ party_at ps q
  elsewhere Stepping q d = changed_other ps t.participant (λ x. do_after x (entry s t)) q d
  elsewhere (Retreating g n) q d = changed_other ps t.participant (λ x. undo_after x (key s t.number)) q d
  elsewhere Finishing q d = changed_other ps t.participant (λ x. settle_after x (key s t.number)) q d

  there_do : party_at (asked_after Stepping ps s t) t.participant ≡ do_after (party_at ps t.participant) (entry s t)
  there_do = changed_own ps t.participant (λ x. do_after x (entry s t)) (nobody_does (entry s t))

  there_undo : (g d : ℕ) → party_at (asked_after (Retreating g d) ps s t) t.participant ≡ undo_after (party_at ps t.participant) (key s t.number)
  there_undo g d = changed_own ps t.participant (λ x. undo_after x (key s t.number)) refl

  there_settle : party_at (asked_after Finishing ps s t) t.participant ≡ settle_after (party_at ps t.participant) (key s t.number)
  there_settle = changed_own ps t.participant (λ x. settle_after x (key s t.number)) refl

  pub undo_takes : (g d : ℕ) → (party_at (asked_after (Retreating g d) ps s t) t.participant).entries ≡ cut (is_key (key s t.number)) (party_at ps t.participant).entries
  undo_takes g d = ap (λ (x : Party). x.entries) (there_undo g d) ∙ off_entries Take (party_at ps t.participant) s t.number

  pub settle_takes : (party_at (asked_after Finishing ps s t) t.participant).entries ≡ cut (is_key (key s t.number)) (party_at ps t.participant).entries
  settle_takes = ap (λ (x : Party). x.entries) there_settle ∙ off_entries Give (party_at ps t.participant) s t.number

  -- by the answer
  answered : (a : Answer) → do_answer (party_at ps t.participant) (entry s t) ≡ a → (asked_answer Stepping ps s t ≡ outcome_of a) × ((party_at (asked_after Stepping ps s t) t.participant).entries ≡ (after_answer a (party_at ps t.participant) (entry s t)).entries)
  answered a h = (ap outcome_of h, ap (λ (x : Party). x.entries) there_do ∙ ap (λ (b : Answer). (after_answer b (party_at ps t.participant) (entry s t)).entries) h)

  key_stands : any (is_key (key s t.number)) (party_at ps t.participant).entries ≡ true → (b : Bool) → same_request (pick (is_key (key s t.number)) (entry s t) (party_at ps t.participant).entries).request t.request ≡ b → do_answer (party_at ps t.participant) (entry s t) ≡ cond b (Ok Already) (Err OtherRequest)
  unfolding do_answer
  key_stands h b e = cond-true _ _ _ h ∙ ap (λ (z : Bool). cond z (Ok Already) (Err OtherRequest)) e

  key_new : any (is_key (key s t.number)) (party_at ps t.participant).entries ≡ false → do_answer (party_at ps t.participant) (entry s t) ≡ new_answer (party_at ps t.participant).verbs (party_at ps t.participant).cells (party_at ps t.participant).entries t.request
  unfolding do_answer
  key_new h = cond-false _ _ _ h

  -- a key that stands: nothing changes
  pub do_stays : any (is_key (key s t.number)) (party_at ps t.participant).entries ≡ true → (party_at (asked_after Stepping ps s t) t.participant).entries ≡ (party_at ps t.participant).entries
  do_stays h = go (same_request (pick (is_key (key s t.number)) (entry s t) (party_at ps t.participant).entries).request t.request) refl
    where
      go : (b : Bool) → same_request (pick (is_key (key s t.number)) (entry s t) (party_at ps t.participant).entries).request t.request ≡ b → (party_at (asked_after Stepping ps s t) t.participant).entries ≡ (party_at ps t.participant).entries
      go true e = (answered (Ok Already) (key_stands h true e)).1
      go false e = (answered (Err OtherRequest) (key_stands h false e)).1

  same_itself : same_request t.request t.request ≡ true
  same_itself = rw (eqb_refl t.request.verb, eqb_refl t.request.amount, eqb_refl t.request.a, eqb_refl t.request.b) refl

  -- a step that stands already
  pub do_again : any (is_key (key s t.number)) (party_at ps t.participant).entries ≡ true → pick (is_key (key s t.number)) (entry s t) (party_at ps t.participant).entries ≡ entry s t → (asked_answer Stepping ps s t ≡ (Ok tt)) × ((party_at (asked_after Stepping ps s t) t.participant).entries ≡ (party_at ps t.participant).entries)
  do_again h e = answered (Ok Already) (key_stands h true (ap (λ (x : Entry). same_request x.request t.request) e ∙ same_itself))

  -- one that does not: it joins the end, or is refused
  pub do_new : any (is_key (key s t.number)) (party_at ps t.participant).entries ≡ false → ((asked_answer Stepping ps s t ≡ (Ok tt)) × ((party_at (asked_after Stepping ps s t) t.participant).entries ≡ (party_at ps t.participant).entries ++ entry s t ∷ [])) ⊎ ((c : Refusal) × (asked_answer Stepping ps s t ≡ Err c) × ((party_at (asked_after Stepping ps s t) t.participant).entries ≡ (party_at ps t.participant).entries))
  do_new h = go (do_answer (party_at ps t.participant) (entry s t)) refl
    where
      go : (a : Answer) → do_answer (party_at ps t.participant) (entry s t) ≡ a → ((asked_answer Stepping ps s t ≡ (Ok tt)) × ((party_at (asked_after Stepping ps s t) t.participant).entries ≡ (party_at ps t.participant).entries ++ entry s t ∷ [])) ⊎ ((c : Refusal) × (asked_answer Stepping ps s t ≡ Err c) × ((party_at (asked_after Stepping ps s t) t.participant).entries ≡ (party_at ps t.participant).entries))
      go (Ok Done) e = inl (answered (Ok Done) e)
      go (Ok Already) e = absurd (not_already (not (fitting (party_at ps t.participant).verbs (party_at ps t.participant).cells t.request)) (leb 64 (length (party_at ps t.participant).entries)) (any (short t.request) (party_at ps t.participant).cells) (any (above (party_at ps t.participant).entries t.request) (party_at ps t.participant).cells) (sym (key_new h) ∙ e))
      go (Err c) e = let x = answered (Err c) e in inr (c, x.0, x.1)

  pub asked_even : (a : Aim) (c v : ℕ) → value_of (party_at ps t.participant) c ≡ Some v → Even c v (party_at ps t.participant) (party_at (asked_after a ps s t) t.participant) (left_by a (party_at ps t.participant) s t)
  asked_even Stepping c v h = subst (λ (x : Party). Even c v (party_at ps t.participant) x []) (sym there_do) (done_even c v (party_at ps t.participant) h (entry s t))
  asked_even (Retreating g d) c v h = subst (λ (x : Party). Even c v (party_at ps t.participant) x []) (sym (there_undo g d)) (undone_even c v (party_at ps t.participant) h s t.number)
  asked_even Finishing c v h = subst (λ (x : Party). Even c v (party_at ps t.participant) x (left_by Finishing (party_at ps t.participant) s t)) (sym there_settle) (settled_even c v (party_at ps t.participant) h s t.number)
