-- After any moves with no saga open, a cell is what it was at the start, less what settled steps took and plus what they gave; and the journal names exactly these.
use Rattle.std.proofs.Common.{◌≡◌, ℕ, ◌+◌, ◌-◌, Bool, true, false, cond, eqb, ltb, List, [], ◌∷◌, ◌++◌, length, Some, None, Ok, Err, fold, Option, Result, sym, refl, ap, ◌∙◌, subst, ⊎_elim, append_assoc, append-nil, arith}
use Rattle.std.proofs.lemmas.List.Sums.{sum_by-append}
use Rattle.std.proofs.lemmas.Bool.{cond_both, cond-true, cases_eq}
use Rattle.bounded.specs.Firsts.{any, pick, first}
use Rattle.terms.specs.declared.Entry.{Entry}
use Rattle.participants.specs.Effects.{takes, gives, taken, given}
use Rattle.participants.specs.Party.{Party, is_key, no_entry, value_of}
use Rattle.bank.specs.Banks.{party_at}
use Rattle.bank.specs.Banks.{count_of}
use Rattle.law.specs.declared.event.Aim.{Aim}
use Rattle.law.specs.declared.event.Aim.TheVariants.{Stepping, Retreating, Finishing}
use Rattle.law.specs.declared.event.Step.{Step}
use Rattle.law.specs.declared.event.Phase.TheVariants.{Pending}
use Rattle.law.specs.Law.{Saga}
use Rattle.law.specs.Sagas.{Sagas, owed, reading}
use Rattle.runner.specs.declared.fault.RunnerFault.{RunnerFault}
use Rattle.runner.specs.Memories.{Memory}
use Rattle.runner.specs.Worlds.{World}
use Rattle.runner.specs.Calls.{asked_after, restart_by, restarted}
use Rattle.runner.specs.declared.moves.Call.{Call}
use Rattle.runner.specs.declared.moves.Reach.{Reach}
use Rattle.runner.specs.declared.moves.Reach.TheVariants.{Made, CutBefore, CutAfter}
use Rattle.runner.specs.declared.moves.Move.{Move}
use Rattle.runner.specs.Acts.{called, act_by, act}
use Rattle.rehearsal.specs.Shows.{mine, open_saga, settled_steps}
use Rattle.rehearsal.specs.Keeps.{Start, Balance, of_party, settle_by, settles, settles_at, settled_in}
use Rattle.rehearsal.proofs.Deeds.{left_by, elsewhere, asked_even}
use Rattle.rehearsal.proofs.Shown.{key, eqb_refl}
use Rattle.rehearsal.proofs.Turns.{Turns, turned}
use Rattle.rehearsal.proofs.Agrees.{Taken, Shows, One, still_none, held, lost_of, of_party_one, of_party_off}
use Rattle.rehearsal.proofs.Standings.{memory_now, agreed_after}

-- a cell's worth: what it was, less what stands and what settled steps took, and what these gave
pub record Worth (before : List Party) (ps : List Party) (gone : Taken) : Type 0 where
  pub worth : (p c v : ℕ) → value_of (party_at before p) c ≡ Some v → (u : ℕ) × (value_of (party_at ps p) c ≡ Some u) × (u + taken c (party_at ps p).entries + taken c (of_party p gone) ≡ v + given c (of_party p gone))

none_more : (before ps : List Party) (gone : Taken) → Worth before ps gone → Worth before ps (gone ++ [])
none_more before ps gone h = subst (Worth before ps) (sym (append-nil gone)) h

-- what a settle takes off at its participant and elsewhere
module _ (ps : List Party) (s : ℕ) (t : Step) (gone : Taken) where
  taken_here : (a : Aim) → of_party t.participant (gone ++ settle_by s ps (Pending a t) None) ≡ of_party t.participant gone ++ left_by a (party_at ps t.participant) s t
  taken_here Stepping = ap (of_party t.participant) (append-nil gone) ∙ sym (append-nil (of_party t.participant gone))
  taken_here (Retreating g d) = ap (of_party t.participant) (append-nil gone) ∙ sym (append-nil (of_party t.participant gone))
  taken_here Finishing = go (any (is_key (key s t.number)) (party_at ps t.participant).entries)
    where
      go : (b : Bool) → of_party t.participant (gone ++ cond b ((t.participant, pick (is_key (key s t.number)) no_entry (party_at ps t.participant).entries) ∷ []) []) ≡ of_party t.participant gone ++ cond b (pick (is_key (key s t.number)) no_entry (party_at ps t.participant).entries ∷ []) []
      go true = of_party_one t.participant t.participant (pick (is_key (key s t.number)) no_entry (party_at ps t.participant).entries) gone refl
      go false = ap (of_party t.participant) (append-nil gone) ∙ sym (append-nil (of_party t.participant gone))

  taken_away : (a : Aim) (p : ℕ) → (p ≡ t.participant → ⊥) → of_party p (gone ++ settle_by s ps (Pending a t) None) ≡ of_party p gone
  taken_away Stepping p d = ap (of_party p) (append-nil gone)
  taken_away (Retreating g n) p d = ap (of_party p) (append-nil gone)
  taken_away Finishing p d = go (any (is_key (key s t.number)) (party_at ps t.participant).entries)
    where
      go : (b : Bool) → of_party p (gone ++ cond b ((t.participant, pick (is_key (key s t.number)) no_entry (party_at ps t.participant).entries) ∷ []) []) ≡ of_party p gone
      go true = of_party_off p t.participant (pick (is_key (key s t.number)) no_entry (party_at ps t.participant).entries) gone (λ e. d (sym e))
      go false = ap (of_party p) (append-nil gone)

  asked_worth : (before : List Party) (a : Aim) → Worth before ps gone → Worth before (asked_after a ps s t) (gone ++ settle_by s ps (Pending a t) None)
  asked_worth before a h = record { worth = worth_now }
    where
      here_worth : (c v : ℕ) → value_of (party_at before t.participant) c ≡ Some v → (u : ℕ) × (value_of (party_at (asked_after a ps s t) t.participant) c ≡ Some u) × (u + taken c (party_at (asked_after a ps s t) t.participant).entries + taken c (of_party t.participant (gone ++ settle_by s ps (Pending a t) None)) ≡ v + given c (of_party t.participant (gone ++ settle_by s ps (Pending a t) None)))
      here_worth c v k =
          let P = party_at ps t.participant in
          let old = h.worth t.participant c v k in
          let was = old.2 in
          let even = asked_even ps s t a c old.0 old.1 in
          let is = even.2 in
          let tx = ap (taken c) (taken_here a) ∙ sum_by-append (λ (e : Entry). takes c e.request) (of_party t.participant gone) (left_by a P s t) in
          let gx = ap (given c) (taken_here a) ∙ sum_by-append (λ (e : Entry). gives c e.request) (of_party t.participant gone) (left_by a P s t) in
          (even.0, even.1, omega (arith, was, is, tx, gx))

      away_worth : (p c v : ℕ) → (p ≡ t.participant → ⊥) → value_of (party_at before p) c ≡ Some v → (u : ℕ) × (value_of (party_at (asked_after a ps s t) p) c ≡ Some u) × (u + taken c (party_at (asked_after a ps s t) p).entries + taken c (of_party p (gone ++ settle_by s ps (Pending a t) None)) ≡ v + given c (of_party p (gone ++ settle_by s ps (Pending a t) None)))
      away_worth p c v d k =
          subst (λ (x : List Entry). (u : ℕ) × (value_of (party_at (asked_after a ps s t) p) c ≡ Some u) × (u + taken c (party_at (asked_after a ps s t) p).entries + taken c x ≡ v + given c x)) (sym (taken_away a p d))
          (subst (λ (x : Party). (u : ℕ) × (value_of x c ≡ Some u) × (u + taken c x.entries + taken c (of_party p gone) ≡ v + given c (of_party p gone))) (sym (elsewhere ps s t a p d)) (h.worth p c v k))

      worth_now : (p c v : ℕ) → value_of (party_at before p) c ≡ Some v → (u : ℕ) × (value_of (party_at (asked_after a ps s t) p) c ≡ Some u) × (u + taken c (party_at (asked_after a ps s t) p).entries + taken c (of_party p (gone ++ settle_by s ps (Pending a t) None)) ≡ v + given c (of_party p (gone ++ settle_by s ps (Pending a t) None)))
      worth_now p c v k = ⊎_elim
          (λ (e : p ≡ t.participant). subst (λ (q : ℕ). value_of (party_at before q) c ≡ Some v → (u : ℕ) × (value_of (party_at (asked_after a ps s t) q) c ≡ Some u) × (u + taken c (party_at (asked_after a ps s t) q).entries + taken c (of_party q (gone ++ settle_by s ps (Pending a t) None)) ≡ v + given c (of_party q (gone ++ settle_by s ps (Pending a t) None)))) (sym e) (here_worth c v) k)
          (λ (d : p ≡ t.participant → ⊥). away_worth p c v d k)
          (cases_eq p t.participant)

-- only a call to a participant changes it
abbrev KeptWorth : List Party → Taken → World → Taken → Type 0
KeptWorth before gone v more = Worth before v.parties (gone ++ more)

turns : (before : List Party) (w : World) (gone : Taken) → Worth before w.parties gone → Turns w (KeptWorth before gone)
turns before w gone h =
    let k = none_more before w.parties gone h in
    record {
      writes = record {
        same = k;
        began = λ s e may l. k;
        stepped = λ s t x f run law l. k;
        marked = λ s x f run law l. k;
        joined = λ s x f run law l. k;
        backed = λ s d x f run law l. k;
        finished = λ s x f run law. k;
        cancelled = λ s x f run law. k;
      };
      asked = λ s a t x f ph mem. asked_worth w.parties s t gone before a h;
      told = λ s a t y x f ph mem. k;
    }

worth_restarted : (before : List Party) (w : World) (gone : Taken) (y : Result (Sagas Memory) ℕ) → Worth before w.parties gone → Worth before (restart_by w y).1.parties gone
worth_restarted before w gone (Err i) h = h
worth_restarted before w gone (Ok t) h = cond_both (ltb (w.capacity - length w.records) (owed t)) _ _ (λ (z : Result ℕ RunnerFault × World). Worth before z.1.parties gone) (λ _. h) (λ _. h)

worth_called : (before : List Party) (w : World) (gone : Taken) (c : Call) → Worth before w.parties gone → Worth before (called w c).parties (gone ++ settles w c)
worth_called before w gone c h =
    let again = worth_restarted before w gone (reading (count_of w.parties) None w.records) h in
    turned w (KeptWorth before gone) (turns before w gone h) (none_more before (restarted w).1.parties gone again) c

worth_act : (before : List Party) (w : World) (gone : Taken) (c : Call) (r : Reach) → Worth before w.parties gone → Worth before (act_by w c r).parties (gone ++ settles_at w c r)
worth_act before w gone c Made h = worth_called before w gone c h
worth_act before w gone c CutBefore h = none_more before w.parties gone h
worth_act before w gone c CutAfter h = worth_called before w gone c h

pub worth_moves : (before : List Party) (w : World) (gone : Taken) (ms : List Move) → Worth before w.parties gone → Worth before (fold act w ms).parties (gone ++ settled_in w ms)
worth_moves before w gone [] h = none_more before w.parties gone h
worth_moves before w gone (c ∷ ms) h =
    subst (Worth before (fold act (act w c) ms).parties) (append_assoc gone (settles_at w c.call c.reach) (settled_in (act w c) ms)) (worth_moves before (act w c) (gone ++ settles_at w c.call c.reach) ms (worth_act before w gone c.call c.reach h))

worth_start : (w : World) → Start w → Worth w.parties w.parties []
worth_start w h = record { worth = λ p c v k. let e = ap (taken c) (h.idle p) in (v, k, omega (arith, e)) }

-- where no saga has an entry, there is no_entry
none_of_all : (es : List Entry) → ((s : ℕ) → mine s es ≡ []) → es ≡ []
none_of_all [] h = refl
none_of_all (e ∷ es) h =
    let it : ◌≡◌ {A = List Entry} (e ∷ mine e.key.saga es) [] = sym (cond-true (eqb e.key.saga e.key.saga) (e ∷ mine e.key.saga es) (mine e.key.saga es) (eqb_refl e.key.saga)) ∙ h e.key.saga in
    absurd cc

pub balance_kept : (w : World) (ms : List Move) → Start w → Balance w ms
balance_kept w ms h shut =
    let v = fold act w ms in
    let gone = settled_in w ms in
    let shows : (s : ℕ) → Shows s (held v.parties s) (lost_of gone s) [] (settled_steps s v.records) = λ s.
    let closed : open_saga s v ≡ None = ap (λ (l : List Saga). first (λ (x : Saga). eqb x.number s) l) shut in
    still_none (memory_now v s) s (held v.parties s) (lost_of gone s) (settled_steps s v.records) (subst (λ (r : Option Saga). One (memory_now v s) s (held v.parties s) (lost_of gone s) r (settled_steps s v.records)) closed (agreed_after w ms h s)).fits in
    let kept = worth_moves w.parties w [] ms (worth_start w h) in (
      (λ p c k is.
          let x = kept.worth p c k is in
          let worth = x.2 in
          let bare' = ap (taken c) (none_of_all (party_at v.parties p).entries (λ s. (shows s p).0)) in
          (x.0, x.1, omega (arith, worth, bare'))),
      (λ s p. (shows s p).1),
    )
