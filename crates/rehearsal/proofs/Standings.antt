-- After any moves the participants hold of each saga what the journal shows, save its pending step; and what settles took off is what it shows settled, save that step.
use Rattle.std.proofs.Common.{◌≡◌, ℕ, ◌-◌, Bool, true, false, cond, eqb, ltb, List, [], ◌∷◌, ◌++◌, length, Some, None, Ok, Err, fold, Option, Result, sym, refl, ap, ◌∙◌, subst, inl, inr, ⊎_elim, append_assoc, append-nil}
use Rattle.std.specs.Option.{option_map}
use Rattle.std.proofs.lemmas.Bool.{both_ways, cond_both, cases_eq}
use Rattle.bounded.specs.Firsts.{first}
use Rattle.law.specs.Outcomes.{Outcome}
use Rattle.terms.specs.declared.Entry.{Entry}
use Rattle.participants.specs.Party.{Party}
use Rattle.bank.specs.Banks.{count_of}
use Rattle.law.specs.declared.event.Aim.{Aim}
use Rattle.law.specs.declared.event.Step.{Step}
use Rattle.record.specs.declared.Record.{Record}
use Rattle.law.specs.declared.event.Event.{Event}
use Rattle.law.specs.declared.event.Event.TheVariants.{Begin, Intent, Mark, Join, Back, Finish}
use Rattle.law.specs.declared.event.Phase.{Phase}
use Rattle.law.specs.declared.event.Phase.TheVariants.{Running, Pending}
use Rattle.law.specs.Events.{record_of}
use Rattle.law.specs.Law.{Saga, begun, next, lawful, is_open}
use Rattle.law.specs.Sagas.{Sagas, sagas, of_saga, moves, begins, may_begin, applied, owed, reading, renoted}
use Rattle.law.specs.Bare.{bare}
use Rattle.law.proofs.Bares.{all_first, noted_read}
use Rattle.runner.specs.Memories.{Memory}
use Rattle.runner.specs.declared.fault.RunnerFault.{RunnerFault}
use Rattle.runner.specs.Worlds.{World, recorded, with_memory}
use Rattle.runner.specs.Calls.{asked_answer, asked_after, event_for, with_parties, restart_by, restarted}
use Rattle.runner.specs.Mirrors.{Mirrors}
use Rattle.runner.proofs.Mirroring.{Row}
use Rattle.runner.proofs.Calling.{mirrored, unready, told_lawful, told_same}
use Rattle.runner.specs.declared.moves.Call.{Call}
use Rattle.runner.specs.declared.moves.Reach.{Reach}
use Rattle.runner.specs.declared.moves.Reach.TheVariants.{Made, CutBefore, CutAfter}
use Rattle.runner.specs.declared.moves.Move.{Move}
use Rattle.runner.specs.Acts.{called, lost, act_by, act}
use Rattle.rehearsal.specs.Shows.{open_saga, open_in, settled_steps, mine}
use Rattle.rehearsal.specs.Keeps.{Start, Standing, settles, settles_at, settled_in, settle_by}
use Rattle.rehearsal.proofs.Looks.{push_other, push_own, below_none, note_other, note_own, re_noted, re_noted_open}
use Rattle.rehearsal.proofs.Mirrored.{mirrors_called, mirrors_act}
use Rattle.rehearsal.proofs.Rooms.{row_keeps}
use Rattle.rehearsal.proofs.Answering.{open_is}
use Rattle.runner.proofs.Turns.{Sees}
use Rattle.rehearsal.proofs.Turns.{Turns, turned}
use Rattle.rehearsal.proofs.Histories.{Good, said, SettlesNone, NoneSettled, Unsettled, reading_good, settled_other, settled_same}
use Rattle.rehearsal.proofs.Written.{begins_above, begins_is, lives, ordered, closed_now, row_now, other_now}
use Rattle.rehearsal.proofs.Agrees.{Taken, Shows, Before, After, One, either_way, forgotten, still_none, still_running, blank_running, row_left, told_shows, told_settled, held, lost_of, held_other, lost_other, one_same, asked_one}

-- what is remembered of a saga
abbrev pub mem_of : Option Row → Memory
mem_of None = None
mem_of (Some x) = x.1

abbrev row_of : Option Row → Option Saga
row_of o = option_map (λ (x : Row). x.0) o

abbrev AgreesAt : ℕ → Option Row → List Record → List Party → Taken → Type 0
AgreesAt s f rs ps gone = One (mem_of f) s (held ps s) (lost_of gone s) (row_of f) (settled_steps s rs)

-- by the runner's own table
abbrev AgreesIn : World → Taken → Type 0
AgreesIn w gone = (s : ℕ) → AgreesAt s (first (of_saga s) w.table.rows) w.records w.parties gone

abbrev pub memory_now : World → ℕ → Memory
memory_now w s = cond w.ready (mem_of (first (of_saga s) w.table.rows)) None

-- by the law's reading of the journal
abbrev pub Agreed : World → Taken → Type 0
Agreed w gone = (s : ℕ) → One (memory_now w s) s (held w.parties s) (lost_of gone s) (open_saga s w) (settled_steps s w.records)

agreed_in : (w : World) (gone : Taken) → Mirrors w → w.ready ≡ true → Agreed w gone → AgreesIn w gone
agreed_in w gone m e h s =
    let f = first (of_saga s) w.table.rows in
    let row : open_saga s w ≡ row_of f = open_is w s m e in
    subst (λ (r : Option Saga). One (mem_of f) s (held w.parties s) (lost_of gone s) r (settled_steps s w.records)) row
    (subst (λ (b : Bool). One (cond b (mem_of f) None) s (held w.parties s) (lost_of gone s) (open_saga s w) (settled_steps s w.records)) e (h s))

in_agreed : (w : World) (gone : Taken) → Mirrors w → w.ready ≡ true → AgreesIn w gone → Agreed w gone
in_agreed w gone m e h s =
    let f = first (of_saga s) w.table.rows in
    let row : open_saga s w ≡ row_of f = open_is w s m e in
    subst (λ (b : Bool). One (cond b (mem_of f) None) s (held w.parties s) (lost_of gone s) (open_saga s w) (settled_steps s w.records)) (sym e)
    (subst (λ (r : Option Saga). One (mem_of f) s (held w.parties s) (lost_of gone s) r (settled_steps s w.records)) (sym row) (h s))

by_saga : (s : ℕ) (P : ℕ → Type 0) → P s → ((r : ℕ) → (s ≡ r → ⊥) → P r) → (r : ℕ) → P r
by_saga s P own other r = ⊎_elim (λ (e : s ≡ r). subst P e own) (λ (d : s ≡ r → ⊥). other r d) (cases_eq s r)

-- the row that a record leaves, with a note that remembers nothing
left_row : (s : ℕ) (h g : ℕ → List Entry) (z : Saga) (v : Memory) (o : List Step) → v ≡ None → (is_open z.phase ≡ false → z.standing ≡ []) → Shows s h g z.standing o → (b : Bool) → is_open z.phase ≡ b → One (mem_of (cond b (Some (z, v)) None)) s h g (row_of (cond b (Some (z, v)) None)) o
left_row s h g z v o blank none f true e = subst (λ (m : Memory). One m s h g (Some z) o) (sym blank) (record { fits = inl (row_left s h g z o none f true e); heard = tt })
left_row s h g z v o blank none f false e = record { fits = inl (row_left s h g z o none f false e); heard = tt }

-- a world that is read
module _ (w : World) (gone : Taken) (good : Good w.records (bare w.table)) (agrees : AgreesIn w gone) where
  own_one : (s : ℕ) (x : Row) → first (of_saga s) w.table.rows ≡ Some x → One x.1 s (held w.parties s) (lost_of gone s) (Some x.0) (settled_steps s w.records)
  own_one s x f = subst (λ (o : Option Row). AgreesAt s o w.records w.parties gone) f (agrees s)

  module _ (s : ℕ) (e : Event) (x : Row) (f : first (of_saga s) w.table.rows ≡ Some x) (same : applied (count_of w.parties) s e None w.table ≡ moves (count_of w.parties) s e w.table) (law : lawful (count_of w.parties) x.0 e ≡ true) where
    other_agrees : (r : ℕ) (o : Option Row) → (s ≡ r → ⊥) → o ≡ first (of_saga r) w.table.rows → AgreesAt r o (recorded s e w).records w.parties gone
    other_agrees r o d q =
        subst (λ (k : List Step). One (mem_of o) r (held w.parties r) (lost_of gone r) (row_of o) k) (sym (settled_other r s e d w.records (record_of s e) (said s e)))
        (subst (λ (z : Option Row). AgreesAt r z w.records w.parties gone) (sym q) (agrees r))

    -- a record after which nothing is remembered
    agrees_recorded : x.1 ≡ None → Shows s (held w.parties s) (lost_of gone s) (next x.0 e).standing (settled_steps s (recorded s e w).records) → AgreesIn (recorded s e w) gone
    agrees_recorded blank shows =
        let P : ℕ → Type 0 = λ r. AgreesAt r (first (of_saga r) (applied (count_of w.parties) s e None w.table).1.rows) (recorded s e w).records w.parties gone in
        by_saga s P
        (subst (λ (o : Option Row). AgreesAt s o (recorded s e w).records w.parties gone) (sym (row_now w good s e x f None same law)) (left_row s (held w.parties s) (lost_of gone s) (next x.0 e) x.1 _ blank (closed_now w good s e x f None same law) shows (is_open (next x.0 e).phase) refl))
        (λ r d. other_agrees r _ d (other_now w good s e x f None same law r d))

    -- a record, and then another note
    agrees_renoted : (u : Memory) → u ≡ None → Shows s (held w.parties s) (lost_of gone s) (next x.0 e).standing (settled_steps s (recorded s e w).records) → AgreesIn (with_memory s u (recorded s e w)) gone
    agrees_renoted u blank shows =
        let rows = (applied (count_of w.parties) s e None w.table).1.rows in
        let P : ℕ → Type 0 = λ r. AgreesAt r (first (of_saga r) (renoted s u rows)) (recorded s e w).records w.parties gone in
        let now : first (of_saga s) (renoted s u rows) ≡ cond (is_open (next x.0 e).phase) (Some (next x.0 e, u)) None = note_own s u rows ∙ ap (re_noted u) (row_now w good s e x f None same law) ∙ re_noted_open (is_open (next x.0 e).phase) (next x.0 e) x.1 u in
        by_saga s P
        (subst (λ (o : Option Row). AgreesAt s o (recorded s e w).records w.parties gone) (sym now) (left_row s (held w.parties s) (lost_of gone s) (next x.0 e) u _ blank (closed_now w good s e x f None same law) shows (is_open (next x.0 e).phase) refl))
        (λ r d. other_agrees r _ d (note_other s r d u rows ∙ other_now w good s e x f None same law r d))

  -- a record of a running saga leaves its steps as they were
  running_shows : (s : ℕ) (e : Event) (x : Row) → first (of_saga s) w.table.rows ≡ Some x → x.0.phase ≡ Running → SettlesNone e → (next x.0 e).standing ≡ x.0.standing → Shows s (held w.parties s) (lost_of gone s) (next x.0 e).standing (settled_steps s (w.records ++ (record_of s e) ∷ []))
  running_shows s e x f run none stand =
      let o = own_one s x f in
      let before = still_running s (held w.parties s) (lost_of gone s) x.0 (settled_steps s w.records) run x.1 o.fits in
      let unsettled : NoneSettled s w.records = subst (λ (p : Phase). Unsettled p s w.records) run (lives w good s x f).unsettled in
      subst (λ (k : List Step). Shows s (held w.parties s) (lost_of gone s) (next x.0 e).standing k) (sym (settled_same s w.records (record_of s e) e (said s e) none unsettled))
      (subst (λ (l : List Step). Shows s (held w.parties s) (lost_of gone s) l (settled_steps s w.records)) (sym stand) before)

  blank : (s : ℕ) (x : Row) → first (of_saga s) w.table.rows ≡ Some x → x.0.phase ≡ Running → x.1 ≡ None
  blank s x f run = blank_running s (held w.parties s) (lost_of gone s) x.0 (settled_steps s w.records) run x.1 (own_one s x f).heard

  told_agrees : (s : ℕ) (a : Aim) (t : Step) (y : Outcome) (x : Row) → first (of_saga s) w.table.rows ≡ Some x → x.0.phase ≡ Pending a t → x.1 ≡ Some y → AgreesIn (with_memory s None (recorded s (event_for a t y) w)) gone
  told_agrees s a t y x f ph mem =
      let o = own_one s x f in
      let sound = (row_keeps w.table good.keeps s x f).1 in
      let told : One (Some y) s (held w.parties s) (lost_of gone s) (Some x.0) (settled_steps s w.records) = subst (λ (m : Memory). One m s (held w.parties s) (lost_of gone s) (Some x.0) (settled_steps s w.records)) mem o in
      let shows = told_shows s (held w.parties s) (lost_of gone s) (settled_steps s w.records) x.0 a t y ph sound told in
      agrees_renoted s (event_for a t y) x f (told_same (count_of w.parties) s a t y None w.table) (told_lawful (count_of w.parties) x.0 a t y ph) None refl
      (subst (λ (k : List Step). Shows s (held w.parties s) (lost_of gone s) (next x.0 (event_for a t y)).standing k) (sym (told_settled s w.records x.0 a t y ph sound (lives w good s x f))) shows)

  asked_agrees : (s : ℕ) (a : Aim) (t : Step) (x : Row) → first (of_saga s) w.table.rows ≡ Some x → x.0.phase ≡ Pending a t → x.1 ≡ None → AgreesIn (with_memory s (Some (asked_answer a w.parties s t)) (with_parties (asked_after a w.parties s t) w)) (gone ++ settle_by s w.parties (Pending a t) None)
  asked_agrees s a t x f ph mem =
      let v : Memory = Some (asked_answer a w.parties s t) in
      let gone' = gone ++ settle_by s w.parties (Pending a t) None in
      let ps' = asked_after a w.parties s t in
      let P : ℕ → Type 0 = λ r. AgreesAt r (first (of_saga r) (renoted s v w.table.rows)) w.records ps' gone' in
      let now : first (of_saga s) (renoted s v w.table.rows) ≡ Some (x.0, v) = note_own s v w.table.rows ∙ ap (re_noted v) f in
      let o : One None s (held w.parties s) (lost_of gone s) (Some x.0) (settled_steps s w.records) = subst (λ (m : Memory). One m s (held w.parties s) (lost_of gone s) (Some x.0) (settled_steps s w.records)) mem (own_one s x f) in
      by_saga s P
      (subst (λ (z : Option Row). AgreesAt s z w.records ps' gone') (sym now) (asked_one w.parties gone s t a x.0 (settled_steps s w.records) ph (row_keeps w.table good.keeps s x f).1 o))
      (λ r d. subst (λ (z : Option Row). AgreesAt r z w.records ps' gone') (sym (note_other s r d v w.table.rows))
      (one_same (mem_of (first (of_saga r) w.table.rows)) r (row_of (first (of_saga r) w.table.rows)) (settled_steps r w.records) (held_other w.parties s r d t a) (lost_other w.parties s r d t gone a) (agrees r)))

  began_agrees : (s : ℕ) → may_begin s w.table ≡ true → AgreesIn (recorded s Begin w) gone
  began_agrees s may =
      let y : Row = (begun s, None) in
      let more = begins_above s w.table may in
      let rows_are : (begins s None w.table).1.rows ≡ w.table.rows ++ y ∷ [] = ap (λ (t : Sagas Memory). t.rows) (begins_is s w.table may) in
      let absent = below_none s 0 w.table.top w.table.rows more (ordered w good) in
      let rs' = w.records ++ (record_of s Begin) ∷ [] in
      let P : ℕ → Type 0 = λ r. AgreesAt r (first (of_saga r) (begins s None w.table).1.rows) rs' w.parties gone in
      let now : first (of_saga s) (begins s None w.table).1.rows ≡ Some y = ap (λ (l : List Row). first (of_saga s) l) rows_are ∙ push_own s y refl w.table.rows absent in
      let none : One None s (held w.parties s) (lost_of gone s) None (settled_steps s w.records) = subst (λ (o : Option Row). AgreesAt s o w.records w.parties gone) absent (agrees s) in
      let shows = still_none None s (held w.parties s) (lost_of gone s) (settled_steps s w.records) none.fits in
      let over = settled_same s w.records (record_of s Begin) Begin (said s Begin) (λ _ _. refl) (good.fresh s more).1 in
      by_saga s P
      (subst (λ (o : Option Row). AgreesAt s o rs' w.parties gone) (sym now) (record { fits = inl (subst (λ (k : List Step). Shows s (held w.parties s) (lost_of gone s) [] k) (sym over) shows); heard = tt }))
      (λ r d. subst (λ (o : Option Row). AgreesAt r o rs' w.parties gone) (sym (ap (λ (l : List Row). first (of_saga r) l) rows_are ∙ push_other s r d y refl w.table.rows))
      (subst (λ (k : List Step). One (mem_of (first (of_saga r) w.table.rows)) r (held w.parties r) (lost_of gone r) (row_of (first (of_saga r) w.table.rows)) k) (sym (settled_other r s Begin d w.records (record_of s Begin) (said s Begin))) (agrees r)))

-- ready or not
record Either (gone : Taken) (v : World) (more : Taken) : Type 0 where
  read : v.ready ≡ true → AgreesIn v (gone ++ more)
  unread : v.ready ≡ false → Agreed v (gone ++ more)

none_more : (gone : Taken) (P : Taken → Type 0) → P gone → P (gone ++ [])
none_more gone P h = subst P (sym (append-nil gone)) h

when_read : (gone : Taken) (v : World) (more : Taken) → v.ready ≡ true → AgreesIn v (gone ++ more) → Either gone v more
when_read gone v more e h = record { read = λ _. h; unread = λ n. absurd (both_ways v.ready n e) }

turns : (w : World) (gone : Taken) → Mirrors w → Agreed w gone → Turns w (Either gone)
turns w gone m h =
    let good : w.ready ≡ true → Good w.records (bare w.table) = λ e. reading_good (count_of w.parties) w.records (bare w.table) (m e) in
    let ok : w.ready ≡ true → AgreesIn w gone = λ e. agreed_in w gone m e h in
    let keep : (v : World) → v.ready ≡ true → AgreesIn v gone → Either gone v [] = λ v e k. when_read gone v [] e (none_more gone (AgreesIn v) k) in
    -- a record of a running saga
    let wrote : (s : ℕ) (e : Event) (x : Row) → Sees w s x → x.0.phase ≡ Running → applied (count_of w.parties) s e None w.table ≡ moves (count_of w.parties) s e w.table → lawful (count_of w.parties) x.0 e ≡ true → SettlesNone e → (next x.0 e).standing ≡ x.0.standing → Either gone (recorded s e w) [] =
    λ s e x f run same law none stand. let g = good f.0 in let k = ok f.0 in keep _ f.0 (agrees_recorded w gone g k s e x f.1 same law (blank w gone g k s x f.1 run) (running_shows w gone g k s e x f.1 run none stand)) in
    record {
      writes = record {
        same = record { read = λ e. none_more gone (AgreesIn w) (ok e); unread = λ _. none_more gone (Agreed w) h };
        began = λ s e may l. keep _ e (began_agrees w gone (good e) (ok e) s may);
        stepped = λ s t x f run law l. wrote s (Intent t) x f run refl law (λ _ _. refl) refl;
        marked = λ s x f run law l. wrote s Mark x f run refl law (λ _ _. refl) refl;
        joined = λ s x f run law l. wrote s Join x f run refl law (λ _ _. refl) refl;
        backed = λ s d x f run law l. wrote s (Back d) x f run refl law (λ _ _. refl) refl;
        finished = λ s x f run law. wrote s Finish x f run refl law (λ _ _. refl) refl;
        cancelled = λ s x f run law. wrote s (Back 0) x f run refl law (λ _ _. refl) refl;
      };
      asked = λ s a t x f ph mem. when_read gone _ _ f.0 (asked_agrees w gone (good f.0) (ok f.0) s a t x f.1 ph mem);
      told = λ s a t y x f ph mem. keep _ f.0 (told_agrees w gone (good f.0) (ok f.0) s a t y x f.1 ph mem);
    }

-- a restart and a cut forget what was told
forgets : (w : World) (gone : Taken) → Agreed w gone → (s : ℕ) → One None s (held w.parties s) (lost_of gone s) (open_saga s w) (settled_steps s w.records)
forgets w gone h s = forgotten (memory_now w s) s (held w.parties s) (lost_of gone s) (open_saga s w) (settled_steps s w.records) (h s)

all_fresh : (n : ℕ) (rs : List Record) (t : Sagas Memory) → reading n None rs ≡ Ok t → (s : ℕ) → mem_of (first (of_saga s) t.rows) ≡ None
all_fresh n rs t e s =
    let P : Memory → Type 0 = λ v. v ≡ None in
    let all = noted_read P n None 0 (sagas 0 []) t rs refl tt e in
    go (first (of_saga s) t.rows) (λ x f. all_first (of_saga s) (λ (y : Row). P y.1) t.rows x all f) refl
  where
    go : (o : Option Row) → ((x : Row) → first (of_saga s) t.rows ≡ Some x → x.1 ≡ None) → first (of_saga s) t.rows ≡ o → mem_of o ≡ None
    go None h f = refl
    go (Some x) h f = h x f

agreed_restarted : (w : World) (gone : Taken) (y : Result (Sagas Memory) ℕ) → reading (count_of w.parties) None w.records ≡ y → Agreed w gone → Agreed (restart_by w y).1 gone
agreed_restarted w gone (Err i) e h = forgets w gone h
agreed_restarted w gone (Ok t) e h =
    cond_both (ltb (w.capacity - length w.records) (owed t)) _ _ (λ (z : Result ℕ RunnerFault × World). Agreed z.1 gone) (λ _. forgets w gone h) (λ _ s.
    subst (λ (m : Memory). One m s (held w.parties s) (lost_of gone s) (open_saga s w) (settled_steps s w.records)) (sym (all_fresh (count_of w.parties) w.records t e s)) (forgets w gone h s))

by_reading : (gone : Taken) (v : World) (more : Taken) → Mirrors v → Either gone v more → (b : Bool) → v.ready ≡ b → Agreed v (gone ++ more)
by_reading gone v more m h true e = in_agreed v (gone ++ more) m e (h.read e)
by_reading gone v more m h false e = h.unread e

agreed_called : (w : World) (gone : Taken) (c : Call) → Mirrors w → Agreed w gone → Agreed (called w c) (gone ++ settles w c)
agreed_called w gone c m h =
    let again : Agreed (restarted w).1 gone = agreed_restarted w gone (reading (count_of w.parties) None w.records) refl h in
    let fresh_start : Mirrors (restarted w).1 = mirrored.restart w in
    let restart : Either gone (restarted w).1 [] = record { read = λ e. agreed_in (restarted w).1 (gone ++ []) fresh_start e (none_more gone (Agreed (restarted w).1) again); unread = λ _. none_more gone (Agreed (restarted w).1) again } in
    by_reading gone (called w c) (settles w c) (mirrors_called w c m) (turned w (Either gone) (turns w gone m h) restart c) (called w c).ready refl

agreed_act : (w : World) (gone : Taken) (c : Call) (r : Reach) → Mirrors w → Agreed w gone → Agreed (act_by w c r) (gone ++ settles_at w c r)
agreed_act w gone c Made m h = agreed_called w gone c m h
agreed_act w gone c CutBefore m h = none_more gone (Agreed (lost w)) (forgets w gone h)
agreed_act w gone c CutAfter m h = forgets (called w c) (gone ++ settles w c) (agreed_called w gone c m h)

pub agreed_moves : (w : World) (gone : Taken) (ms : List Move) → Mirrors w → Agreed w gone → Agreed (fold act w ms) (gone ++ settled_in w ms)
agreed_moves w gone [] m h = none_more gone (Agreed w) h
agreed_moves w gone (c ∷ ms) m h =
    let now = agreed_act w gone c.call c.reach m h in
    subst (Agreed (fold act (act w c) ms)) (append_assoc gone (settles_at w c.call c.reach) (settled_in (act w c) ms)) (agreed_moves (act w c) (gone ++ settles_at w c.call c.reach) ms (mirrors_act w c.call c.reach m) now)

pub agreed_start : (w : World) → Start w → Agreed w []
agreed_start w h s =
    let P : List Record → Type 0 = λ rs. One None s (held w.parties s) (lost_of [] s) (first (λ (x : Saga). eqb x.number s) (open_in (reading (count_of w.parties) tt rs))) (settled_steps s rs) in
    let base : P [] = record { fits = inl (λ p. (ap (mine s) (h.idle p), refl)); heard = tt } in
    subst (λ (b : Bool). One (cond b (mem_of (first (of_saga s) w.table.rows)) None) s (held w.parties s) (lost_of [] s) (open_saga s w) (settled_steps s w.records)) (sym h.unread) (subst P (sym h.empty) base)

pub agreed_after : (w : World) (ms : List Move) → Start w → Agreed (fold act w ms) (settled_in w ms)
agreed_after w ms h = agreed_moves w [] ms (unready w h.unread) (agreed_start w h)

-- the participants' entries and the journal's standing steps
pub standing_kept : (w : World) (ms : List Move) → Start w → Standing w ms
standing_kept w ms h s =
    let v = fold act w ms in
    let gone = settled_in w ms in
    ⊎_elim
    (λ (f : Before s (held v.parties s) (lost_of gone s) (open_saga s v) (settled_steps s v.records)). inl (λ p. (f p).0))
    (λ (f : After s (held v.parties s) (lost_of gone s) (open_saga s v) (settled_steps s v.records)). inr (λ p. (f p).0))
    (either_way (memory_now v s) s (held v.parties s) (lost_of gone s) (open_saga s v) (settled_steps s v.records) (agreed_after w ms h s).fits)
