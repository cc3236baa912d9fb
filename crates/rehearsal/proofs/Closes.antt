-- A saga that is cancelled or finished is open only while its completed advances are fewer than two for each step that stood, and one for each restart since.
-- What counts down: twice the standing steps, less one while an answer is remembered, less one while the journal is not read.
use Rattle.std.proofs.Common.{◌≡◌, ℕ, ◌+◌, ◌-◌, ◌*◌, ◌<◌, ◌≤◌, Bool, true, false, cond, ◌&&◌, eqb, ltb, ◌⊎◌, List, [], ◌∷◌, length, Some, None, Ok, Err, fold, Option, Result, sym, refl, ap, ◌∙◌, subst, inl, inr, ⊎_elim, arith, is_ok, is_some}
use Rattle.std.specs.List.{remove}
use Rattle.std.specs.Option.{option_map}
use Rattle.std.proofs.lemmas.List.{length-take}
use Rattle.std.proofs.lemmas.List.Edits.{length-remove}
use Rattle.std.proofs.lemmas.Option.{slice_get_within}
use Rattle.std.proofs.lemmas.List.Sums.{sum_by-cons}
use Rattle.std.proofs.lemmas.Bool.{both_ways, cond_both, cases_eq, eq-eqb, ne_eqb}
use Rattle.bounded.specs.Firsts.{first}
use Rattle.law.specs.Outcomes.{Outcome}
use Rattle.terms.specs.declared.Entry.{Entry}
use Rattle.bank.specs.Banks.{count_of}
use Rattle.law.specs.declared.event.Aim.{Aim}
use Rattle.law.specs.declared.event.Aim.TheVariants.{Stepping, Retreating, Finishing}
use Rattle.law.specs.declared.event.Step.{Step}
use Rattle.law.specs.declared.event.Event.{Event}
use Rattle.law.specs.declared.event.Event.TheVariants.{Intent, Mark as Marks, Join as Joins, Back as Backs, Finish as Finishes}
use Rattle.law.specs.declared.event.Phase.{Phase}
use Rattle.law.specs.declared.event.Phase.TheVariants.{Running, Pending, Closed}
use Rattle.law.specs.declared.table.View.{View}
use Rattle.law.specs.Keeps.{Sound}
use Rattle.law.proofs.Kept.{keeps_row, readings}
use Rattle.law.specs.Law.{Saga, saga, begun, next, lawful, retreat_by, finishing, is_open}
use Rattle.law.specs.Sagas.{Sagas, of_saga, moves, applied, noted, renoted, owed, reading}
use Rattle.law.specs.Bare.{bare}
use Rattle.law.specs.Views.{view, view_of}
use Rattle.runner.specs.Memories.{Memory}
use Rattle.runner.specs.declared.fault.RunnerFault.{RunnerFault}
use Rattle.runner.specs.declared.fault.RunnerFault.TheVariants.{Unread, NoOpenSaga}
use Rattle.runner.specs.Worlds.{World, full, by_view}
use Rattle.runner.specs.Calls.{asked_answer, event_for, record_by, advance_by, advanced, restart_by}
use Rattle.runner.specs.Mirrors.{Mirrors}
use Rattle.runner.proofs.Mirroring.{Row}
use Rattle.runner.proofs.Calling.{unready, told_lawful, told_same}
use Rattle.runner.specs.declared.progress.Progress.{Progress}
use Rattle.runner.specs.declared.moves.Call.{Call}
use Rattle.runner.specs.declared.moves.Call.TheVariants.{Restart, Advance}
use Rattle.runner.specs.declared.moves.Reach.{Reach}
use Rattle.runner.specs.declared.moves.Reach.TheVariants.{Made, CutBefore, CutAfter}
use Rattle.runner.specs.declared.moves.Move.{Move}
use Rattle.runner.specs.Acts.{called, lost, act_by, act}
use Rattle.rehearsal.specs.Shows.{open_saga, standing_of}
use Rattle.rehearsal.specs.Keeps.{Start, Closing, completes, completed, is_restart, restarts_in}
use Rattle.rehearsal.proofs.Costs.{Bare}
use Rattle.rehearsal.proofs.Looks.{note_other, note_own, re_noted, push_other, first_number, re_noted_open}
use Rattle.rehearsal.proofs.Mirrored.{mirrors_called, mirrors_act, mirrors_moves}
use Rattle.rehearsal.proofs.Rooms.{Plain, Room, row_keeps, room_start, room_moves, room_act}
use Rattle.rehearsal.proofs.Answering.{open_is, open_plain, ended_way}
use Rattle.rehearsal.proofs.Turns.{Turns, turned_by}
use Rattle.rehearsal.proofs.Sounds.{closing, closing_of, stands_in}
use Rattle.rehearsal.proofs.Histories.{Good, reading_good, ended_begun}
use Rattle.rehearsal.proofs.Written.{begins_above, begins_is, table_is, row_now, other_now}
use Rattle.rehearsal.proofs.Standings.{mem_of}

abbrev told : Memory → ℕ
told None = 0
told (Some y) = 1

told_small : (m : Memory) → told m ≤ 1
told_small None = omega arith
told_small (Some y) = omega arith

-- the record that tells of the pending step: one step fewer stands, and the saga stays on its way out
back_closing : (g d : ℕ) (o : Option Step) → eqb d 0 ≡ true → is_open (retreat_by g d o) ≡ true → closing (retreat_by g d o) ≡ true
back_closing g d None z h = grind arith
back_closing g d (Some t) z h = grind arith

end_closing : (l : List Step) → is_open (finishing l) ≡ true → closing (finishing l) ≡ true
end_closing [] h = absurd cc
end_closing (t ∷ l) h = refl

record Fewer (x z : Saga) : Type 0 where
  closes : is_open z.phase ≡ true → closing z.phase ≡ true
  one : length z.standing + 1 ≡ length x.standing

module _ (n k : ℕ) (l : List Step) (ms : List ℕ) (oc : Outcome) where
  abbrev of : Phase → Saga
  of p = saga n p k l ms oc

  told_of : (a : Aim) (t : Step) (y : Outcome) → Sound (of (Pending a t)) → closing (Pending a t) ≡ true → Fewer (of (Pending a t)) (next (of (Pending a t)) (event_for a t y))
  told_of Stepping t y sound c = absurd cc
  told_of (Retreating g d) t y sound c = record { closes = back_closing g d _ c; one = omega (arith, length-take (length l - 1) l, slice_get_within l (length l - 1) t sound.pends.0) }
  told_of Finishing t y sound c = let some = slice_get_within l 0 t sound.pends in record { closes = end_closing (remove l 0); one = omega (arith, some, length-remove l 0 some) }

told_fewer : (x : Saga) (a : Aim) (t : Step) (y : Outcome) → x.phase ≡ Pending a t → Sound x → closing x.phase ≡ true → Fewer x (next x (event_for a t y))
told_fewer x a t y e =
    subst (λ (p : Phase). Sound (saga x.number p x.last x.standing x.marks x.outcome) → closing p ≡ true → Fewer (saga x.number p x.last x.standing x.marks x.outcome) (next (saga x.number p x.last x.standing x.marks x.outcome) (event_for a t y))) (sym e)
    (told_of x.number x.last x.standing x.marks x.outcome a t y)

-- a saga that is closed: its number is begun, and it has no row
abbrev GoneIn : ℕ → Sagas Memory → Type 0
GoneIn s t = (first (of_saga s) t.rows ≡ None) × (s ≤ t.top)

-- the saga, n advances nearer its end than when its row was x
record Nearer (x : Row) (s n : ℕ) (t : Sagas Memory) : Type 0 where
  row : Row
  is : first (of_saga s) t.rows ≡ Some row
  closes : closing row.0.phase ≡ true
  fewer : 2 * length row.0.standing + told x.1 + n ≤ 2 * length x.0.standing + told row.1

abbrev Falls : Row → ℕ → ℕ → Sagas Memory → Type 0
Falls x s n t = GoneIn s t ⊎ Nearer x s n t

weaker : (x : Row) (s : ℕ) (t : Sagas Memory) → Falls x s 1 t → Falls x s 0 t
weaker x s t (inl g) = inl g
weaker x s t (inr h) = let few = h.fewer in inr (record { row = h.row; is = h.is; closes = h.closes; fewer = omega (arith, few) })

-- a world that is read, with a saga on its way out
module _ (w : World) (ready : w.ready ≡ true) (m : Mirrors w) (good : Good w.records (bare w.table)) (s : ℕ) (x : Row) (f : first (of_saga s) w.table.rows ≡ Some x) (c : closing x.0.phase ≡ true) where
  begun_already : s ≤ w.table.top
  begun_already = omega (arith, first_number s w.table.rows x f, (row_keeps w.table good.keeps s x f).0)

  rests : (t : Sagas Memory) → first (of_saga s) t.rows ≡ Some x → Falls x s 0 t
  rests t e = inr (record { row = x; is = e; closes = c; fewer = omega arith })

  same_row : (r : ℕ) (z : Row) → first (of_saga r) w.table.rows ≡ Some z → r ≡ s → z ≡ x
  same_row r z g e = let g' : first (of_saga s) w.table.rows ≡ Some z = subst (λ (k : ℕ). first (of_saga k) w.table.rows ≡ Some z) e g in cc

  not_running : (r : ℕ) (z : Row) → first (of_saga r) w.table.rows ≡ Some z → z.0.phase ≡ Running → r ≡ s → ⊥
  not_running r z g run e = let same = same_row r z g e in absurd (both_ways _ (ap closing run) (ap (λ (u : Row). closing u.0.phase) same ∙ c))

  -- a record of another saga
  wrote_other : (r : ℕ) (e : Event) (z : Row) (g : first (of_saga r) w.table.rows ≡ Some z) → applied (count_of w.parties) r e None w.table ≡ moves (count_of w.parties) r e w.table → lawful (count_of w.parties) z.0 e ≡ true → (r ≡ s → ⊥) → first (of_saga s) (applied (count_of w.parties) r e None w.table).1.rows ≡ Some x
  wrote_other r e z g same law d = other_now w good r e z g None same law s d ∙ f

  noted_row : (r : ℕ) (v : Memory) (rows : List Row) → (r ≡ s → ⊥) → first (of_saga s) rows ≡ Some x → first (of_saga s) (renoted r v rows) ≡ Some x
  noted_row r v rows d e = note_other r s d v rows ∙ e

  -- the call for its pending step
  asked_own : (v : Memory) → x.1 ≡ None → told (v) ≡ 1 → Falls x s 1 (noted s v w.table)
  asked_own v blank is-told =
      let none = ap told blank in
      inr (record { row = (x.0, v); is = note_own s v w.table.rows ∙ ap (re_noted v) f; closes = c; fewer = omega (arith, none, is-told) })

  -- and its record
  told_own : (v : Memory) (a : Aim) (t : Step) (y : Outcome) → x.0.phase ≡ Pending a t → x.1 ≡ Some y → v ≡ None → Falls x s 1 (noted s v (applied (count_of w.parties) s (event_for a t y) None w.table).1)
  told_own v a t y ph mem blank = go (is_open (next x.0 (event_for a t y)).phase) refl
    where
      law : lawful (count_of w.parties) x.0 (event_for a t y) ≡ true
      law = told_lawful (count_of w.parties) x.0 a t y ph

      same : applied (count_of w.parties) s (event_for a t y) None w.table ≡ moves (count_of w.parties) s (event_for a t y) w.table
      same = told_same (count_of w.parties) s a t y None w.table

      now : (b : Bool) → is_open (next x.0 (event_for a t y)).phase ≡ b → first (of_saga s) (renoted s v (applied (count_of w.parties) s (event_for a t y) None w.table).1.rows) ≡ cond b (Some (next x.0 (event_for a t y), v)) None
      now b e =
          note_own s v (applied (count_of w.parties) s (event_for a t y) None w.table).1.rows
          ∙ ap (re_noted v) (row_now w good s (event_for a t y) x f None same law ∙ ap (λ (o : Bool). cond o (Some (next x.0 (event_for a t y), x.1)) None) e)
          ∙ re_noted_open b (next x.0 (event_for a t y)) x.1 v

      less : Fewer x.0 (next x.0 (event_for a t y))
      less = told_fewer x.0 a t y ph (row_keeps w.table good.keeps s x f).1 c

      go : (b : Bool) → is_open (next x.0 (event_for a t y)).phase ≡ b → Falls x s 1 (noted s v (applied (count_of w.parties) s (event_for a t y) None w.table).1)
      go true e =
          let one = less.one in
          let was = ap told mem in
          let is-now = ap told blank in
          inr (record { row = (next x.0 (event_for a t y), v); is = now true e; closes = less.closes e; fewer = omega (arith, one, was, is-now) })
      go false e = inl (now false e, subst (λ (q : Sagas Memory). s ≤ q.top) (sym (table_is w good s (event_for a t y) x f None same law)) begun_already)

  -- a call that is made leaves it as near its end or nearer
  abbrev Leaves : World → List (ℕ × Entry) → Type 0
  Leaves v _ = (v.ready ≡ true) × Falls x s 0 v.table

  turns : Turns w Leaves
  turns = record {
    writes = record {
      same = (ready, rests w.table f);
      began = λ r e may l.
          let above = begins_above r w.table may in
          let low = begun_already in
          let d : r ≡ s → ⊥ = λ q. omega (arith, q, above, low) in
          (ready, rests _ (ap (λ (t : Sagas Memory). first (of_saga s) t.rows) (begins_is r w.table may) ∙ push_other r s d (begun r, None) refl w.table.rows ∙ f));
      stepped = λ r t z g run law l. (ready, rests _ (wrote_other r (Intent t) z g.1 refl law (not_running r z g.1 run)));
      marked = λ r z g run law l. (ready, rests _ (wrote_other r Marks z g.1 refl law (not_running r z g.1 run)));
      joined = λ r z g run law l. (ready, rests _ (wrote_other r Joins z g.1 refl law (not_running r z g.1 run)));
      backed = λ r d z g run law l. (ready, rests _ (wrote_other r (Backs d) z g.1 refl law (not_running r z g.1 run)));
      finished = λ r z g run law. (ready, rests _ (wrote_other r Finishes z g.1 refl law (not_running r z g.1 run)));
      cancelled = λ r z g run law. (ready, rests _ (wrote_other r (Backs 0) z g.1 refl law (not_running r z g.1 run)));
    };
    asked = λ r a t z g ph mem. (
      ready,
      ⊎_elim
          (λ (e : r ≡ s).
          let blank : x.1 ≡ None = ap (λ (q : Row). q.1) (sym (same_row r z g.1 e)) ∙ mem in
          subst (λ (k : ℕ). Falls x s 0 (noted k (Some (asked_answer a w.parties r t)) w.table)) (sym e) (weaker x s _ (asked_own (Some (asked_answer a w.parties r t)) blank refl)))
          (λ (d : r ≡ s → ⊥). rests _ (noted_row r (Some (asked_answer a w.parties r t)) w.table.rows d f))
          (cases_eq r s),
    );
    told = λ r a t y z g ph mem. (
      ready,
      ⊎_elim
          (λ (e : r ≡ s).
          let is = same_row r z g.1 e in
          let ph' : x.0.phase ≡ Pending a t = ap (λ (q : Row). q.0.phase) (sym is) ∙ ph in
          let mem' : x.1 ≡ Some y = ap (λ (q : Row). q.1) (sym is) ∙ mem in
          subst (λ (k : ℕ). Falls x s 0 (noted k None (applied (count_of w.parties) k (event_for a t y) None w.table).1)) (sym e) (weaker x s _ (told_own None a t y ph' mem' refl)))
          (λ (d : r ≡ s → ⊥). rests _ (noted_row r None _ d (wrote_other r (event_for a t y) z g.1 (told_same (count_of w.parties) r a t y None w.table) (told_lawful (count_of w.parties) z.0 a t y ph) d)))
          (cases_eq r s),
    );
  }

  -- an advance of its own that answers brings it one nearer
  abbrev Advances : Result Progress RunnerFault × World → Type 0
  Advances y = (y.1.ready ≡ true) × Falls x s (cond (is_ok y.0) 1 0) y.1.table

  advances_by : (p : Phase) (k : Memory) → x.0.phase ≡ p → x.1 ≡ k → Advances (advance_by s w p k)
  advances_by Running k e q = (ready, rests w.table f)
  advances_by Closed k e q = (ready, rests w.table f)
  advances_by (Pending a t) None e q = (ready, asked_own (Some (asked_answer a w.parties s t)) q refl)
  advances_by (Pending a t) (Some y) e q =
      cond_both (full w) _ _ (λ (z : Result Unit RunnerFault × World). Advances (record_by s z)) (λ _. (ready, rests w.table f)) (λ _. (ready, told_own None a t y e q refl))

  advances : Advances (advanced s w)
  advances =
      let go = λ (seen : View Memory). advance_by s w seen.phase seen.note in
      let is : advanced s w ≡ advance_by s w x.0.phase x.1 =
      ap (λ (b : Bool). cond {A = Result Progress RunnerFault × World} b (by_view (view s w.table) (Err NoOpenSaga, w) go) (Err Unread, w)) ready
      ∙ ap (λ (o : Option Row). by_view (option_map view_of o) (Err NoOpenSaga, w) go) f in
      subst Advances (sym is) (advances_by x.0.phase x.1 refl refl)

-- a closed saga does not open again
module _ (w : World) (ready : w.ready ≡ true) (m : Mirrors w) (good : Good w.records (bare w.table)) (s : ℕ) (gone : GoneIn s w.table) where
  apart : (r : ℕ) (z : Row) → first (of_saga r) w.table.rows ≡ Some z → r ≡ s → ⊥
  apart r z g e = let g' : first (of_saga s) w.table.rows ≡ Some z = subst (λ (k : ℕ). first (of_saga k) w.table.rows ≡ Some z) e g in let no' = gone.0 in absurd cc

  wrote_gone : (r : ℕ) (e : Event) (z : Row) (g : first (of_saga r) w.table.rows ≡ Some z) → applied (count_of w.parties) r e None w.table ≡ moves (count_of w.parties) r e w.table → lawful (count_of w.parties) z.0 e ≡ true → GoneIn s (applied (count_of w.parties) r e None w.table).1
  wrote_gone r e z g same law = (other_now w good r e z g None same law s (apart r z g) ∙ gone.0, subst (λ (q : Sagas Memory). s ≤ q.top) (sym (table_is w good r e z g None same law)) gone.1)

  noted_gone : (r : ℕ) (v : Memory) (t : Sagas Memory) → (r ≡ s → ⊥) → GoneIn s t → GoneIn s (noted r v t)
  noted_gone r v t d h = (note_other r s d v t.rows ∙ h.0, h.1)

  abbrev StaysGone : World → List (ℕ × Entry) → Type 0
  StaysGone v _ = (v.ready ≡ true) × GoneIn s v.table

  gone_turns : Turns w StaysGone
  gone_turns = record {
    writes = record {
      same = (ready, gone);
      began = λ r e may l.
          let above = begins_above r w.table may in
          let low = gone.1 in
          let d : r ≡ s → ⊥ = λ q. omega (arith, q, above, low) in
          (ready, subst (GoneIn s) (sym (begins_is r w.table may)) (push_other r s d (begun r, None) refl w.table.rows ∙ gone.0, omega (arith, above, low)));
      stepped = λ r t z g run law l. (ready, wrote_gone r (Intent t) z g.1 refl law);
      marked = λ r z g run law l. (ready, wrote_gone r Marks z g.1 refl law);
      joined = λ r z g run law l. (ready, wrote_gone r Joins z g.1 refl law);
      backed = λ r d z g run law l. (ready, wrote_gone r (Backs d) z g.1 refl law);
      finished = λ r z g run law. (ready, wrote_gone r Finishes z g.1 refl law);
      cancelled = λ r z g run law. (ready, wrote_gone r (Backs 0) z g.1 refl law);
    };
    asked = λ r a t z g ph mem. (ready, noted_gone r _ w.table (apart r z g.1) gone);
    told = λ r a t y z g ph mem.
        (ready, noted_gone r None _ (apart r z g.1) (wrote_gone r (event_for a t y) z g.1 (told_same (count_of w.parties) r a t y None w.table) (told_lawful (count_of w.parties) z.0 a t y ph)));
  }

-- a runner that has read nothing does nothing but restart
idle_turns : (w : World) → w.ready ≡ false → Turns w (λ (v : World) (_ : List (ℕ × Entry)). v ≡ w)
idle_turns w off =
    record {
      writes = record {
        same = refl;
        began = λ s e may l. absurd (both_ways w.ready off e);
        stepped = λ s t x f run law l. absurd (both_ways w.ready off f.0);
        marked = λ s x f run law l. absurd (both_ways w.ready off f.0);
        joined = λ s x f run law l. absurd (both_ways w.ready off f.0);
        backed = λ s d x f run law l. absurd (both_ways w.ready off f.0);
        finished = λ s x f run law. absurd (both_ways w.ready off f.0);
        cancelled = λ s x f run law. absurd (both_ways w.ready off f.0);
      };
      asked = λ s a t x f ph mem. absurd (both_ways w.ready off f.0);
      told = λ s a t y x f ph mem. absurd (both_ways w.ready off f.0);
    }

-- of the world: whatever the runner has read, by the law's reading of the journal
abbrev slack : World → ℕ → ℕ
slack w s = cond w.ready (told (mem_of (first (of_saga s) w.table.rows))) 1

slack_small : (w : World) (s : ℕ) → slack w s ≤ 1
slack_small w s = cond_both w.ready _ _ (λ (k : ℕ). k ≤ 1) (λ _. told_small (mem_of (first (of_saga s) w.table.rows))) (λ _. omega arith)

abbrev size : World → ℕ → ℕ
size w s = 2 * length (standing_of (open_saga s w))

abbrev top_in : Result Plain ℕ → ℕ
top_in (Ok t) = t.top
top_in (Err i) = 0

abbrev top_of : World → ℕ
top_of w = top_in (reading (count_of w.parties) tt w.records)

abbrev Over : ℕ → World → Type 0
Over s v = (open_saga s v ≡ None) × (s ≤ top_of v)

-- from w to v: n advances completed, b restarts made
record Nears (w v : World) (s n b : ℕ) : Type 0 where
  closes : closing_of (open_saga s v) ≡ true
  fewer : size v s + slack w s + n ≤ size w s + slack v s + b

abbrev Further : World → World → ℕ → ℕ → ℕ → Type 0
Further w v s n b = Over s v ⊎ Nears w v s n b

closing_row : (s : ℕ) (rows : List Row) (o : Option Row) → first (of_saga s) rows ≡ o → closing_of (option_map (λ (x : Row). x.0) o) ≡ true → (x : Row) × (first (of_saga s) rows ≡ Some x) × (closing x.0.phase ≡ true)
closing_row s rows None f h = absurd cc
closing_row s rows (Some x) f h = (x, f, h)

gone_row : (o : Option Row) → ◌≡◌ {A = Option Saga} (option_map (λ (x : Row). x.0) o) None → o ≡ None
gone_row None h = refl
gone_row (Some x) h = absurd cc

good_of : (w : World) → Mirrors w → w.ready ≡ true → Good w.records (bare w.table)
good_of w m e = reading_good (count_of w.parties) w.records (bare w.table) (m e)

over_from : (v : World) (s : ℕ) → Mirrors v → v.ready ≡ true → GoneIn s v.table → Over s v
over_from v s m e g = (open_is v s m e ∙ ap (option_map (λ (x : Row). x.0)) g.0, subst (λ (r : Result Plain ℕ). s ≤ top_in r) (sym (m e)) g.1)

gone_from : (v : World) (s : ℕ) → Mirrors v → v.ready ≡ true → Over s v → GoneIn s v.table
gone_from v s m e o = (gone_row (first (of_saga s) v.table.rows) (sym (open_is v s m e) ∙ o.0), subst (λ (r : Result Plain ℕ). s ≤ top_in r) (m e) o.1)

module _ (v : World) (s : ℕ) (m : Mirrors v) (e : v.ready ≡ true) (x : Row) (f : first (of_saga s) v.table.rows ≡ Some x) where
  open_row : open_saga s v ≡ Some x.0
  open_row = open_is v s m e ∙ ap (option_map (λ (z : Row). z.0)) f

  size_row : size v s ≡ 2 * length x.0.standing
  size_row = ap (λ (o : Option Saga). 2 * length (standing_of o)) open_row

  slack_row : slack v s ≡ told x.1
  slack_row = ap (λ (b : Bool). cond b (told (mem_of (first (of_saga s) v.table.rows))) 1) e ∙ ap (λ (o : Option Row). told (mem_of o)) f

further_from : (w v : World) (s n : ℕ) (x : Row) → Mirrors w → w.ready ≡ true → first (of_saga s) w.table.rows ≡ Some x → Mirrors v → v.ready ≡ true → Falls x s n v.table → Further w v s n 0
further_from w v s n x m e f m' e' (inl g) = inl (over_from v s m' e' g)
further_from w v s n x m e f m' e' (inr h) =
    let a = size_row w s m e x f in
    let b = slack_row w s m e x f in
    let a' = size_row v s m' e' h.row h.is in
    let b' = slack_row v s m' e' h.row h.is in
    let few = h.fewer in
    inr (record { closes = ap closing_of (open_row v s m' e' h.row h.is) ∙ h.closes; fewer = omega (arith, a, b, a', b', few) })

restart_or : (k : Call) → (k ≡ Restart) ⊎ (k ≡ Restart → ⊥)
restart_or Restart = inl refl
restart_or k = inr (λ q. absurd cc)

module _ (w : World) (m : Mirrors w) (s : ℕ) (c : closing_of (open_saga s w) ≡ true) where
  found : w.ready ≡ true → (x : Row) × (first (of_saga s) w.table.rows ≡ Some x) × (closing x.0.phase ≡ true)
  found e = closing_row s w.table.rows (first (of_saga s) w.table.rows) refl (sym (ap closing_of (open_is w s m e)) ∙ c)

  -- any call but a restart
  call_nears : (k : Call) → (k ≡ Restart → ⊥) → Further w (called w k) s 0 0
  call_nears k d = go w.ready refl
    where
      go : (b : Bool) → w.ready ≡ b → Further w (called w k) s 0 0
      go true e =
          let x = found e in
          let y = turned_by w (Leaves w e m (good_of w m e) s x.0 x.1 x.2) (turns w e m (good_of w m e) s x.0 x.1 x.2) k (λ q. absurd (d q)) in
          further_from w (called w k) s 0 x.0 m e x.1 (mirrors_called w k m) y.0 y.1
      go false e =
          let is : called w k ≡ w = turned_by w (λ (v : World) (_ : List (ℕ × Entry)). v ≡ w) (idle_turns w e) k (λ q. absurd (d q)) in
          subst (λ (v : World). Further w v s 0 0) (sym is) (inr (record { closes = c; fewer = omega arith }))

  -- an advance of its own
  own_nears : Further w (advanced s w).1 s (cond (is_ok (advanced s w).0) 1 0) 0
  own_nears = go w.ready refl
    where
      go : (b : Bool) → w.ready ≡ b → Further w (advanced s w).1 s (cond (is_ok (advanced s w).0) 1 0) 0
      go true e =
          let x = found e in
          let y = advances w e m (good_of w m e) s x.0 x.1 x.2 in
          further_from w (advanced s w).1 s (cond (is_ok (advanced s w).0) 1 0) x.0 m e x.1 (mirrors_called w (Advance s) m) y.0 y.1
      go false e =
          let go' = λ (seen : View Memory). advance_by s w seen.phase seen.note in
          let is : advanced s w ≡ (Err Unread, w) = ap (λ (b : Bool). cond {A = Result Progress RunnerFault × World} b (by_view (view s w.table) (Err NoOpenSaga, w) go') (Err Unread, w)) e in
          subst (λ (y : Result Progress RunnerFault × World). Further w y.1 s (cond (is_ok y.0) 1 0) 0) (sym is) (inr (record { closes = c; fewer = omega arith }))

  advance_nears : (n : ℕ) → Further w (advanced n w).1 s (completes s w (Advance n) Made) 0
  advance_nears n = ⊎_elim
      (λ (e : s ≡ n).
      let count : completes s w (Advance s) Made ≡ cond (is_ok (advanced s w).0) 1 0 = ap (λ (b : Bool). cond (b && is_ok (advanced s w).0) 1 0) (eq-eqb s s refl) in
      subst (λ (k : ℕ). Further w (advanced k w).1 s (completes s w (Advance k) Made) 0) e (subst (λ (k : ℕ). Further w (advanced s w).1 s k 0) (sym count) own_nears))
      (λ (d : s ≡ n → ⊥).
      let count : completes s w (Advance n) Made ≡ 0 = ap (λ (b : Bool). cond (b && is_ok (advanced n w).0) 1 0) (ne_eqb n s (λ q. d (sym q))) in
      subst (λ (k : ℕ). Further w (advanced n w).1 s k 0) (sym count) (call_nears (Advance n) (λ q. absurd cc)))
      (cases_eq s n)

  restart_nears : (y : Result (Sagas Memory) ℕ) → Further w (restart_by w y).1 s 0 1
  restart_nears (Err i) = let k = slack_small w s in inr (record { closes = c; fewer = omega (arith, k) })
  restart_nears (Ok t) = let k = slack_small w s in cond_both (ltb (w.capacity - length w.records) (owed t)) _ _ (λ (z : Result ℕ RunnerFault × World). Further w z.1 s 0 1) (λ _. inr (record { closes = c; fewer = omega (arith, k) })) (λ _. inr (record { closes = c; fewer = omega (arith, k) }))

  made_nears : (k : Call) → Further w (called w k) s (completes s w k Made) (cond (is_restart k Made) 1 0)
  made_nears Restart = restart_nears (reading (count_of w.parties) None w.records)
  made_nears (Advance n) = advance_nears n
  made_nears k = call_nears k (λ q. absurd cc)

  -- a call that is cut
  lost_nears : (v : World) → Further w v s 0 0 → Further w (lost v) s 0 0
  lost_nears v (inl o) = inl o
  lost_nears v (inr h) = let few = h.fewer in let k = slack_small v s in inr (record { closes = h.closes; fewer = omega (arith, few, k) })

  lost_restart : (y : Result (Sagas Memory) ℕ) → Further w (lost (restart_by w y).1) s 0 0
  lost_restart (Err i) = let k = slack_small w s in inr (record { closes = c; fewer = omega (arith, k) })
  lost_restart (Ok t) = let k = slack_small w s in cond_both (ltb (w.capacity - length w.records) (owed t)) _ _ (λ (z : Result ℕ RunnerFault × World). Further w (lost z.1) s 0 0) (λ _. inr (record { closes = c; fewer = omega (arith, k) })) (λ _. inr (record { closes = c; fewer = omega (arith, k) }))

  cut_nears : (k : Call) → Further w (lost (called w k)) s 0 0
  cut_nears k = ⊎_elim
      (λ (e : k ≡ Restart). subst (λ (q : Call). Further w (lost (called w q)) s 0 0) (sym e) (lost_restart (reading (count_of w.parties) None w.records)))
      (λ (d : k ≡ Restart → ⊥). lost_nears (called w k) (call_nears k d))
      (restart_or k)

  act_nears : (k : Call) (r : Reach) → Further w (act_by w k r) s (completes s w k r) (cond (is_restart k r) 1 0)
  act_nears k Made = made_nears k
  act_nears k CutBefore = let k = slack_small w s in inr (record { closes = c; fewer = omega (arith, k) })
  act_nears k CutAfter = cut_nears k

-- and a closed saga stays closed
over_restart : (w : World) (s : ℕ) → Over s w → (y : Result (Sagas Memory) ℕ) → Over s (restart_by w y).1
over_restart w s o (Err i) = o
over_restart w s o (Ok t) = cond_both (ltb (w.capacity - length w.records) (owed t)) _ _ (λ (z : Result ℕ RunnerFault × World). Over s z.1) (λ _. o) (λ _. o)

over_called : (w : World) (s : ℕ) (k : Call) → Mirrors w → Over s w → Over s (called w k)
over_called w s k m o = ⊎_elim
    (λ (e : k ≡ Restart). subst (λ (q : Call). Over s (called w q)) (sym e) (over_restart w s o (reading (count_of w.parties) None w.records)))
    (λ (d : k ≡ Restart → ⊥). go d w.ready refl)
    (restart_or k)
  where
    go : (k ≡ Restart → ⊥) → (b : Bool) → w.ready ≡ b → Over s (called w k)
    go d true e =
        let g = gone_from w s m e o in
        let y = turned_by w (StaysGone w e m (good_of w m e) s g) (gone_turns w e m (good_of w m e) s g) k (λ q. absurd (d q)) in
        over_from (called w k) s (mirrors_called w k m) y.0 y.1
    go d false e =
        let is : called w k ≡ w = turned_by w (λ (v : World) (_ : List (ℕ × Entry)). v ≡ w) (idle_turns w e) k (λ q. absurd (d q)) in
        subst (Over s) (sym is) o

over_act : (w : World) (s : ℕ) (k : Call) (r : Reach) → Mirrors w → Over s w → Over s (act_by w k r)
over_act w s k Made m o = over_called w s k m o
over_act w s k CutBefore m o = o
over_act w s k CutAfter m o = over_called w s k m o

over_moves : (w : World) (s : ℕ) (ms : List Move) → Mirrors w → Over s w → open_saga s (fold act w ms) ≡ None
over_moves w s [] m o = o.0
over_moves w s (c ∷ ms) m o = over_moves (act w c) s ms (mirrors_act w c.call c.reach m) (over_act w s c.call c.reach m o)

some_stand : (w : World) (s : ℕ) → Room w → closing_of (open_saga s w) ≡ true → 1 ≤ length (standing_of (open_saga s w))
some_stand w s r c =
    let is = open_plain w s r in
    subst (λ (o : Option Saga). 1 ≤ length (standing_of o)) (sym is) (go (first (of_saga s) r.table.rows) refl (sym (ap closing_of is) ∙ c))
  where
    go : (o : Option Bare) → first (of_saga s) r.table.rows ≡ o → closing_of (option_map (λ (x : Bare). x.0) o) ≡ true → 1 ≤ length (standing_of (option_map (λ (x : Bare). x.0) o))
    go None f k = absurd cc
    go (Some x) f k = stands_in x.0.phase x.0.last x.0.standing (keeps_row s r.table x (readings.keeps (count_of w.parties) tt w.records r.table r.reads) f).1.pends k

bounded : (w : World) (s : ℕ) (ms : List Move) → Room w → Mirrors w → closing_of (open_saga s w) ≡ true → is_some (open_saga s (fold act w ms)) ≡ true → completed s w ms + slack w s < size w s + restarts_in ms
bounded w s [] r m c o = let some = some_stand w s r c in let k = slack_small w s in omega (arith, some, k)
bounded w s (d ∷ ms) r m c o =
    go (act_nears w m s c d.call d.reach) (bounded (act w d) s ms (room_act w d.call d.reach r m) (mirrors_act w d.call d.reach m))
  where
    go : Further w (act w d) s (completes s w d.call d.reach) (cond (is_restart d.call d.reach) 1 0) → (closing_of (open_saga s (act w d)) ≡ true → is_some (open_saga s (fold act (act w d) ms)) ≡ true → completed s (act w d) ms + slack (act w d) s < size (act w d) s + restarts_in ms) → completed s w (d ∷ ms) + slack w s < size w s + restarts_in (d ∷ ms)
    go (inl over) ih = absurd (both_ways _ (ap is_some (over_moves (act w d) s ms (mirrors_act w d.call d.reach m) over)) o)
    go (inr h) ih =
        let rest = ih h.closes o in
        let few = h.fewer in
        let count = sum_by-cons (λ (k : Move). cond (is_restart k.call k.reach) 1 0) d ms in
        omega (arith, rest, few, count)

pub closing_kept : (w : World) (ms : List Move) → Start w → Closing w ms
closing_kept w ms h s front rest e out o =
    let m = unready w h.unread in
    let v = fold act w front in
    let r = room_moves w front (room_start w h) m in
    let m' = mirrors_moves w front m in
    ⊎_elim
    (λ (shut : open_saga s v ≡ None).
    let over : Over s v = (shut, subst (λ (t : Result Plain ℕ). s ≤ top_in t) (sym r.reads) (ended_begun (count_of v.parties) v.records r.table r.reads s out)) in
    absurd (both_ways _ (ap is_some (over_moves v s rest m' over)) o))
    (λ (c : closing_of (open_saga s v) ≡ true). let k = bounded v s rest r m' c o in omega (arith, k))
    (ended_way v s r out)
