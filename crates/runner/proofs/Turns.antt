-- What one call that asks no participant can do to a world that is read: nothing, or a record that the law allows.
use Rattle.std.proofs.Common.{◌≡◌, ℕ, ◌+◌, ◌<◌, ◌≤◌, true, false, ◌&&◌, eqb, ltb, leb, length, Some, None, Ok, Err, Option, Result, refl, ap, ◌∙◌, arith}
use Rattle.std.proofs.lemmas.Bool.{cond_both, eq-eqb, lt-ltb, le-leb, leb-false, ltb-false, eqb-true, eqb-false}
use Rattle.bounded.specs.Firsts.{first}
use Rattle.terms.specs.declared.Request.{Request}
use Rattle.bank.specs.Banks.{count_of}
use Rattle.law.specs.declared.event.Step.{Step}
use Rattle.law.specs.declared.event.Event.{Event}
use Rattle.law.specs.declared.event.Event.TheVariants.{Begin, Intent, Mark, Join, Back, Finish}
use Rattle.law.specs.declared.event.Phase.TheVariants.{Running}
use Rattle.law.specs.declared.table.View.{View}
use Rattle.law.specs.Law.{lawful, in_bank}
use Rattle.law.specs.Sagas.{of_saga, may_begin}
use Rattle.law.specs.Views.{view, view_of}
use Rattle.runner.specs.Memories.{Memory}
use Rattle.runner.specs.declared.fault.RunnerFault.{RunnerFault}
use Rattle.runner.specs.declared.fault.RunnerFault.TheVariants.{NoOpenSaga, WrongPhase}
use Rattle.runner.specs.declared.ticket.Ticket.{Ticket}
use Rattle.runner.specs.declared.declined.Declined.{Declined}
use Rattle.runner.specs.declared.ticket.Numbers.{Numbers}
use Rattle.runner.specs.declared.declined.Declined.TheVariants.{Spent}
use Rattle.runner.specs.Worlds.{World, lacks, full, recorded, written, on_open, on_saga, on_running, by_view, if_running}
use Rattle.runner.specs.Calls.{begin_by, step_by, step_of, issued, end_by, issue_in, mark_in, join_in, back_in, finish_in, cancel_in, opened, stepped, marked, joined, backed, finished, cancelled}
use Rattle.runner.proofs.Mirroring.{Row, seen_row, running_keeps, runs}

abbrev pub Sees : World → ℕ → Row → Type 0
Sees w s x = (w.ready ≡ true) × (first (of_saga s) w.table.rows ≡ Some x)

-- what holds of the world after a call that asks no participant
pub record Writes (w : World) (P : World → Type 0) : Type 0 where
  pub same : P w
  pub began : (s : ℕ) → w.ready ≡ true → may_begin s w.table ≡ true → lacks 2 w ≡ false → P (recorded s Begin w)
  pub stepped : (s : ℕ) (t : Step) (x : Row) → Sees w s x → x.0.phase ≡ Running → lawful (count_of w.parties) x.0 (Intent t) ≡ true → lacks 3 w ≡ false → P (recorded s (Intent t) w)
  pub marked : (s : ℕ) (x : Row) → Sees w s x → x.0.phase ≡ Running → lawful (count_of w.parties) x.0 Mark ≡ true → lacks 1 w ≡ false → P (recorded s Mark w)
  pub joined : (s : ℕ) (x : Row) → Sees w s x → x.0.phase ≡ Running → lawful (count_of w.parties) x.0 Join ≡ true → lacks 1 w ≡ false → P (recorded s Join w)
  pub backed : (s d : ℕ) (x : Row) → Sees w s x → x.0.phase ≡ Running → lawful (count_of w.parties) x.0 (Back d) ≡ true → lacks 1 w ≡ false → P (recorded s (Back d) w)
  pub finished : (s : ℕ) (x : Row) → Sees w s x → x.0.phase ≡ Running → lawful (count_of w.parties) x.0 Finish ≡ true → P (recorded s Finish w)
  pub cancelled : (s : ℕ) (x : Row) → Sees w s x → x.0.phase ≡ Running → lawful (count_of w.parties) x.0 (Back 0) ≡ true → P (recorded s (Back 0) w)

-- what is seen of a row
pub phase_seen : (x : Row) (seen : View Memory) → view_of x ≡ seen → x.0.phase ≡ seen.phase
phase_seen x seen v = ap (λ (u : View Memory). u.phase) v

marks_seen : (x : Row) (seen : View Memory) → view_of x ≡ seen → length x.0.marks ≡ seen.marks
marks_seen x seen v = ap (λ (u : View Memory). u.marks) v

last_seen : (x : Row) (seen : View Memory) → view_of x ≡ seen → x.0.last ≡ seen.last
last_seen x seen v = ap (λ (u : View Memory). u.last) v

-- of an answer and a world, what holds of the world
pub record In (P : World → Type 0) {A : Type 0} (y : A × World) : Type 0 where
  pub holds : P y.1

module _ (w : World) (P : World → Type 0) (h : Writes w P) where
  stay : {A : Type 0} (r : A) → In P (r, w)
  stay r = record { holds = h.same }

  -- what the end of a call does with the world that the write left
  kept_keep : (s : ℕ) (e : Event) → P (recorded s e w) → In P (written s e w)
  kept_keep s e p = cond_both (full w) _ _ (λ (y : Result Unit RunnerFault × World). In P y) (λ _. stay _) (λ _. record { holds = p })

  kept_begin : (k s : ℕ) (e : Event) → P (recorded s e w) → In P (begin_by s k (written s e w))
  kept_begin k s e p = cond_both (full w) _ _ (λ (y : Result Unit RunnerFault × World). In P (begin_by s k y)) (λ _. stay _) (λ _. record { holds = p })

  kept_step : (t : Ticket) (y : Result Unit RunnerFault × World) → In P y → In P (step_by t y)
  kept_step t (Ok x, v) i = record { holds = i.holds }
  kept_step t (Err e, v) i = record { holds = i.holds }

  kept_end : (t : Ticket) (s : ℕ) (e : Event) → P (recorded s e w) → In P (end_by t (written s e w))
  kept_end t s e p = cond_both (full w) _ _ (λ (y : Result Unit RunnerFault × World). In P (end_by t y)) (λ _. stay _) (λ _. record { holds = p })

  module _ {A : Type 0} (refuse : RunnerFault → A) (s : ℕ) (go : View Memory → A × World) where
    -- the checks that a call begins with
    seen_turns : w.ready ≡ true → ((x : Row) (seen : View Memory) → Sees w s x → view_of x ≡ seen → In P (go seen)) → (o : Option (View Memory)) → view s w.table ≡ o → In P (by_view o (refuse NoOpenSaga, w) go)
    seen_turns r good None e = stay _
    seen_turns r good (Some seen) e = let x = seen_row (first (of_saga s) w.table.rows) seen e in good x.0 seen (r, x.1) x.2

    pub on_saga_turns : ((x : Row) (seen : View Memory) → Sees w s x → view_of x ≡ seen → In P (go seen)) → In P (on_saga w s (λ f. (refuse f, w)) go)
    on_saga_turns good = cond_both w.ready _ _ (λ (y : A × World). In P y) (λ r. seen_turns r good (view s w.table) refl) (λ _. stay _)

    on_open_turns : (k : ℕ) → ((x : Row) (seen : View Memory) → Sees w s x → view_of x ≡ seen → In P (go seen)) → In P (on_open w s k (λ f. (refuse f, w)) go)
    on_open_turns k good = cond_both w.ready _ _ (λ (y : A × World). In P y) (λ r. cond_both (eqb k w.restarts) _ _ (λ (y : A × World). In P y) (λ _. seen_turns r good (view s w.table) refl) (λ _. stay _)) (λ _. stay _)

  run_turns : {A : Type 0} (refuse : RunnerFault → A) (s k : ℕ) (go : View Memory → A × World) → ((x : Row) (seen : View Memory) → Sees w s x → view_of x ≡ seen → x.0.phase ≡ Running → In P (go seen)) → In P (on_running w s k (λ f. (refuse f, w)) go)
  run_turns {A} refuse s k go good = on_open_turns refuse s (λ seen. if_running seen.phase (go seen) (refuse WrongPhase, w)) k (λ x seen f v. running_keeps (λ (y : A × World). In P y) seen.phase (go seen) (refuse WrongPhase, w) (λ run. good x seen f v (phase_seen x seen v ∙ run)) (stay _))

  pub begins : (s : ℕ) → In P (opened s w)
  begins s =
      let Q : Result Ticket RunnerFault × World → Type 0 = λ y. In P y in
      cond_both w.ready _ _ Q (λ r.
      cond_both (eqb s 0) _ _ Q (λ _. stay _) (λ _.
      cond_both (ltb 1000000 s) _ _ Q (λ _. stay _) (λ small.
      cond_both (leb s w.table.top) _ _ Q (λ _. stay _) (λ above.
      cond_both (leb 8 (length w.table.rows)) _ _ Q (λ _. stay _) (λ few.
      cond_both (lacks 2 w) _ _ Q (λ _. stay _) (λ room.
      kept_begin w.restarts s Begin (h.began s r (may above small few) room))))))) (λ _. stay _)
    where
      may : leb s w.table.top ≡ false → ltb 1000000 s ≡ false → leb 8 (length w.table.rows) ≡ false → may_begin s w.table ≡ true
      may above small few = rw (lt-ltb w.table.top s (leb-false s w.table.top above), le-leb s 1000000 (ltb-false 1000000 s small), lt-ltb (length w.table.rows) 8 (leb-false 8 (length w.table.rows) few)) refl

  pub marks : (t : Ticket) → In P (marked t w)
  marks t =
      let Q : Result Unit RunnerFault × World → Type 0 = λ y. In P y in
      run_turns (λ f. Err f) t.numbers.saga t.numbers.restart (mark_in t w) (λ x seen f v run.
      cond_both (leb 8 seen.marks) _ _ Q (λ _. stay _) (λ few.
      cond_both (lacks 1 w) _ _ Q (λ _. stay _) (λ room.
      kept_keep t.numbers.saga Mark (h.marked t.numbers.saga x f run (runs x.0.phase (ltb (length x.0.marks) 8) run (lt-ltb (length x.0.marks) 8 (omega (arith, marks_seen x seen v, leb-false 8 seen.marks few)))) room))))

  pub joins : (t : Ticket) → In P (joined t w)
  joins t =
      let Q : Result Unit RunnerFault × World → Type 0 = λ y. In P y in
      run_turns (λ f. Err f) t.numbers.saga t.numbers.restart (join_in t w) (λ x seen f v run.
      cond_both (eqb seen.marks 0) _ _ Q (λ _. stay _) (λ some.
      cond_both (lacks 1 w) _ _ Q (λ _. stay _) (λ room.
      let more : 0 < seen.marks = positive seen.marks (eqb-false seen.marks 0 some) in
      kept_keep t.numbers.saga Join (h.joined t.numbers.saga x f run (runs x.0.phase (ltb 0 (length x.0.marks)) run (lt-ltb 0 (length x.0.marks) (omega (arith, marks_seen x seen v)))) room))))
    where
      positive : (k : ℕ) → (k ≡ 0 → ⊥) → 0 < k
      positive k n = omega arith

  pub backs : (t : Ticket) (d : ℕ) → In P (backed t d w)
  backs t d =
      let Q : Result Unit RunnerFault × World → Type 0 = λ y. In P y in
      run_turns (λ f. Err f) t.numbers.saga t.numbers.restart (back_in t d w) (λ x seen f v run.
      cond_both (eqb d 0) _ _ Q (λ _. stay _) (λ _.
      cond_both (ltb seen.marks d) _ _ Q (λ _. stay _) (λ deep.
      cond_both (lacks 1 w) _ _ Q (λ _. stay _) (λ room.
      kept_keep t.numbers.saga (Back d) (h.backed t.numbers.saga d x f run (runs x.0.phase (leb d (length x.0.marks)) run (le-leb d (length x.0.marks) (omega (arith, marks_seen x seen v, ltb-false seen.marks d deep)))) room)))))

  issues : (n : Numbers) (p : ℕ) (q : Request) → In P (issued n p q w)
  issues n p q =
      let Q : Result Unit RunnerFault × World → Type 0 = λ y. In P y in
      run_turns (λ f. Err f) n.saga n.restart (issue_in n p q w) (λ x seen f v run.
      cond_both (leb 32 seen.last) _ _ Q (λ _. stay _) (λ few.
      cond_both (eqb p 0) _ _ Q (λ _. stay _) (λ one.
      cond_both (ltb (count_of w.parties) p) _ _ Q (λ _. stay _) (λ known.
      cond_both (lacks 3 w) _ _ Q (λ _. stay _) (λ room.
      kept_keep n.saga (Intent (step_of (seen.last + 1) p q)) (h.stepped n.saga (step_of (seen.last + 1) p q) x f run
      (runs x.0.phase _ run (all_four x.0.last seen.last p (count_of w.parties) (last_seen x seen v) (leb-false 32 seen.last few) (eqb-false p 0 one) (ltb-false (count_of w.parties) p known))) room))))))
    where
      all_four : (l k p n : ℕ) → l ≡ k → k < 32 → (p ≡ 0 → ⊥) → p ≤ n → (eqb (k + 1) (l + 1) && (leb (k + 1) 32 && in_bank n p)) ≡ true
      all_four l k p n e few one known = rw (eq-eqb (k + 1) (l + 1) (omega arith), le-leb (k + 1) 32 (omega arith), le-leb 1 p (omega arith), le-leb p n known) refl

  pub steps : (t : Ticket) (p : ℕ) (q : Request) → In P (stepped t p q w)
  steps t p q = kept_step t (issued t.numbers p q w) (issues t.numbers p q)

  pub finishes : (t : Ticket) → In P (finished t w)
  finishes t =
      let Q : Result Unit (Declined Ticket) × World → Type 0 = λ y. In P y in
      on_open_turns (λ f. Err (Spent f)) t.numbers.saga (finish_in t w) t.numbers.restart (λ x seen f v.
      running_keeps Q seen.phase _ _ (λ run.
      cond_both (eqb seen.marks 0) _ _ Q (λ none.
      kept_end t t.numbers.saga Finish (h.finished t.numbers.saga x f (phase_seen x seen v ∙ run) (runs x.0.phase (eqb (length x.0.marks) 0) (phase_seen x seen v ∙ run) (eq-eqb (length x.0.marks) 0 (marks_seen x seen v ∙ eqb-true seen.marks 0 none))))) (λ _. stay _)) (stay _))

  pub cancels : (t : Ticket) → In P (cancelled t w)
  cancels t =
      let Q : Result Unit (Declined Ticket) × World → Type 0 = λ y. In P y in
      on_open_turns (λ f. Err (Spent f)) t.numbers.saga (cancel_in t w) t.numbers.restart (λ x seen f v.
      running_keeps Q seen.phase _ _ (λ run.
      kept_end t t.numbers.saga (Back 0) (h.cancelled t.numbers.saga x f (phase_seen x seen v ∙ run) (runs x.0.phase (leb 0 (length x.0.marks)) (phase_seen x seen v ∙ run) (le-leb 0 (length x.0.marks) (omega arith))))) (stay _))
