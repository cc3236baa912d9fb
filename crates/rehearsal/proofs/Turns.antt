-- What one call can do to a world that is read: nothing, another note, a record, a call to a participant, by which a settle takes an entry off.
use Rattle.std.proofs.Common.{◌≡◌, ℕ, Bool, true, false, cond, List, [], Some, None, Err, Option, Result, refl}
use Rattle.std.specs.Option.{option_map}
use Rattle.std.proofs.lemmas.Bool.{cond_both}
use Rattle.bounded.specs.Firsts.{first}
use Rattle.law.specs.Outcomes.{Outcome}
use Rattle.terms.specs.declared.Entry.{Entry}
use Rattle.law.specs.declared.event.Aim.{Aim}
use Rattle.law.specs.declared.event.Aim.TheVariants.{Stepping, Retreating, Finishing}
use Rattle.law.specs.declared.event.Step.{Step}
use Rattle.law.specs.declared.event.Phase.{Phase}
use Rattle.law.specs.declared.event.Phase.TheVariants.{Running, Pending, Closed}
use Rattle.law.specs.declared.table.View.{View}
use Rattle.law.specs.Sagas.{of_saga}
use Rattle.law.specs.Views.{view, view_of}
use Rattle.runner.specs.Memories.{Memory}
use Rattle.runner.specs.declared.fault.RunnerFault.{RunnerFault}
use Rattle.runner.specs.declared.fault.RunnerFault.TheVariants.{Unread, NoOpenSaga}
use Rattle.runner.specs.Worlds.{World, full, recorded, written, with_memory, by_view}
use Rattle.runner.specs.Calls.{record_by, advance_by, asked_answer, asked_after, event_for, with_parties, restarted, advanced}
use Rattle.runner.proofs.Mirroring.{Row}
use Rattle.runner.proofs.Turns.{Sees, Writes, begins, marks, joins, backs, steps, finishes, cancels}
use Rattle.runner.specs.declared.moves.Call.{Call}
use Rattle.runner.specs.declared.moves.Call.TheVariants.{Restart, Begin, Step as Orders, Mark, Join, Back, Finish, Cancel, Advance, Answer as Asks}
use Rattle.runner.specs.Acts.{ticket, called}
use Rattle.rehearsal.specs.Keeps.{settle_by, settles}

-- what holds of the world after a call, and of the entries that its settle took off
pub record Turns (w : World) (P : World → List (ℕ × Entry) → Type 0) : Type 0 where
  pub writes : Writes w (λ (v : World). P v [])
  pub asked : (s : ℕ) (a : Aim) (t : Step) (x : Row) → Sees w s x → x.0.phase ≡ Pending a t → x.1 ≡ None → P (with_memory s (Some (asked_answer a w.parties s t)) (with_parties (asked_after a w.parties s t) w)) (settle_by s w.parties (Pending a t) None)
  pub told : (s : ℕ) (a : Aim) (t : Step) (y : Outcome) (x : Row) → Sees w s x → x.0.phase ≡ Pending a t → x.1 ≡ Some y → P (with_memory s None (recorded s (event_for a t y) w)) []

module _ (w : World) (P : World → List (ℕ × Entry) → Type 0) (h : Turns w P) where
  told_record : (s : ℕ) (a : Aim) (t : Step) (y : Outcome) (x : Row) → Sees w s x → x.0.phase ≡ Pending a t → x.1 ≡ Some y → P (record_by s (written s (event_for a t y) w)).1 []
  told_record s a t y x f e q = cond_both (full w) _ _ (λ (z : Result Unit RunnerFault × World). P (record_by s z).1 []) (λ _. h.writes.same) (λ _. h.told s a t y x f e q)

  advances_by : (s : ℕ) (p : Phase) (k : Memory) (x : Row) → Sees w s x → x.0.phase ≡ p → x.1 ≡ k → P (advance_by s w p k).1 (settle_by s w.parties p k)
  advances_by s Running k x f e q = h.writes.same
  advances_by s Closed k x f e q = h.writes.same
  advances_by s (Pending a t) None x f e q = h.asked s a t x f e q
  advances_by s (Pending Stepping t) (Some y) x f e q = told_record s Stepping t y x f e q
  advances_by s (Pending (Retreating g d) t) (Some y) x f e q = told_record s (Retreating g d) t y x f e q
  advances_by s (Pending Finishing t) (Some y) x f e q = told_record s Finishing t y x f e q

  advances : (s : ℕ) → P (advanced s w).1 (settles w (Advance s))
  advances s = ready w.ready refl
    where
      seen : w.ready ≡ true → (o : Option Row) → first (of_saga s) w.table.rows ≡ o → P (by_view (option_map view_of o) (Err NoOpenSaga, w) (λ (v : View Memory). advance_by s w v.phase v.note)).1 (by_view (option_map view_of o) [] (λ (v : View Memory). settle_by s w.parties v.phase v.note))
      seen r None e = h.writes.same
      seen r (Some x) e = advances_by s x.0.phase x.1 x (r, e) refl refl

      ready : (b : Bool) → w.ready ≡ b → P (cond b (by_view (view s w.table) (Err NoOpenSaga, w) (λ (v : View Memory). advance_by s w v.phase v.note)) (Err Unread, w)).1 (cond b (by_view (view s w.table) [] (λ (v : View Memory). settle_by s w.parties v.phase v.note)) [])
      ready true r = seen r (first (of_saga s) w.table.rows) refl
      ready false r = h.writes.same

-- every call; of a restart what is said of it
pub turned_by : (w : World) (P : World → List (ℕ × Entry) → Type 0) → Turns w P → (c : Call) → (c ≡ Restart → P (restarted w).1 []) → P (called w c) (settles w c)
turned_by w P h Restart r = r refl
turned_by w P h (Begin s) r = (begins w (λ (v : World). P v []) h.writes s).holds
turned_by w P h (Orders n p q) r = (steps w (λ (v : World). P v []) h.writes (ticket n) p q).holds
turned_by w P h (Mark n) r = (marks w (λ (v : World). P v []) h.writes (ticket n)).holds
turned_by w P h (Join n) r = (joins w (λ (v : World). P v []) h.writes (ticket n)).holds
turned_by w P h (Back n d) r = (backs w (λ (v : World). P v []) h.writes (ticket n) d).holds
turned_by w P h (Finish n) r = (finishes w (λ (v : World). P v []) h.writes (ticket n)).holds
turned_by w P h (Cancel n) r = (cancels w (λ (v : World). P v []) h.writes (ticket n)).holds
turned_by w P h (Advance s) r = advances w P h s
turned_by w P h (Asks n) r = h.writes.same

pub turned : (w : World) (P : World → List (ℕ × Entry) → Type 0) → Turns w P → P (restarted w).1 [] → (c : Call) → P (called w c) (settles w c)
turned w P h r c = turned_by w P h c (λ _. r)
