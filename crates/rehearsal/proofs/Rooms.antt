-- The owed records have their places, whatever the moves; so no restart is refused.
use Rattle.std.proofs.Common.{◌≡◌, ℕ, ◌+◌, ◌-◌, ◌≤◌, Bool, true, false, ◌&&◌, ltb, leb, List, [], ◌∷◌, ◌++◌, map, length, Some, Ok, Err, fold, sum_by, Result, sym, refl, ap, ◌∙◌, subst, arith, is_ok, None}
use Rattle.std.proofs.lemmas.List.Sums.{sum_by-cons, sum_by_push}
use Rattle.std.proofs.lemmas.List.{length-append}
use lib.ListN.{length-map}
use Rattle.std.specs.Option.{option_map}
use Rattle.std.proofs.lemmas.Bool.{both_ways, cond_both, cond-true, ltb-false, ltb-true}
use Rattle.bounded.specs.Firsts.{first}
use Rattle.terms.specs.declared.Entry.{Entry}
use Rattle.bank.specs.Banks.{count_of}
use Rattle.law.specs.declared.event.Event.{Event}
use Rattle.law.specs.declared.event.Event.TheVariants.{Begin, Intent, Mark, Join, Back, Finish}
use Rattle.record.specs.declared.Record.{Record}
use Rattle.law.specs.Events.{record_of}
use Rattle.law.specs.Law.{Saga, begun, next, lawful, owes}
use Rattle.law.specs.Sagas.{Sagas, sagas, of_saga, placed, moves, moves_by, begins, may_begin, applied, owed, reading}
use Rattle.law.specs.Bare.{bare, row_bare}
use Rattle.law.specs.Keeps.{Sound, Keeps}
use Rattle.law.proofs.Bares.{applied_bare, first_bare, noted_bare, read_bare, read_stops}
use Rattle.law.proofs.Kept.{keeps_row, readings}
use Rattle.runner.specs.Memories.{Memory}
use Rattle.runner.specs.declared.fault.RunnerFault.{RunnerFault}
use Rattle.runner.specs.Worlds.{World, lacks, recorded, with_memory}
use Rattle.runner.specs.Calls.{asked_answer, asked_after, event_for, with_parties, restart_by, restarted}
use Rattle.runner.specs.Mirrors.{Mirrors}
use Rattle.runner.proofs.Mirroring.{Row}
use Rattle.runner.proofs.Calling.{mirrored, unready, told_lawful, told_same}
use Rattle.runner.specs.declared.moves.Call.{Call}
use Rattle.runner.specs.declared.moves.Reach.{Reach}
use Rattle.runner.specs.declared.moves.Reach.TheVariants.{Made, CutBefore, CutAfter}
use Rattle.runner.specs.declared.moves.Move.{Move}
use Rattle.runner.specs.Acts.{called, lost, act_by, act}
use Rattle.rehearsal.specs.Keeps.{Start, Restarts}
use Rattle.rehearsal.proofs.Costs.{Cost, Bare, step_cost, mark_cost, join_cost, back_cost, cancel_cost, finish_cost, told_cost, sum_placed}
use Rattle.rehearsal.proofs.Mirrored.{mirrors_called, mirrors_act}
use Rattle.rehearsal.proofs.Turns.{Turns, turned}

abbrev pub Plain : Type 0
Plain = Sagas (Unit {0})

-- a table whose owed records fit
abbrev pub Fine : Plain → ℕ → ℕ → Type 0
Fine t used capacity = used + owed t ≤ capacity

fine_moves : (n s : ℕ) (e : Event) (t : Plain) (x : Bare) (k u c : ℕ) → first (of_saga s) t.rows ≡ Some x → lawful n x.0 e ≡ true → Cost x.0 e k → u + owed t + k ≤ c → Fine (moves n s e t).1 (u + 1) c
fine_moves n s e t x k u c f l cost free =
    let y : Bare = (next x.0 e, x.1) in
    let is : moves n s e t ≡ (true, sagas t.top (placed s y t.rows)) = ap (moves_by n s e t) f ∙ cond-true _ _ _ l in
    subst (λ (z : Bool × Plain). Fine z.1 (u + 1) c) (sym is) (omega (arith, sum_placed s y t.rows x f, cost, free))

fine_begins : (s : ℕ) (t : Plain) (u c : ℕ) → may_begin s t ≡ true → u + owed t + 2 ≤ c → Fine (begins s tt t).1 (u + 1) c
fine_begins s t u c m free = subst (λ (z : Bool × Plain). Fine z.1 (u + 1) c) (sym (cond-true _ _ _ m)) (omega (arith, sum_by_push (λ (x : Bare). owes x.0) t.rows (begun s, tt), free))

-- the runner's own table
pub found_bare : (s : ℕ) (rows : List Row) (x : Row) → first (of_saga s) rows ≡ Some x → first (of_saga s) (map row_bare rows) ≡ Some (row_bare x)
found_bare s rows x f = first_bare s rows ∙ ap (option_map row_bare) f

pub row_keeps : (t : Sagas Memory) → Keeps (bare t) → (s : ℕ) (x : Row) → first (of_saga s) t.rows ≡ Some x → (x.0.number ≤ t.top) × Sound x.0
row_keeps t k s x f = keeps_row s (bare t) (row_bare x) k (found_bare s t.rows x f)

pub keeps_of : (w : World) → Mirrors w → w.ready ≡ true → Keeps (bare w.table)
keeps_of w m e = readings.keeps (count_of w.parties) tt w.records (bare w.table) (m e)

owed_bare : {V : Type 0} (rows : List (Saga × V)) → sum_by (λ (x : Bare). owes x.0) (map row_bare rows) ≡ sum_by (λ (x : Saga × V). owes x.0) rows
owed_bare [] = refl
owed_bare {V} (x ∷ rows) = let a = sum_by-cons (λ (y : Bare). owes y.0) (row_bare x) (map row_bare rows) in let b = sum_by-cons (λ (y : Saga × V). owes y.0) x rows in let c = owed_bare rows in omega (arith, a, b, c)

abbrev pub FineIn : World → Type 0
FineIn w = Fine (bare w.table) (length w.records) w.capacity

module _ (w : World) (fine : FineIn w) where
  free_for : (k : ℕ) → 1 ≤ k → lacks k w ≡ false → length w.records + owed (bare w.table) + k ≤ w.capacity
  free_for k some l = let a = owed_bare w.table.rows in let b = ltb-false (w.capacity - length w.records) (owed w.table + k) l in omega (arith, a, b, some)

  free_none : length w.records + owed (bare w.table) + 0 ≤ w.capacity
  free_none = omega (arith, fine)

  grown : (s : ℕ) (e : Event) → length (w.records ++ (record_of s e) ∷ []) ≡ length w.records + 1
  grown s e = length-append w.records _

  fine_recorded : (s k : ℕ) (e : Event) (x : Row) → ((t : Plain) → applied (count_of w.parties) s e tt t ≡ moves (count_of w.parties) s e t) → first (of_saga s) w.table.rows ≡ Some x → lawful (count_of w.parties) x.0 e ≡ true → Cost x.0 e k → length w.records + owed (bare w.table) + k ≤ w.capacity → FineIn (recorded s e w)
  fine_recorded s k e x same f l cost free =
      let n = count_of w.parties in
      let moved = fine_moves n s e (bare w.table) (row_bare x) k (length w.records) w.capacity (found_bare s w.table.rows x f) l cost free in
      let is : (moves n s e (bare w.table)).1 ≡ bare (applied n s e None w.table).1 = ap (λ (z : Bool × Plain). z.1) (sym (same (bare w.table)) ∙ applied_bare n s e None w.table) in
      subst (λ (u : ℕ). Fine (bare (applied n s e None w.table).1) u w.capacity) (sym (grown s e)) (subst (λ (t : Plain). Fine t (length w.records + 1) w.capacity) is moved)

  fine_began : (s : ℕ) → may_begin s w.table ≡ true → lacks 2 w ≡ false → FineIn (recorded s Begin w)
  fine_began s m l =
      let n = count_of w.parties in
      let is = applied_bare n s Begin None w.table in
      let may : may_begin s (bare w.table) ≡ true = ap (λ k. ltb w.table.top s && (leb s 1000000 && ltb k 8)) (length-map w.table.rows row_bare) ∙ m in
      let opened = fine_begins s (bare w.table) (length w.records) w.capacity may (free_for 2 (omega arith) l) in
      subst (λ (u : ℕ). Fine (bare (applied n s Begin None w.table).1) u w.capacity) (sym (grown s Begin)) (subst (λ (z : Bool × Plain). Fine z.1 (length w.records + 1) w.capacity) is opened)

fine_noted : (w : World) (s : ℕ) (v : Memory) → FineIn w → FineIn (with_memory s v w)
fine_noted w s v fine = subst (λ (t : Plain). Fine t (length w.records) w.capacity) (sym (noted_bare s v w.table)) fine

-- the law's reading of the records, whatever the runner has read
pub record Room (w : World) : Type 0 where
  pub table : Plain
  pub reads : reading (count_of w.parties) tt w.records ≡ Ok table
  pub fine : Fine table (length w.records) w.capacity

pub fine_of : (w : World) → Room w → Mirrors w → w.ready ≡ true → FineIn w
fine_of w r m e =
    let is : ◌≡◌ {A = Result Plain ℕ} (Ok r.table) (Ok (bare w.table)) = sym r.reads ∙ m e in
    let same : r.table ≡ bare w.table = cc in
    subst (λ (t : Plain). Fine t (length w.records) w.capacity) same r.fine

room_of : (w : World) → FineIn w → Mirrors w → w.ready ≡ true → Room w
room_of w f m e = record { table = bare w.table; reads = m e; fine = f }

-- ready or not
pub record Either (w : World) : Type 0 where
  pub read : w.ready ≡ true → FineIn w
  pub unread : w.ready ≡ false → Room w

when_read : (w : World) → w.ready ≡ true → FineIn w → Either w
when_read w e f = record { read = λ _. f; unread = λ n. absurd (both_ways w.ready n e) }

by_reading : (w : World) → Mirrors w → Either w → (b : Bool) → w.ready ≡ b → Room w
by_reading w m h true e = room_of w (h.read e) m e
by_reading w m h false e = h.unread e

room_restarted : (w : World) (y : Result (Sagas Memory) ℕ) → Room w → Room (restart_by w y).1
room_restarted w (Err i) r = record { table = r.table; reads = r.reads; fine = r.fine }
room_restarted w (Ok t) r = cond_both (ltb (w.capacity - length w.records) (owed t)) _ _ (λ (z : Result ℕ RunnerFault × World). Room z.1) (λ _. record { table = r.table; reads = r.reads; fine = r.fine }) (λ _. record { table = r.table; reads = r.reads; fine = r.fine })

room_lost : (w : World) → Room w → Room (lost w)
room_lost w r = record { table = r.table; reads = r.reads; fine = r.fine }

turns : (w : World) → Room w → Mirrors w → Turns w (λ (v : World) (_ : List (ℕ × Entry)). Either v)
turns w r m =
    let fine : w.ready ≡ true → FineIn w = λ e. fine_of w r m e in
    record {
      writes = record {
        same = record { read = fine; unread = λ _. r };
        began = λ s e may l. when_read _ e (fine_began w (fine e) s may l);
        stepped = λ s t x f run law l. when_read _ f.0 (fine_recorded w (fine f.0) s 3 (Intent t) x (λ _. refl) f.1 law (step_cost x.0 run t) (free_for w (fine f.0) 3 (omega arith) l));
        marked = λ s x f run law l. when_read _ f.0 (fine_recorded w (fine f.0) s 1 Mark x (λ _. refl) f.1 law (mark_cost x.0 run) (free_for w (fine f.0) 1 (omega arith) l));
        joined = λ s x f run law l. when_read _ f.0 (fine_recorded w (fine f.0) s 1 Join x (λ _. refl) f.1 law (join_cost x.0 run) (free_for w (fine f.0) 1 (omega arith) l));
        backed = λ s d x f run law l. when_read _ f.0 (fine_recorded w (fine f.0) s 1 (Back d) x (λ _. refl) f.1 law (back_cost x.0 run d) (free_for w (fine f.0) 1 (omega arith) l));
        finished = λ s x f run law. when_read _ f.0 (fine_recorded w (fine f.0) s 0 Finish x (λ _. refl) f.1 law (finish_cost x.0 run) (free_none w (fine f.0)));
        cancelled = λ s x f run law. when_read _ f.0 (fine_recorded w (fine f.0) s 0 (Back 0) x (λ _. refl) f.1 law (cancel_cost x.0 run) (free_none w (fine f.0)));
      };
      asked = λ s a t x f ph mem. when_read _ f.0 (fine_noted (with_parties (asked_after a w.parties s t) w) s (Some (asked_answer a w.parties s t)) (fine f.0));
      told = λ s a t y x f ph mem. when_read _ f.0 (fine_noted (recorded s (event_for a t y) w) s None (fine_recorded w (fine f.0) s 0 (event_for a t y) x (λ p. told_same (count_of w.parties) s a t y tt p) f.1 (told_lawful (count_of w.parties) x.0 a t y ph) (told_cost x.0 a t y ph (row_keeps w.table (keeps_of w m f.0) s x f.1).1) (free_none w (fine f.0))));
    }

pub room_called : (w : World) (c : Call) → Room w → Mirrors w → Room (called w c)
room_called w c r m =
    let again : Room (restarted w).1 = room_restarted w (reading (count_of w.parties) None w.records) r in
    let fresh_start : Mirrors (restarted w).1 = mirrored.restart w in
    let restart : Either (restarted w).1 = record { read = λ e. fine_of (restarted w).1 again fresh_start e; unread = λ _. again } in
    by_reading (called w c) (mirrors_called w c m) (turned w (λ (v : World) (_ : List (ℕ × Entry)). Either v) (turns w r m) restart c) (called w c).ready refl

pub room_act : (w : World) (c : Call) (h : Reach) → Room w → Mirrors w → Room (act_by w c h)
room_act w c Made r m = room_called w c r m
room_act w c CutBefore r m = room_lost w r
room_act w c CutAfter r m = room_lost (called w c) (room_called w c r m)

pub room_moves : (w : World) (ms : List Move) → Room w → Mirrors w → Room (fold act w ms)
room_moves w [] r m = r
room_moves w (c ∷ ms) r m = room_moves (act w c) ms (room_act w c.call c.reach r m) (mirrors_act w c.call c.reach m)

restart_answers : (w : World) → Room w → (y : Result (Sagas Memory) ℕ) → reading (count_of w.parties) None w.records ≡ y → is_ok (restart_by w y).0 ≡ true
restart_answers w r (Err i) e = let no = read_stops (count_of w.parties) None 0 i (sagas 0 []) w.records e in let yes = r.reads in absurd cc
restart_answers w r (Ok t) e =
    let is : ◌≡◌ {A = Result Plain ℕ} (Ok r.table) (Ok (bare t)) = sym r.reads ∙ read_bare (count_of w.parties) None 0 (sagas 0 []) t w.records e in
    let same : r.table ≡ bare t = cc in
    let owes : owed r.table ≡ owed t = ap owed same ∙ owed_bare t.rows in
    let room = r.fine in
    cond_both (ltb (w.capacity - length w.records) (owed t)) _ _ (λ (z : Result ℕ RunnerFault × World). is_ok z.0 ≡ true) (λ short. let l = ltb-true (w.capacity - length w.records) (owed t) short in absurd (omega (arith, l, owes, room))) (λ _. refl)

pub room_start : (w : World) → Start w → Room w
room_start w h = record {
  table = sagas 0 [];
  reads = ap (λ (rs : List Record). reading (count_of w.parties) tt rs) h.empty;
  fine = let e = ap length h.empty in omega (arith, e);
}

pub restarts_kept : (w : World) (ms : List Move) → Start w → Restarts w ms
restarts_kept w ms h front rest e = let r = room_moves w front (room_start w h) (unready w h.unread) in restart_answers (fold act w front) r (reading (count_of (fold act w front).parties) None (fold act w front).records) refl
