-- An advance of a saga on its way out is not refused: its record has a place.
use Rattle.std.proofs.Common.{◌≡◌, ℕ, ◌≤◌, Bool, true, false, cond, eqb, ◌⊎◌, List, [], ◌∷◌, map, length, Some, None, Ok, Err, fold, Option, Result, sym, refl, ap, ◌∙◌, subst, inl, inr, ⊎_elim, arith, is_ok, is_some}
use Rattle.std.specs.Option.{option_map}
use Rattle.std.proofs.lemmas.Bool.{both_ways, ne_eqb}
use Rattle.bounded.specs.Firsts.{first}
use Rattle.bank.specs.Banks.{count_of}
use Rattle.law.specs.declared.event.Phase.{Phase}
use Rattle.law.specs.declared.event.Phase.TheVariants.{Running, Pending, Closed}
use Rattle.law.specs.declared.table.View.{View}
use Rattle.law.specs.Keeps.{Keeps}
use Rattle.law.specs.Law.{Saga, owes_in}
use Rattle.law.specs.Sagas.{Sagas, of_saga}
use Rattle.law.specs.Bare.{bare, row_bare}
use Rattle.law.specs.Views.{view, view_of}
use Rattle.runner.specs.Memories.{Memory}
use Rattle.runner.specs.declared.fault.RunnerFault.{RunnerFault}
use Rattle.runner.specs.declared.fault.RunnerFault.TheVariants.{Unread, NoOpenSaga, Journal}
use Rattle.journals.specs.declared.fault.JournalFault.TheVariants.{Full}
use Rattle.runner.specs.Worlds.{World, full, recorded, by_view}
use Rattle.runner.specs.Calls.{advance_by, advanced, record_by, event_for}
use Rattle.runner.specs.Mirrors.{Mirrors}
use Rattle.runner.proofs.Mirroring.{Row}
use Rattle.runner.specs.declared.moves.Move.{Move}
use Rattle.runner.specs.Acts.{act}
use Rattle.rehearsal.specs.Shows.{open_in, open_saga, ended}
use Rattle.rehearsal.specs.Keeps.{Start, Answers}
use Rattle.rehearsal.proofs.Costs.{Bare, owes_within}
use Rattle.runner.proofs.Calling.{unready}
use Rattle.rehearsal.proofs.Mirrored.{mirrors_moves}
use Rattle.rehearsal.proofs.Histories.{ended_closing}
use Rattle.rehearsal.proofs.Sounds.{closing, closing_of, stands_in}
use Rattle.rehearsal.proofs.Rooms.{Plain, Room, FineIn, fine_of, found_bare, row_keeps, keeps_of, room_start, room_moves}

-- what the law over the records has open is what the table has
seen_open : (s : ℕ) (rows : List Row) → first (λ (y : Saga). eqb y.number s) (map (λ (z : Saga × Unit {0}). z.0) (map row_bare rows)) ≡ option_map (λ (x : Row). x.0) (first (of_saga s) rows)
seen_open s [] = refl
seen_open s (x ∷ rows) = grind (arith, seen_open s rows)

pub open_is : (w : World) (s : ℕ) → Mirrors w → w.ready ≡ true → open_saga s w ≡ option_map (λ (x : Row). x.0) (first (of_saga s) w.table.rows)
open_is w s m e = ap (λ (t : Result (Sagas (Unit {0})) ℕ). first (λ (x : Saga). eqb x.number s) (open_in t)) (m e) ∙ seen_open s w.table.rows

owes_all : (p : Phase) (n : ℕ) → closing p ≡ true → n ≤ owes_in p n
owes_all (Pending a t) n c = omega arith
owes_all p n c = absurd cc

module _ (w : World) (fine : FineIn w) (keeps : Keeps (bare w.table)) (s : ℕ) where
  place : (x : Row) → first (of_saga s) w.table.rows ≡ Some x → closing x.0.phase ≡ true → full w ≡ false
  place x f c =
      let some = stands_in x.0.phase x.0.last x.0.standing (row_keeps w.table keeps s x f).1.pends c in
      let part = owes_within s (bare w.table).rows (row_bare x) (found_bare s w.table.rows x f) in
      ne_eqb (length w.records) w.capacity (λ same. omega (arith, same, some, owes_all x.0.phase (length x.0.standing) c, part, fine))

  advance_answers : (x : Row) → first (of_saga s) w.table.rows ≡ Some x → (p : Phase) (k : Memory) → x.0.phase ≡ p → closing p ≡ true → is_ok (advance_by s w p k).0 ≡ true
  advance_answers x f Running k e c = c
  advance_answers x f Closed k e c = c
  advance_answers x f (Pending a t) None e c = refl
  advance_answers x f (Pending a t) (Some y) e c =
      let free = place x f (ap closing e ∙ c) in
      ap (λ (z : Bool). is_ok (record_by s (cond {A = Result Unit RunnerFault × World} z (Err (Journal s (Full (length w.records))), w) (Ok tt, recorded s (event_for a t y) w))).0) free

  found_answers : (o : Option Row) → first (of_saga s) w.table.rows ≡ o → closing_of (option_map (λ (x : Row). x.0) o) ≡ true → is_ok (by_view (option_map view_of o) (Err NoOpenSaga, w) (λ (seen : View Memory). advance_by s w seen.phase seen.note)).0 ≡ true
  found_answers None e c = absurd cc
  found_answers (Some x) e c = advance_answers x e x.0.phase x.1 refl c

pub answers_at : (w : World) → Room w → Mirrors w → (s : ℕ) → closing_of (open_saga s w) ≡ true → w.ready ≡ true → is_ok (advanced s w).0 ≡ true
answers_at w r m s c e =
    let go = λ (seen : View Memory). advance_by s w seen.phase seen.note in
    ap (λ (b : Bool). is_ok (cond b (by_view (view s w.table) (Err NoOpenSaga, w) go) (Err Unread, w)).0) e
    ∙ found_answers w (fine_of w r m e) (keeps_of w m e) s (first (of_saga s) w.table.rows) refl (ap closing_of (sym (open_is w s m e)) ∙ c)

-- a saga that is cancelled or finished is closed, or on its way there
plain_row : (s : ℕ) (rows : List Bare) → first (λ (y : Saga). eqb y.number s) (map (λ (z : Bare). z.0) rows) ≡ option_map (λ (x : Bare). x.0) (first (of_saga s) rows)
plain_row s [] = refl
plain_row s (x ∷ rows) = grind (arith, plain_row s rows)

pub open_plain : (w : World) (s : ℕ) (r : Room w) → open_saga s w ≡ option_map (λ (x : Bare). x.0) (first (of_saga s) r.table.rows)
open_plain w s r = ap (λ (t : Result Plain ℕ). first (λ (x : Saga). eqb x.number s) (open_in t)) r.reads ∙ plain_row s r.table.rows

pub ended_way : (w : World) (s : ℕ) (r : Room w) → ended s w.records ≡ true → (open_saga s w ≡ None) ⊎ (closing_of (open_saga s w) ≡ true)
ended_way w s r h = subst (λ (o : Option Saga). (o ≡ None) ⊎ (closing_of o ≡ true)) (sym (open_plain w s r)) (go (first (of_saga s) r.table.rows) refl)
  where
    go : (o : Option Bare) → first (of_saga s) r.table.rows ≡ o → (option_map (λ (x : Bare). x.0) o ≡ None) ⊎ (closing_of (option_map (λ (x : Bare). x.0) o) ≡ true)
    go None f = inl refl
    go (Some x) f = inr (ended_closing (count_of w.parties) w.records r.table r.reads s h x f)

pub answers_kept : (w : World) (ms : List Move) → Start w → Answers w ms
answers_kept w ms h s front rest e out some ready =
    let m = unready w h.unread in
    let v = fold act w front in
    let r = room_moves w front (room_start w h) m in
    ⊎_elim
    (λ (shut : open_saga s v ≡ None). absurd (both_ways _ (ap is_some shut) some))
    (λ (c : closing_of (open_saga s v) ≡ true). answers_at v r (mirrors_moves w front m) s c ready)
    (ended_way v s r out)
