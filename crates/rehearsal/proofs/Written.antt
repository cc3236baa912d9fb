-- The runner's table after a lawful record: the saga's own row moves by the law, and the others stay.
use Rattle.std.proofs.Common.{◌≡◌, ℕ, ◌<◌, Bool, true, false, cond, [], ◌∷◌, ◌++◌, Some, None, Option, ap, ◌∙◌}
use Rattle.std.proofs.lemmas.Bool.{ltb-true, and_parts}
use Rattle.bounded.specs.Firsts.{first}
use Rattle.bank.specs.Banks.{count_of}
use Rattle.law.specs.declared.event.Event.{Event}
use Rattle.law.specs.Keeps.{Ordered}
use Rattle.law.proofs.Kept.{next_number}
use Rattle.law.specs.Law.{begun, next, lawful, is_open}
use Rattle.law.specs.Sagas.{Sagas, sagas, of_saga, placed, moves, moves_by, begins, may_begin, applied}
use Rattle.law.specs.Bare.{bare, row_bare}
use Rattle.rehearsal.specs.Shows.{issued}
use Rattle.runner.specs.Memories.{Memory}
use Rattle.runner.specs.Worlds.{World}
use Rattle.runner.proofs.Mirroring.{Row}
use Rattle.rehearsal.proofs.Looks.{ordered_bare, placed_other, placed_own, first_number}
use Rattle.rehearsal.proofs.Rooms.{found_bare, row_keeps}
use Rattle.rehearsal.proofs.Histories.{Good, Lives, closed_none}

pub begins_above : (s : ℕ) (t : Sagas Memory) → may_begin s t ≡ true → t.top < s
begins_above s t h = ltb-true t.top s (and_parts _ _ h).0

pub begins_is : (s : ℕ) (t : Sagas Memory) → may_begin s t ≡ true → (begins s None t).1 ≡ sagas s (t.rows ++ (begun s, None) ∷ [])
begins_is s t may = ap (λ (b : Bool). (cond {A = Bool × Sagas Memory} b (true, sagas s (t.rows ++ (begun s, None) ∷ [])) (false, t)).1) may

module _ (w : World) (good : Good w.records (bare w.table)) where
  pub lives : (s : ℕ) (x : Row) → first (of_saga s) w.table.rows ≡ Some x → Lives x.0 s w.records
  lives s x f = good.each s (row_bare x) (found_bare s w.table.rows x f)

  pub ordered : Ordered 0 w.table.top w.table.rows
  ordered = ordered_bare 0 w.table.top w.table.rows good.keeps.ordered

  module _ (s : ℕ) (e : Event) (x : Row) (f : first (of_saga s) w.table.rows ≡ Some x) (v : Memory) (same : applied (count_of w.parties) s e v w.table ≡ moves (count_of w.parties) s e w.table) (law : lawful (count_of w.parties) x.0 e ≡ true) where
    pub table_is : (applied (count_of w.parties) s e v w.table).1 ≡ sagas w.table.top (placed s (next x.0 e, x.1) w.table.rows)
    table_is =
        ap (λ (z : Bool × Sagas Memory). z.1) same
        ∙ ap (λ (o : Option Row). (moves_by (count_of w.parties) s e w.table o).1) f
        ∙ ap (λ (b : Bool). (cond {A = Bool × Sagas Memory} b (true, sagas w.table.top (placed s (next x.0 e, x.1) w.table.rows)) (false, w.table)).1) law

    own : (next x.0 e).number ≡ s
    own = next_number x.0 e ∙ first_number s w.table.rows x f

    pub closed_now : is_open (next x.0 e).phase ≡ false → (next x.0 e).standing ≡ []
    closed_now = closed_none (count_of w.parties) x.0 e (issued s w.records) law (row_keeps w.table good.keeps s x f).1 (lives s x f).step

    pub row_now : first (of_saga s) (applied (count_of w.parties) s e v w.table).1.rows ≡ cond (is_open (next x.0 e).phase) (Some (next x.0 e, x.1)) None
    row_now = ap (λ (l : Sagas Memory). first (of_saga s) l.rows) table_is ∙ placed_own s (next x.0 e, x.1) own 0 w.table.top w.table.rows x ordered f

    pub other_now : (r : ℕ) → (s ≡ r → ⊥) → first (of_saga r) (applied (count_of w.parties) s e v w.table).1.rows ≡ first (of_saga r) w.table.rows
    other_now r d = ap (λ (l : Sagas Memory). first (of_saga r) l.rows) table_is ∙ placed_other s r d (next x.0 e, x.1) own w.table.rows
