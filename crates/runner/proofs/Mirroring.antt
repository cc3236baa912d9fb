-- The table stays the law's reading: what each kind of change does to it.
use Rattle.std.proofs.Common.{◌≡◌, ℕ, Bool, true, false, cond, [], Some, None, Ok, Option, Result, sym, refl, ap, ◌∙◌}
use Rattle.std.specs.Option.{option_map}
use Rattle.std.proofs.lemmas.Bool.{cond_both}
use Rattle.bounded.specs.Firsts.{first}
use Rattle.bank.specs.Banks.{count_of}
use Rattle.law.specs.declared.event.Event.{Event}
use Rattle.law.specs.declared.event.Phase.{Phase}
use Rattle.law.specs.declared.event.Phase.TheVariants.{Running, Pending, Closed}
use Rattle.law.specs.declared.table.View.{View}
use Rattle.law.specs.Events.{event_of, record_of}
use Rattle.law.proofs.Said.{reads_back}
use Rattle.law.specs.Law.{Saga, lawful, next, if_running as law_if_running}
use Rattle.law.specs.Sagas.{applied_if, Sagas, sagas, of_saga, applied, moves, moves_by, placed, taken}
use Rattle.law.specs.Bare.{bare}
use Rattle.law.specs.Views.{view_of}
use Rattle.law.proofs.Bares.{applied_bare, read_push, noted_bare}
use Rattle.runner.specs.Memories.{Memory}
use Rattle.runner.specs.declared.fault.RunnerFault.{RunnerFault}
use Rattle.runner.specs.Worlds.{World, written, recorded, full, if_running, with_memory}
use Rattle.runner.specs.Mirrors.{Mirrors}

-- a saga that is seen has a row that is seen so
abbrev pub Row : Type 0
Row = Saga × Memory

pub seen_row : (o : Option Row) (seen : View Memory) → option_map view_of o ≡ Some seen → (x : Row) × (o ≡ Some x) × (view_of x ≡ seen)
seen_row None seen h = absurd cc
seen_row (Some x) seen h = (x, refl, cc)

module _ (w : World) where
  -- a lawful record
  pub lawful_moves : (s : ℕ) (e : Event) (x : Row) → first (of_saga s) w.table.rows ≡ Some x → lawful (count_of w.parties) x.0 e ≡ true → (moves (count_of w.parties) s e w.table).0 ≡ true
  lawful_moves s e x f l =
      ap (λ (o : Option Row). (moves_by (count_of w.parties) s e w.table o).0) f
      ∙ ap (λ (b : Bool). (cond {A = Bool × Sagas Memory} b (true, sagas w.table.top (placed s (next x.0 e, x.1) w.table.rows)) (false, w.table)).0) l

  pub mirrors_recorded : (s : ℕ) (e : Event) → (applied (count_of w.parties) s e None w.table).0 ≡ true → Mirrors w → Mirrors (recorded s e w)
  mirrors_recorded s e l m ready =
      let n = count_of w.parties in
      let r = record_of s e in
      let says : taken n tt (bare w.table) r ≡ applied n s e tt (bare w.table) = ap (λ k. applied_if n k (event_of r) tt (bare w.table)) (reads_back.of_saga s e) ∙ ap (λ f. applied_if n s f tt (bare w.table)) (reads_back.says s e) in
      let b = says ∙ applied_bare n s e None w.table in
      let ok : (taken n tt (bare w.table) r).0 ≡ true = ap (λ (y : Bool × Sagas (Unit {0})). y.0) b ∙ l in
      read_push n tt 0 (sagas 0 []) (bare w.table) w.records r (m ready) ok ∙ ap (λ (y : Bool × Sagas (Unit {0})). Ok y.1) b

  pub mirrors_written : (s : ℕ) (e : Event) → (applied (count_of w.parties) s e None w.table).0 ≡ true → Mirrors w → Mirrors (written s e w).1
  mirrors_written s e l m = cond_both (full w) _ _ (λ (y : Result Unit RunnerFault × World). Mirrors y.1) (λ _. m) (λ _. mirrors_recorded s e l m)

  pub mirrors_noted : (s : ℕ) (v : Memory) → Mirrors w → Mirrors (with_memory s v w)
  mirrors_noted s v m ready = m ready ∙ ap Ok (sym (noted_bare s v w.table))

pub running_keeps : {X : Type 0} (P : X → Type 0) (p : Phase) (x y : X) → (p ≡ Running → P x) → P y → P (if_running p x y)
running_keeps P Running x y g b = g refl
running_keeps P (Pending a t) x y g b = b
running_keeps P Closed x y g b = b

-- a record of a running saga
pub runs : (p : Phase) (b : Bool) → p ≡ Running → b ≡ true → law_if_running p b ≡ true
runs p b e h = ap (λ q. law_if_running q b) e ∙ h
