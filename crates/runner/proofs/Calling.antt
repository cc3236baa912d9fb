-- Each call keeps the table the law's reading.
use Rattle.std.proofs.Common.{◌≡◌, ℕ, zero, suc, ◌-◌, min, Bool, true, false, cond, ◌++◌, eqb, ltb, List, [], ◌∷◌, length, Some, Ok, Err, Result, refl, ap, ◌∙◌, None}
use Rattle.std.proofs.lemmas.Bool.{both_ways, cond_both, eq-eqb}
use Rattle.bounded.specs.Firsts.{first}
use Rattle.law.specs.Outcomes.{Outcome}
use Rattle.participants.specs.Party.{Party, do_after, undo_after, settle_after}
use Rattle.bank.specs.Banks.{count_of, change, change_at}
use Rattle.law.specs.declared.event.Aim.{Aim}
use Rattle.law.specs.declared.event.Aim.TheVariants.{Stepping, Retreating, Finishing}
use Rattle.law.specs.declared.event.Step.{Step}
use Rattle.law.specs.declared.event.Event.TheVariants.{Begin, Intent, Mark, Join, Back, Finish}
use Rattle.law.specs.declared.event.Phase.{Phase}
use Rattle.law.specs.declared.event.Phase.TheVariants.{Running, Pending, Closed}
use Rattle.law.specs.Law.{Saga, begun, lawful, if_stepping, if_retreating, if_finishing}
use Rattle.law.specs.Sagas.{Sagas, sagas, of_saga, applied, moves, reading, owed}
use Rattle.law.proofs.Bares.{read_bare}
use Rattle.runner.specs.Memories.{Memory}
use Rattle.runner.specs.declared.fault.RunnerFault.{RunnerFault}
use Rattle.runner.specs.Worlds.{World, written}
use Rattle.runner.specs.Calls.{record_by, advance_by, asked_answer, asked_after, event_for, entry_of, key_of, with_parties, restart_by, started, advanced}
use Rattle.runner.specs.Mirrors.{Mirrors, Mirrored}
use Rattle.runner.proofs.Mirroring.{Row, lawful_moves, mirrors_recorded, mirrors_written, mirrors_noted}
use Rattle.runner.proofs.Turns.{Writes, In, phase_seen, on_saga_turns, begins, marks, joins, backs, steps, finishes, cancels}

kept_record : (s : ℕ) (y : Result Unit RunnerFault × World) → Mirrors y.1 → In Mirrors (record_by s y)
kept_record s (Ok x, w) m = record { holds = mirrors_noted w s None m }
kept_record s (Err f, w) m = record { holds = m }

writes : (w : World) → Mirrors w → Writes w Mirrors
writes w m = record {
  same = m;
  began = λ s r may l. mirrors_recorded w s Begin (ap (λ (b : Bool). (cond {A = Bool × Sagas Memory} b (true, sagas s (w.table.rows ++ (begun s, None) ∷ [])) (false, w.table)).0) may) m;
  stepped = λ s t x f run law l. mirrors_recorded w s (Intent t) (lawful_moves w s (Intent t) x f.1 law) m;
  marked = λ s x f run law l. mirrors_recorded w s Mark (lawful_moves w s Mark x f.1 law) m;
  joined = λ s x f run law l. mirrors_recorded w s Join (lawful_moves w s Join x f.1 law) m;
  backed = λ s d x f run law l. mirrors_recorded w s (Back d) (lawful_moves w s (Back d) x f.1 law) m;
  finished = λ s x f run law. mirrors_recorded w s Finish (lawful_moves w s Finish x f.1 law) m;
  cancelled = λ s x f run law. mirrors_recorded w s (Back 0) (lawful_moves w s (Back 0) x f.1 law) m;
}

-- a call to a participant leaves as many
length_change : {X : Type 0} (xs : List X) (i : ℕ) (f : X → X) → length (change xs i f) ≡ length xs
length_change [] i f = refl
length_change (x ∷ xs) zero f = refl
length_change (x ∷ xs) (suc i) f = ap suc (length_change xs i f)

length_change_at : (ps : List Party) (i : ℕ) (f : Party → Party) → length (change_at ps i f) ≡ length ps
length_change_at ps i f = cond_both (eqb i 0) ps (change ps (i - 1) f) (λ qs. length qs ≡ length ps) (λ _. refl) (λ _. length_change ps (i - 1) f)

asked_length : (a : Aim) (ps : List Party) (s : ℕ) (t : Step) → length (asked_after a ps s t) ≡ length ps
asked_length Stepping ps s t = length_change_at ps t.participant (λ p. do_after p (entry_of s t))
asked_length (Retreating g d) ps s t = length_change_at ps t.participant (λ p. undo_after p (key_of s t))
asked_length Finishing ps s t = length_change_at ps t.participant (λ p. settle_after p (key_of s t))

mirrors_parties : (w : World) (ps : List Party) → length ps ≡ length w.parties → Mirrors w → Mirrors (with_parties ps w)
mirrors_parties w ps e m ready = ap (λ k. reading (min 255 k) tt w.records) e ∙ m ready

-- the record of the call is lawful, and not Begin
pub told_lawful : (n : ℕ) (x : Saga) (a : Aim) (t : Step) (y : Outcome) → x.phase ≡ Pending a t → lawful n x (event_for a t y) ≡ true
told_lawful n x Stepping t (Ok z) e = ap (λ p. if_stepping p (λ u. eqb t.number u.number)) e ∙ eq-eqb t.number t.number refl
told_lawful n x Stepping t (Err c) e = ap (λ p. if_stepping p (λ u. eqb t.number u.number)) e ∙ eq-eqb t.number t.number refl
told_lawful n x (Retreating g d) t y e = ap (λ p. if_retreating p (λ u. eqb t.number u.number)) e ∙ eq-eqb t.number t.number refl
told_lawful n x Finishing t y e = ap (λ p. if_finishing p (λ u. eqb t.number u.number)) e ∙ eq-eqb t.number t.number refl

pub told_same : {V : Type 0} (n s : ℕ) (a : Aim) (t : Step) (y : Outcome) (v : V) (p : Sagas V) → applied n s (event_for a t y) v p ≡ moves n s (event_for a t y) p
told_same n s Stepping t (Ok z) v p = refl
told_same n s Stepping t (Err c) v p = refl
told_same n s (Retreating g d) t y v p = refl
told_same n s Finishing t y v p = refl

advances_by : (w : World) (s : ℕ) (p : Phase) (k : Memory) (x : Row) → first (of_saga s) w.table.rows ≡ Some x → x.0.phase ≡ p → Mirrors w → In Mirrors (advance_by s w p k)
advances_by w s Running k x f e m = record { holds = m }
advances_by w s Closed k x f e m = record { holds = m }
advances_by w s (Pending a t) None x f e m =
    record { holds = mirrors_noted (with_parties (asked_after a w.parties s t) w) s (Some (asked_answer a w.parties s t)) (mirrors_parties w (asked_after a w.parties s t) (asked_length a w.parties s t) m) }
advances_by w s (Pending a t) (Some y) x f e m =
    kept_record s (written s (event_for a t y) w) (mirrors_written w s (event_for a t y) (ap (λ (z : Bool × Sagas Memory). z.0) (told_same (count_of w.parties) s a t y None w.table) ∙ lawful_moves w s (event_for a t y) x f (told_lawful (count_of w.parties) x.0 a t y e)) m)

-- a world that is not read mirrors anything
pub unready : (w : World) → w.ready ≡ false → Mirrors w
unready w h r = absurd (both_ways w.ready h r)

advances : (w : World) (s : ℕ) → Mirrors w → In Mirrors (advanced s w)
advances w s m = on_saga_turns w Mirrors (writes w m) (λ f. Err f) s (λ seen. advance_by s w seen.phase seen.note) (λ x seen f v. advances_by w s seen.phase seen.note x f.1 (phase_seen x seen v) m)

restarts_by : (w : World) (y : Result (Sagas Memory) ℕ) → reading (count_of w.parties) None w.records ≡ y → In Mirrors (restart_by w y)
restarts_by w (Err i) e = record { holds = unready (started w false (sagas 0 [])) refl }
restarts_by w (Ok t) e =
    let P : Result ℕ RunnerFault × World → Type 0 = λ y. In Mirrors y in
    cond_both (ltb (w.capacity - length w.records) (owed t)) _ _ P (λ _. record { holds = unready (started w false (sagas 0 [])) refl }) (λ _.
    record { holds = λ _. read_bare (count_of w.parties) None 0 (sagas 0 []) t w.records e })

pub mirrored : Mirrored
mirrored = record {
  restart = λ w. (restarts_by w (reading (count_of w.parties) None w.records) refl).holds;
  begin = λ w s m. (begins w Mirrors (writes w m) s).holds;
  step = λ w t p q m. (steps w Mirrors (writes w m) t p q).holds;
  mark = λ w t m. (marks w Mirrors (writes w m) t).holds;
  join = λ w t m. (joins w Mirrors (writes w m) t).holds;
  back = λ w t d m. (backs w Mirrors (writes w m) t d).holds;
  finish = λ w t m. (finishes w Mirrors (writes w m) t).holds;
  cancel = λ w t m. (cancels w Mirrors (writes w m) t).holds;
  advance = λ w s m. (advances w s m).holds;
}
