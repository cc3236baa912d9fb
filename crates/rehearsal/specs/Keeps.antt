-- What holds after any moves, from an empty journal and participants at which nothing stands.
use Rattle.std.specs.Prelude.{◌≡◌, ℕ, ◌+◌, ◌*◌, ◌<◌, Bool, true, false, cond, ◌&&◌, ◌⊎◌, List, [], ◌∷◌, ◌++◌, map, length, Some, fold, count_by, filter, ◌==◌, nat_eq, is_some, is_ok, None}
use Rattle.bounded.specs.Firsts.{any, pick}
use Rattle.terms.specs.declared.Entry.{Entry}
use Rattle.participants.specs.Effects.{taken, given}
use Rattle.participants.specs.Party.{Party, is_key, no_entry, value_of}
use Rattle.bank.specs.Banks.{party_at}
use Rattle.law.specs.declared.event.Aim.TheVariants.{Stepping, Retreating, Finishing}
use Rattle.law.specs.declared.event.Phase.{Phase}
use Rattle.law.specs.declared.event.Phase.TheVariants.{Running, Pending, Closed}
use Rattle.runner.specs.Memories.{Memory}
use Rattle.runner.specs.Worlds.{World, on_saga}
use Rattle.runner.specs.Calls.{restarted, advanced, key_of}
use Rattle.runner.specs.Mirrors.{Mirrors}
use Rattle.runner.specs.declared.moves.Call.{Call}
use Rattle.runner.specs.declared.moves.Call.TheVariants.{Restart, Begin, Step, Mark, Join, Back, Finish, Cancel, Advance, Answer}
use Rattle.runner.specs.declared.moves.Reach.{Reach}
use Rattle.runner.specs.declared.moves.Reach.TheVariants.{Made, CutBefore, CutAfter}
use Rattle.runner.specs.declared.moves.Move.{Move}
use Rattle.runner.specs.Acts.{act}
use Rattle.rehearsal.specs.Shows.{open_sagas, open_saga, standing_of, performed_of, ended, mine, entries_at, Holds, settled_steps}

pub record Start (w : World) : Type 0 where
  pub empty : w.records ≡ []
  pub unread : w.ready ≡ false
  pub idle : (p : ℕ) → (party_at w.parties p).entries ≡ []

-- the entry that a settle takes off, with its participant
abbrev pub settle_by : ℕ → List Party → Phase → Memory → List (ℕ × Entry)
settle_by s ps Running m = []
settle_by s ps Closed m = []
settle_by s ps (Pending Stepping t) m = []
settle_by s ps (Pending (Retreating g d) t) m = []
settle_by s ps (Pending Finishing t) None =
    let es = (party_at ps t.participant).entries in
    cond (any (is_key (key_of s t)) es) ((t.participant, pick (is_key (key_of s t)) no_entry es) ∷ []) []
settle_by s ps (Pending Finishing t) (Some x) = []

abbrev pub settles : World → Call → List (ℕ × Entry)
settles w Restart = []
settles w (Begin s) = []
settles w (Step n p q) = []
settles w (Mark n) = []
settles w (Join n) = []
settles w (Back n d) = []
settles w (Finish n) = []
settles w (Cancel n) = []
settles w (Advance s) = on_saga w s (λ _. []) (λ seen. settle_by s w.parties seen.phase seen.note)
settles w (Answer n) = []

abbrev pub settles_at : World → Call → Reach → List (ℕ × Entry)
settles_at w c Made = settles w c
settles_at w c CutBefore = []
settles_at w c CutAfter = settles w c

-- all that settles took off, in their order
abbrev pub settled_in : World → List Move → List (ℕ × Entry)
settled_in w [] = []
settled_in w (m ∷ ms) = settles_at w m.call m.reach ++ settled_in (act w m) ms

abbrev pub of_party : ℕ → List (ℕ × Entry) → List Entry
of_party p es = map (λ (x : ℕ × Entry). x.1) (filter (λ (x : ℕ × Entry). nat_eq x.0 p) es)

-- an advance of saga s that answers; one that is cut does not
abbrev pub advance_answers : ℕ → World → Call → ℕ
advance_answers s w Restart = 0
advance_answers s w (Begin n) = 0
advance_answers s w (Step n p q) = 0
advance_answers s w (Mark n) = 0
advance_answers s w (Join n) = 0
advance_answers s w (Back n d) = 0
advance_answers s w (Finish n) = 0
advance_answers s w (Cancel n) = 0
advance_answers s w (Advance n) = cond (n == s && is_ok (advanced n w).0) 1 0
advance_answers s w (Answer n) = 0

abbrev pub completes : ℕ → World → Call → Reach → ℕ
completes s w c Made = advance_answers s w c
completes s w c CutBefore = 0
completes s w c CutAfter = 0

abbrev pub completed : ℕ → World → List Move → ℕ
completed s w [] = 0
completed s w (m ∷ ms) = completes s w m.call m.reach + completed s (act w m) ms

-- a restart that is not cut
abbrev pub makes_restart : Call → Bool
makes_restart Restart = true
makes_restart (Begin n) = false
makes_restart (Step n p q) = false
makes_restart (Mark n) = false
makes_restart (Join n) = false
makes_restart (Back n d) = false
makes_restart (Finish n) = false
makes_restart (Cancel n) = false
makes_restart (Advance n) = false
makes_restart (Answer n) = false

abbrev pub is_restart : Call → Reach → Bool
is_restart c Made = makes_restart c
is_restart c CutBefore = false
is_restart c CutAfter = false

abbrev pub restarts_in : List Move → ℕ
restarts_in ms = count_by (λ (m : Move). is_restart m.call m.reach) ms

-- what holds at every point of the list
abbrev pub Throughout : World → List Move → (World → List Move → Type 0) → Type 0
Throughout w ms P = (front rest : List Move) → front ++ rest ≡ ms → P (fold act w front) rest

-- with no saga open, a cell is what it was, less the takes and plus the gives of the settled steps; the journal tells which they are
abbrev pub Balance : World → List Move → Type 0
Balance w ms =
    open_sagas (fold act w ms) ≡ [] →
    ((p c v : ℕ) → value_of (party_at w.parties p) c ≡ Some v →
    (u : ℕ) × (value_of (party_at (fold act w ms).parties p) c ≡ Some u) × (u + taken c (of_party p (settled_in w ms)) ≡ v + given c (of_party p (settled_in w ms))))
    × ((s p : ℕ) → mine s (of_party p (settled_in w ms)) ≡ entries_at s p (settled_steps s (fold act w ms).records))

-- the participants hold of each saga the steps that stand, or these with the pending step's call made
abbrev pub Standing : World → List Move → Type 0
Standing w ms = (s : ℕ) → let v = fold act w ms in Holds v.parties s (standing_of (open_saga s v)) ⊎ Holds v.parties s (performed_of (open_saga s v))

-- a saga that is cancelled or finished is open later only while its completed advances are fewer than two for each step that stood, and one for each restart since
abbrev pub Closing : World → List Move → Type 0
Closing w ms = (s : ℕ) → Throughout w ms (λ v rest.
    ended s v.records ≡ true → is_some (open_saga s (fold act v rest)) ≡ true →
    completed s v rest < 2 * length (standing_of (open_saga s v)) + restarts_in rest)

-- and until it closes none of its advances is refused, once the journal is read
abbrev pub Answers : World → List Move → Type 0
Answers w ms = (s : ℕ) → Throughout w ms (λ v rest. ended s v.records ≡ true → is_some (open_saga s v) ≡ true → v.ready ≡ true → is_ok (advanced s v).0 ≡ true)

-- no restart is refused
abbrev pub Restarts : World → List Move → Type 0
Restarts w ms = Throughout w ms (λ v rest. is_ok (restarted v).0 ≡ true)

-- a runner that has read its journal has the law's reading of it
abbrev pub Reads : World → List Move → Type 0
Reads w ms = Mirrors (fold act w ms)

pub record Kept (w : World) (ms : List Move) : Type 0 where
  pub balance : Balance w ms
  pub standing : Standing w ms
  pub closing : Closing w ms
  pub answers : Answers w ms
  pub restarts : Restarts w ms
  pub reads : Reads w ms
