-- What a whole text comes to.
use Rattle.std.specs.Prelude.{◌≡◌, ℕ, cond, List, length, take, Ok, Err, vec_items, Result, nat_lt}
use Rattle.tokens.specs.declared.text.Fault.{Fault}
use Rattle.tokens.specs.Tokens.{tokens_from}
use Rattle.tokens.specs.declared.text.Cause.TheVariants.{Grammar}
use Rattle.tokens.specs.declared.text.Fault.TheVariants.{Memory, At}
use Rattle.grammar.specs.Machine.{State, Answer, at, run, start}
use Rattle.grammar.specs.Machine as machine
use Rattle.grammar.specs.Lists.{lists_of, sagas_of}
use Rattle.grammar.specs.declared.Script.{Script}

-- what was read, as the grammar has it
abbrev pub finished : Script → State
finished s = at (lists_of s.site) (sagas_of (vec_items s.sagas)) machine.sagas

-- what the tokens of a text come to
abbrev pub outcome : List ℕ → Answer
outcome text = run (length text) start (tokens_from text 0)

abbrev pub too_long : Answer → Answer
too_long (Ok s) = Err (At Grammar 16384)
too_long (Err e) = Err e

-- of a longer text the first 16,384 bytes are judged first
unfoldable pub judge : List ℕ → Answer
judge text = cond (nat_lt 16384 (length text)) (too_long (outcome (take 16384 text))) (outcome text)

abbrev pub Met : {X : Type 0} → Result X Fault → Answer → (X → Answer) → Type 0
Met (Ok x) a k = a ≡ k x
Met (Err Memory) a k = Unit {0}
Met (Err (At c p)) a k = a ≡ Err (At c p)

-- what was to come to a comes to k x after x was read, or is refused so, unless memory ran out
pub record Meets {X : Type 0} (r : Result X Fault) (a : Answer) (k : X → Answer) : Type 0 where
  pub met : Met r a k
