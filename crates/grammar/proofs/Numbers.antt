-- Which number a refused token is told by.
use Rattle.std.proofs.Common.{◌≡◌, ℕ, List, [], ◌∷◌, ◌++◌, Err, Result, refl, arith}
use Rattle.std.proofs.lemmas.Bool.Decides.{nat_tests}
use Rattle.tokens.specs.Readers.{code_of}
use Rattle.tokens.specs.declared.text.Token.{Token}
use Rattle.tokens.specs.declared.text.Token.TheVariants as token
use Rattle.tokens.specs.declared.text.Word.TheVariants as word
use Rattle.tokens.specs.declared.text.Cause.{Cause}
use Rattle.tokens.specs.declared.text.Cause.TheVariants as cause
use Rattle.grammar.specs.Machine.{Layout, SagaItems, State, Place, into, head_word, a_step, a_head, a_start, new_name, old_name, unless_listed, if_listed, unless_same, other_feeder, listed, left, most, title, move}
use Rattle.grammar.specs.Machine as machine
use Rattle.grammar.specs.Read.{Begins, Lacking, NumberFits}
use Rattle.grammar.proofs.SoFar.{told, Good}
use Rattle.grammar.proofs.Keeps.{Keeps}
use Rattle.grammar.proofs.Grows.{verb_word}
use Rattle.grammar.proofs.Beginnings.{from, begins, nested, past_count, past_ceiling, past_tag_count, past_tag_value, past_saga_number, past_verb, past_try, past_group, past_target, past_tag, in_of, in_from, in_to}
use Rattle.terms.specs.declared.Verb.{Verb}
use Rattle.terms.specs.declared.Verb.TheVariants as verb

-- what is known of a refused token: if the cause is the grammar's, the grammar lacks it
abbrev Lack : List Token → Token → Cause → Type 0
Lack b t c = c ≡ cause.Grammar → Lacking b t

-- what an answer's refusal says of the token
abbrev Says : {X : Type 0} → List Token → Token → Cause → Result X Cause → Type 0
Says b t c r = r ≡ Err c → NumberFits b t (code_of c)

into_err : {X : Type 0} (r : Result X Cause) (k : X → State) (b : List Token) (t : Token) (c : Cause) → Says b t c r → into r k ≡ Err c → NumberFits b t (code_of c)
into_err r k b t c h g = grind (arith, nat_tests)

-- any name goes on from there, but for its limit
abbrev Names : List Token → Type 0
Names b = (a : ℕ) → Begins (b ++ token.Name a ∷ [])

-- every word that begins an item goes on from there, but for the limits
pub record Heads (b : List Token) : Type 0 where
  pub verbs : (v : Verb) → Begins (b ++ token.Word (verb_word v) ∷ [])
  pub try : Begins (b ++ token.Word word.Try ∷ [])

step_says : (n : ℕ) (v : Verb) (b : List Token) (c : Cause) → Heads b → Says b (token.Word (verb_word v)) c (a_step n v)
step_says n v b c h = grind (arith, nat_tests)

head_says : (n left : ℕ) (b : List Token) (t : Token) (c : Cause) → Lack b t c → Heads b → Says b t c (a_head n left t)
head_says n left b t c f g = grind (arith, nat_tests, step_says n verb.Claim b c g, step_says n verb.Return b c g, step_says n verb.Move b c g, step_says n verb.Hang b c g, step_says n verb.Lift b c g)

pub number_fits : (l : Layout) (d : List SagaItems) (p : Place) (t : Token) (c : Cause) → Good d p → Keeps l d p → Lack (told l d p) t c → move l d p t ≡ Err c → NumberFits (told l d p) t (code_of c)
number_fits l d (machine.heading s) t c g k f h = grind (arith, nat_tests)
number_fits l d (machine.count s) t c g k f h = grind (arith, nat_tests, past_count s l)
number_fits l d (machine.value s n cs) t c g k f h = let m = λ (v : ℕ). begins l d (machine.ceiling s n cs v) g k in grind (arith, nat_tests, m)
number_fits l d (machine.ceiling s n cs v) t c g k f h = let m = λ (x : ℕ). past_ceiling s l n cs v x g.0 in grind (arith, nat_tests, m)
number_fits l d machine.tags_heading t c g k f h = grind (arith, nat_tests)
number_fits l d machine.tag_count t c g k f h = grind (arith, nat_tests, past_tag_count l)
number_fits l d (machine.tag_name n ts) t c g k f h = let m : Names (told l d (machine.tag_name n ts)) = λ a. from _ _ (token.Number 0 ∷ []) refl (past_tag_value l n ts a 0 g.0) in grind (arith, nat_tests, m)
number_fits l d (machine.tag_value n ts a) t c g k f h = let m = λ (v : ℕ). past_tag_value l n ts a v g.0 in grind (arith, nat_tests, m)
number_fits l d machine.sagas t c g k f h = grind (arith, nat_tests)
number_fits l d machine.saga_number t c g k f h = let m = λ (n : ℕ). past_saga_number l d n (nested l d k) in grind (arith, nat_tests, m)
number_fits l d (machine.saga_open n) t c g k f h = grind (arith, nat_tests)
number_fits l d (machine.items o) t c g k f h = into_err (a_head o.steps (left o) t) _ (told l d (machine.items o)) t c (head_says o.steps (left o) (told l d (machine.items o)) t c f (record { verbs = λ v. past_verb l d o v (nested l d k.0) k.1.nests; try = past_try l d o (nested l d k.0) k.1.nests })) h
number_fits l d (machine.amount b o) t c g k f h = let m = λ (n : ℕ). in_of l d b n o (nested l d k.0) k.1.nests in grind (arith, nat_tests, m)
number_fits l d (machine.of b n o) t c g k f h = grind (arith, nat_tests)
number_fits l d (machine.group b n o) t c g k f h = let m = λ (x : ℕ). past_group l d b n x o (nested l d k.0) k.1.nests in grind (arith, nat_tests, m)
number_fits l d (machine.move_amount o) t c g k f h = let m = λ (n : ℕ). in_from l d n o (nested l d k.0) k.1.nests in grind (arith, nat_tests, m)
number_fits l d (machine.move_from n o) t c g k f h = grind (arith, nat_tests)
number_fits l d (machine.move_source n o) t c g k f h = let m = λ (a : ℕ). in_to l d n a o (nested l d k.0) k.1.nests in grind (arith, nat_tests, m)
number_fits l d (machine.move_to n a o) t c g k f h = grind (arith, nat_tests)
number_fits l d (machine.move_target n a o) t c g k f h = let m = λ (x : ℕ). past_target l d n a x o (nested l d k.0) k.1.nests in grind (arith, nat_tests, m)
number_fits l d (machine.tag b o) t c g k f h = let m = λ (a : ℕ). past_tag l d b a o (nested l d k.0) k.1.nests in grind (arith, nat_tests, m)
number_fits l d (machine.try_open o) t c g k f h = grind (arith, nat_tests)
number_fits l d (machine.else_word o) t c g k f h = grind (arith, nat_tests)
number_fits l d (machine.else_open o) t c g k f h = grind (arith, nat_tests)
