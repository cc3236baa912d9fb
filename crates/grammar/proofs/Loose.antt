-- The grammar with its limits aside.
use Rattle.std.proofs.Common.{◌≡◌, ℕ, ◌+◌, ◌-◌, cond, List, [], ◌∷◌, ◌++◌, length, Ok, Err, Result, ap, ◌∙◌, append_assoc, arith}
use Rattle.std.proofs.lemmas.Bool.Decides.{nat_tests}
use Rattle.std.proofs.lemmas.Grind.{common_steps}
use Rattle.tokens.specs.Readers.{a_word, a_name, an_open}
use Rattle.tokens.specs.declared.text.Token.{Token}
use Rattle.tokens.specs.declared.text.Token.TheVariants as token
use Rattle.tokens.specs.declared.text.Word.TheVariants as word
use Rattle.tokens.specs.declared.text.Cause.{Cause}
use Rattle.tokens.specs.declared.text.Cause.TheVariants as cause
use Rattle.terms.specs.declared.Request.{Request}
use Rattle.grammar.specs.Machine.{Layout, SagaItems, State, Place, Part, body, other, at, into, title, more, more_tags, filled, tagged, after, cell, a_tag, request, stock, shift, hung, did, turned, opened, fresh, headed, head_word, a_step, a_head, a_start, new_name, old_name, unless_listed, if_listed, unless_same, other_feeder, listed, left, most, start, empty, step, move}
use Rattle.grammar.specs.Machine as machine
use Rattle.grammar.specs.Makes.{request_tokens, items_tokens, sagas_tokens, cells_tokens, tags_tokens, section_tokens, tag_section_tokens, tokens_of, Nests, AllNest}
use Rattle.terms.specs.declared.Level.{Level}
use Rattle.terms.specs.declared.Tag.{Tag}
use Rattle.grammar.specs.declared.Section.{Section}
use Rattle.grammar.specs.declared.Section.TheVariants.{Groups, Feeders}
use Rattle.grammar.specs.declared.Item.{Item}
use Rattle.grammar.specs.declared.Item.TheVariants as item
use Rattle.grammar.proofs.Complete.{then}

-- a number of any size
abbrev number : Token → Result ℕ Cause
number (token.Word w) = Err cause.Grammar
number (token.Name a) = Err cause.Grammar
number (token.Number n) = Ok n
number token.Open = Err cause.Grammar
number token.Close = Err cause.Grammar
number (token.Bad c) = Err c
number token.End = Err cause.Grammar

abbrev loose : Layout → List SagaItems → Place → Token → Result State Cause
loose l d (machine.heading s) t = into (a_word (title s) t) (λ _. at l d (machine.count s))
loose l d (machine.count s) t = into (number t) (λ n. more l d s n [])
loose l d (machine.value s n cs) t = into (number t) (λ v. at l d (machine.ceiling s n cs v))
loose l d (machine.ceiling s n cs v) t = into (number t) (λ c. more l d s (n - 1) (cs ++ cell v c ∷ []))
loose l d machine.tags_heading t = into (a_word word.Tags t) (λ _. at l d machine.tag_count)
loose l d machine.tag_count t = into (number t) (λ n. more_tags l d n [])
loose l d (machine.tag_name n ts) t = into (a_name t) (λ a. at l d (machine.tag_value n ts a))
loose l d (machine.tag_value n ts a) t = into (number t) (λ v. more_tags l d (n - 1) (ts ++ a_tag a v ∷ []))
loose l d machine.sagas t = into (a_start t) (λ b. cond b (at l d machine.saga_number) (at l d machine.sagas))
loose l d machine.saga_number t = into (number t) (λ n. at l d (machine.saga_open n))
loose l d (machine.saga_open n) t = into (an_open t) (λ _. at l d (machine.items (fresh n)))
loose l d (machine.items o) t = into (a_head 0 1 t) (λ h. headed l d o h)
loose l d (machine.amount b o) t = into (number t) (λ n. at l d (machine.of b n o))
loose l d (machine.of b n o) t = into (a_word word.Of t) (λ _. at l d (machine.group b n o))
loose l d (machine.group b n o) t = into (number t) (λ g. at l d (machine.items (did o (stock b n g))))
loose l d (machine.move_amount o) t = into (number t) (λ n. at l d (machine.move_from n o))
loose l d (machine.move_from n o) t = into (a_word word.From t) (λ _. at l d (machine.move_source n o))
loose l d (machine.move_source n o) t = into (number t) (λ a. at l d (machine.move_to n a o))
loose l d (machine.move_to n a o) t = into (a_word word.To t) (λ _. at l d (machine.move_target n a o))
loose l d (machine.move_target n a o) t = into (number t) (λ b. at l d (machine.items (did o (shift n a b))))
loose l d (machine.tag b o) t = into (a_name t) (λ a. at l d (machine.items (did o (hung b a))))
loose l d (machine.try_open o) t = into (an_open t) (λ _. at l d (machine.items (turned o item.Try (body ∷ o.parts))))
loose l d (machine.else_word o) t = into (a_word word.Else t) (λ _. at l d (machine.else_open o))
loose l d (machine.else_open o) t = into (an_open t) (λ _. at l d (machine.items (turned o item.Else (other ∷ o.parts))))

abbrev pub loosely : State → Token → Result State Cause
loosely s t = loose s.layout s.sagas s.place t

abbrev pub allow : State → List Token → Result State Cause
allow s [] = loosely s token.End
allow s (t ∷ ts) = then (loosely s t) (λ u. allow u ts)

pub loosened : (l : Layout) (d : List SagaItems) (p : Place) (t : Token) (u : State) → move l d p t ≡ Ok u → loose l d p t ≡ Ok u
loosened l d p t u h = grind (arith, nat_tests)

-- what the grammar lacks within the limits it lacks without them
abbrev Lack : {X Y : Type 0} → Result X Cause → Result Y Cause → Type 0
Lack r q = r ≡ Err cause.Grammar → q ≡ Err cause.Grammar

pub lacks : (l : Layout) (d : List SagaItems) (p : Place) (t : Token) → Lack (move l d p t) (loose l d p t)
lacks l d p t = grind (arith, nat_tests)

-- what the grammar makes is allowed
abbrev Taken : Layout → List SagaItems → machine.Open → List Token → Request → Type 0
Taken l d o ts r = allow (at l d (machine.items o)) (request_tokens r ++ ts) ≡ allow (at l d (machine.items (did o r))) ts

items_allowed : (l : Layout) (d : List SagaItems) (n k : ℕ) (js : List Item) (ps : List Part) (is : List Item) (ts : List Token) → Nests ps is
    → allow (at l d (machine.items (opened n js k ps))) (items_tokens is ++ token.Close ∷ ts) ≡ allow (at l (d ++ (n, js ++ is) ∷ []) machine.sagas) ts
items_allowed l d n k js ps [] ts f = grind (arith, nat_tests, common_steps, append_assoc)
items_allowed l d n k js ps (item.Step a ∷ is) ts f = grind (arith, nat_tests, common_steps, append_assoc, items_allowed l d n (k + 1) (js ++ item.Step a ∷ []) ps is ts f.1)
items_allowed l d n k js ps (item.Try ∷ is) ts f = grind (arith, nat_tests, common_steps, append_assoc, items_allowed l d n k (js ++ item.Try ∷ []) (body ∷ ps) is ts f)
items_allowed l d n k js [] (item.Else ∷ is) ts f = absurd f
items_allowed l d n k js (body ∷ ps) (item.Else ∷ is) ts f = grind (arith, nat_tests, common_steps, append_assoc, items_allowed l d n k (js ++ item.Else ∷ []) (other ∷ ps) is ts f)
items_allowed l d n k js (other ∷ ps) (item.Else ∷ is) ts f = absurd f
items_allowed l d n k js [] (item.End ∷ is) ts f = absurd f
items_allowed l d n k js (body ∷ ps) (item.End ∷ is) ts f = absurd f
items_allowed l d n k js (other ∷ ps) (item.End ∷ is) ts f = grind (arith, nat_tests, common_steps, append_assoc, items_allowed l d n k (js ++ item.End ∷ []) ps is ts f)

sagas_allowed : (l : Layout) (d ss : List SagaItems) → AllNest ss → allow (at l d machine.sagas) (sagas_tokens ss) ≡ Ok (at l (d ++ ss) machine.sagas)
sagas_allowed l d [] f = grind (arith, nat_tests, common_steps, append_assoc)
sagas_allowed l d (s ∷ ss) f =
    ap (λ (xs : List Token). allow (at l d (machine.items (fresh s.0))) xs) (append_assoc (items_tokens s.1) (token.Close ∷ []) (sagas_tokens ss))
    ∙ items_allowed l d s.0 0 [] [] s.1 (sagas_tokens ss) f.0
    ∙ sagas_allowed l (d ++ (s.0, s.1) ∷ []) ss f.1
    ∙ ap (λ (xs : List SagaItems). Ok (at l xs machine.sagas)) (append_assoc d ((s.0, s.1) ∷ []) ss)

cells_allowed : (l : Layout) (s : Section) (js cs : List Level) (ts : List Token)
    → allow (more l [] s (length cs) js) (cells_tokens cs ++ ts) ≡ allow (at (filled s (js ++ cs) l) [] (after s)) ts
cells_allowed l s js [] ts = grind (arith, nat_tests, common_steps, append_assoc)
cells_allowed l s js (c ∷ cs) ts = grind (arith, nat_tests, common_steps, append_assoc, cells_allowed l s (js ++ c ∷ []) cs ts)

tags_allowed : (l : Layout) (js ts : List Tag) (us : List Token)
    → allow (more_tags l [] (length ts) js) (tags_tokens ts ++ us) ≡ allow (at (tagged (js ++ ts) l) [] machine.sagas) us
tags_allowed l js [] us = grind (arith, nat_tests, common_steps, append_assoc)
tags_allowed l js (t ∷ ts) us = grind (arith, nat_tests, common_steps, append_assoc, tags_allowed l (js ++ t ∷ []) ts us)

section_allowed : (l : Layout) (s : Section) (cs : List Level) (ts : List Token)
    → allow (at l [] (machine.heading s)) (section_tokens s (length cs) cs ++ ts) ≡ allow (at (filled s cs l) [] (after s)) ts
section_allowed l Groups cs ts = cells_allowed l Groups [] cs ts
section_allowed l Feeders cs ts = cells_allowed l Feeders [] cs ts

pub script_allowed : (l : Layout) (d : List SagaItems) → AllNest d → allow start (tokens_of l d) ≡ Ok (at l d machine.sagas)
script_allowed l d f =
    let G : List Token = section_tokens Groups (length l.groups) l.groups in
    let F : List Token = section_tokens Feeders (length l.feeders) l.feeders in
    let T : List Token = tag_section_tokens (length l.tags) l.tags in
    ap (λ (xs : List Token). allow start xs) (append_assoc (G ++ F) T (sagas_tokens d) ∙ append_assoc G F (T ++ sagas_tokens d))
    ∙ section_allowed empty Groups l.groups (F ++ (T ++ sagas_tokens d))
    ∙ section_allowed (filled Groups l.groups empty) Feeders l.feeders (T ++ sagas_tokens d)
    ∙ tags_allowed (filled Feeders l.feeders (filled Groups l.groups empty)) [] l.tags (sagas_tokens d)
    ∙ sagas_allowed l [] d f
