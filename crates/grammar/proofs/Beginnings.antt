-- What was read is the beginning of what the grammar makes of some script.
use Rattle.std.proofs.Common.{◌≡◌, ℕ, zero, suc, ◌+◌, ◌-◌, ◌≤◌, Bool, true, false, List, [], ◌∷◌, ◌++◌, length, sym, refl, ap, ◌∙◌, inl, inr, append_assoc, arith}
use Rattle.std.proofs.lemmas.Bool.Decides.{nat_tests}
use Rattle.std.proofs.lemmas.Grind.{common_steps}
use Rattle.tokens.specs.declared.text.Token.{Token}
use Rattle.tokens.specs.declared.text.Token.TheVariants as token
use Rattle.tokens.specs.declared.text.Word.TheVariants as word
use Rattle.terms.specs.declared.Verb.{Verb}
use Rattle.terms.specs.declared.Verb.TheVariants as verb
use Rattle.terms.specs.declared.Request.{Request}
use Rattle.grammar.specs.Machine.{Layout, SagaItems, Place, Part, body, other, at, filled, tagged, title, after, cell, a_tag, stock, shift, hung, did, opened, fresh}
use Rattle.grammar.specs.Machine as machine
use Rattle.grammar.specs.Makes.{Shaped, section_tokens, tag_section_tokens, items_tokens, tokens_of, Nests, AllNest}
use Rattle.grammar.specs.Limits.{ItemsFit, SagasFit, Valid}
use Rattle.grammar.proofs.SoFar.{ahead, pairs, in_saga, told, sofar, Good}
use Rattle.grammar.specs.Read.{Begins}
use Rattle.terms.specs.declared.Level.{Level}
use Rattle.terms.specs.declared.Tag.{Tag}
use Rattle.grammar.specs.declared.Section.{Section}
use Rattle.grammar.specs.declared.Section.TheVariants.{Groups, Feeders}
use Rattle.grammar.specs.declared.Item.{Item}
use Rattle.grammar.specs.declared.Item.TheVariants as item
use Rattle.grammar.proofs.Grows.{verb_word, two, six, count_text, open_text, in_push, saga_push, did_text, stock_text, tag_text, ceiling_text, tag_value_text, all_read, more_tags_good}
use Rattle.grammar.proofs.Keeps.{Keeps}

-- the beginning of a beginning
pub from : (xs zs ys : List Token) → zs ≡ xs ++ ys → Begins zs → Begins xs
from xs zs ys e b = grind (arith, nat_tests, common_steps, append_assoc)

same : (xs zs : List Token) → zs ≡ xs → Begins zs → Begins xs
same xs zs h g = grind (arith, nat_tests)

whole : (l : Layout) (d : List SagaItems) → AllNest d → Begins (tokens_of l d)
whole l d n = grind (arith, nat_tests, common_steps, append_assoc)

-- what closes the parts around
closers : List Part → List Item
closers [] = []
closers (body ∷ ps) = item.Else ∷ item.End ∷ closers ps
closers (other ∷ ps) = item.End ∷ closers ps

closers_nest : (ps : List Part) → Nests ps (closers ps)
unfolding closers
closers_nest [] = refl
closers_nest (body ∷ ps) = closers_nest ps
closers_nest (other ∷ ps) = closers_nest ps

all_nest_more : (d : List SagaItems) (s : SagaItems) → AllNest d → Nests [] s.1 → AllNest (d ++ s ∷ [])
all_nest_more [] s f g = (g, tt)
all_nest_more (x ∷ d) s f g = grind (arith, nat_tests, common_steps, append_assoc, all_nest_more d s f.1 g)

items_append : (is js : List Item) → items_tokens (is ++ js) ≡ items_tokens is ++ items_tokens js
items_append [] js = refl
items_append (i ∷ is) js = grind (arith, nat_tests, common_steps, append_assoc, items_append is js)

regroup : {X : Type 0} (xs ys zs ws : List X) → (xs ++ (ys ++ zs)) ++ ws ≡ (xs ++ ys) ++ (zs ++ ws)
regroup xs ys zs ws = simp append_assoc

-- the items read nest, whatever nesting items follow
abbrev OpenNests : machine.Open → Type 0
OpenNests o = (js : List Item) → Nests o.parts js → Nests [] (o.items ++ js)

nests_more : (o : machine.Open) (i : Item) (k : ℕ) (ps : List Part) → OpenNests o → ((js : List Item) → Nests ps js → Nests o.parts (i ∷ js))
    → OpenNests (opened o.number (o.items ++ i ∷ []) k ps)
nests_more o i k ps f h = grind (arith, nat_tests, common_steps, append_assoc)

pub in_items : (l : Layout) (d : List SagaItems) (o : machine.Open) → AllNest d → OpenNests o → Begins (in_saga l d o)
in_items l d o n f =
    let js = closers o.parts in
    record {
      site = l;
      sagas = d ++ (o.number, o.items ++ js) ∷ [];
      rest = items_tokens js ++ token.Close ∷ [];
      nested = all_nest_more d (o.number, o.items ++ js) n (f js (closers_nest o.parts));
      made =
          saga_push l d o.number (o.items ++ js)
          ∙ ap (λ (ts : List Token). (tokens_of l d ++ token.Word word.Saga ∷ token.Number o.number ∷ token.Open ∷ ts) ++ token.Close ∷ []) (items_append o.items js)
          ∙ regroup (tokens_of l d) (token.Word word.Saga ∷ token.Number o.number ∷ token.Open ∷ items_tokens o.items) (items_tokens js) (token.Close ∷ []);
    }

in_did : (l : Layout) (d : List SagaItems) (o : machine.Open) (r : Request) → Shaped r → AllNest d → OpenNests o → Begins (in_saga l d (did o r))
in_did l d o r h n f = in_items l d (did o r) n (nests_more o (item.Step r) (o.steps + 1) o.parts f (λ js z. (h, z)))

stock_shaped : (back : Bool) (n g : ℕ) → Shaped (stock back n g)
stock_shaped back n g = grind (arith, nat_tests)

tag_shaped : (up : Bool) (a : ℕ) → Shaped (hung up a)
tag_shaped up a = grind (arith, nat_tests)

-- steps
pub past_group : (l : Layout) (d : List SagaItems) (b : Bool) (n g : ℕ) (o : machine.Open) → AllNest d → OpenNests o → Begins (told l d (machine.group b n o) ++ token.Number g ∷ [])
past_group l d b n g o p f = same _ _ (did_text l d o (stock b n g) ∙ stock_text (in_saga l d o) b n g) (in_did l d o (stock b n g) (stock_shaped b n g) p f)

in_group : (l : Layout) (d : List SagaItems) (b : Bool) (n : ℕ) (o : machine.Open) → AllNest d → OpenNests o → Begins (told l d (machine.group b n o))
in_group l d b n o p f = from _ _ (token.Number 1 ∷ []) refl (past_group l d b n 1 o p f)

pub past_target : (l : Layout) (d : List SagaItems) (n a b : ℕ) (o : machine.Open) → AllNest d → OpenNests o → Begins (told l d (machine.move_target n a o) ++ token.Number b ∷ [])
past_target l d n a b o p f =
    same _ _ (did_text l d o (shift n a b) ∙ sym (six (in_saga l d o) (token.Word word.Move) (token.Number n) (token.Word word.From) (token.Number a) (token.Word word.To) (token.Number b)))
    (in_did l d o (shift n a b) (inr (inl refl)) p f)

in_target : (l : Layout) (d : List SagaItems) (n a : ℕ) (o : machine.Open) → AllNest d → OpenNests o → Begins (told l d (machine.move_target n a o))
in_target l d n a o p f = from _ _ (token.Number 1 ∷ []) refl (past_target l d n a 1 o p f)

pub past_tag : (l : Layout) (d : List SagaItems) (b : Bool) (a : ℕ) (o : machine.Open) → AllNest d → OpenNests o → Begins (told l d (machine.tag b o) ++ token.Name a ∷ [])
past_tag l d b a o p f = same _ _ (did_text l d o (hung b a) ∙ tag_text (in_saga l d o) b a) (in_did l d o (hung b a) (tag_shaped b a) p f)

pub in_to : (l : Layout) (d : List SagaItems) (n a : ℕ) (o : machine.Open) → AllNest d → OpenNests o → Begins (told l d (machine.move_to n a o))
in_to l d n a o p f = from _ _ (token.Word word.To ∷ []) refl (in_target l d n a o p f)

pub in_source : (l : Layout) (d : List SagaItems) (n : ℕ) (o : machine.Open) → AllNest d → OpenNests o → Begins (told l d (machine.move_source n o))
in_source l d n o p f = from _ _ (token.Number 1 ∷ []) refl (in_to l d n 1 o p f)

pub in_from : (l : Layout) (d : List SagaItems) (n : ℕ) (o : machine.Open) → AllNest d → OpenNests o → Begins (told l d (machine.move_from n o))
in_from l d n o p f = from _ _ (token.Word word.From ∷ []) refl (in_source l d n o p f)

pub in_of : (l : Layout) (d : List SagaItems) (b : Bool) (n : ℕ) (o : machine.Open) → AllNest d → OpenNests o → Begins (told l d (machine.of b n o))
in_of l d b n o p f = from _ _ (token.Word word.Of ∷ []) refl (in_group l d b n o p f)

-- the number of the name A
abbrev some_name : ℕ
some_name = 4683743612465315840

in_else : (l : Layout) (d : List SagaItems) (o : machine.Open) → AllNest d → OpenNests (opened o.number o.items o.steps (body ∷ o.parts)) → Begins (told l d (machine.else_open o))
in_else l d o p f =
    from _ _ _ (in_push l d o.number o.steps o.items item.Else (other ∷ o.parts) o.parts ∙ else_text (in_saga l d o))
    (in_items l d (opened o.number (o.items ++ item.Else ∷ []) o.steps (other ∷ o.parts)) p
    (nests_more (opened o.number o.items o.steps (body ∷ o.parts)) item.Else o.steps (other ∷ o.parts) f (λ js z. z)))
  where
    else_text : (I : List Token) → I ++ token.Close ∷ token.Word word.Else ∷ token.Open ∷ [] ≡ ((I ++ token.Close ∷ []) ++ token.Word word.Else ∷ []) ++ token.Open ∷ []
    else_text I = simp append_assoc

-- the site
in_tags : (n : ℕ) (l : Layout) (ts : List Tag) → Begins (pairs l ++ tag_section_tokens (length ts + n) ts)
in_tags zero l ts = same _ _ (more_tags_good l [] 0 ts (pairs l ++ tag_section_tokens (length ts + 0) ts) refl refl).0 (whole (tagged ts l) [] tt)
in_tags (suc n) l ts =
    let m : suc n - 1 ≡ n = omega arith in
    let us = ts ++ a_tag some_name 0 ∷ [] in
    from _ _ (token.Name some_name ∷ token.Number 0 ∷ [])
    (ap (λ (k : ℕ). pairs l ++ tag_section_tokens (length us + k) us) (sym m) ∙ sym (tag_value_text l (suc n) ts some_name 0 (omega arith)) ∙ two (pairs l ++ tag_section_tokens (length ts + suc n) ts) (token.Name some_name) (token.Number 0))
    (in_tags n l us)

in_pairs : (l : Layout) → Begins (pairs l)
in_pairs l = from _ _ _ refl (in_tags 0 l [])

in_section : (s : Section) (l : Layout) → ((cs : List Level) → Begins (sofar (at (filled s cs l) [] (after s)))) → (n : ℕ) (cs : List Level) → Begins (ahead s l ++ section_tokens s (length cs + n) cs)
in_section s l f zero cs = same _ _ (all_read l [] s 0 cs refl refl).0 (f cs)
in_section s l f (suc n) cs =
    let m : suc n - 1 ≡ n = omega arith in
    let us = cs ++ cell 0 0 ∷ [] in
    from _ _ (token.Number 0 ∷ token.Number 0 ∷ [])
    (ap (λ (k : ℕ). ahead s l ++ section_tokens s (length us + k) us) (sym m) ∙ sym (ceiling_text s l (suc n) cs 0 0 (omega arith)) ∙ two (ahead s l ++ section_tokens s (length cs + suc n) cs) (token.Number 0) (token.Number 0))
    (in_section s l f n us)

in_feeders : (l : Layout) (n : ℕ) (cs : List Level) → Begins (ahead Feeders l ++ section_tokens Feeders (length cs + n) cs)
in_feeders l n cs = in_section Feeders l (λ us. in_pairs (filled Feeders us l)) n cs

in_groups : (l : Layout) (n : ℕ) (cs : List Level) → Begins (ahead Groups l ++ section_tokens Groups (length cs + n) cs)
in_groups l n cs = in_section Groups l (λ us. from _ _ _ refl (in_feeders (filled Groups us l) 0 [])) n cs

in_cells : (s : Section) (l : Layout) (n : ℕ) (cs : List Level) → Begins (ahead s l ++ section_tokens s (length cs + n) cs)
in_cells Groups l n cs = in_groups l n cs
in_cells Feeders l n cs = in_feeders l n cs

pub past_count : (s : Section) (l : Layout) (n : ℕ) → Begins ((ahead s l ++ token.Word (title s) ∷ []) ++ token.Number n ∷ [])
past_count s l n = same _ _ (sym (count_text (ahead s l) (title s) n)) (in_cells s l n [])

pub past_ceiling : (s : Section) (l : Layout) (n : ℕ) (cs : List Level) (v c : ℕ) → 1 ≤ n → Begins (((ahead s l ++ section_tokens s (length cs + n) cs) ++ token.Number v ∷ []) ++ token.Number c ∷ [])
past_ceiling s l n cs v c g = same _ _ (sym (ceiling_text s l n cs v c g)) (in_cells s l (n - 1) (cs ++ cell v c ∷ []))

pub past_tag_count : (l : Layout) (n : ℕ) → Begins ((pairs l ++ token.Word word.Tags ∷ []) ++ token.Number n ∷ [])
past_tag_count l n = same _ _ (sym (count_text (pairs l) word.Tags n)) (in_tags n l [])

pub past_tag_value : (l : Layout) (n : ℕ) (ts : List Tag) (a v : ℕ) → 1 ≤ n → Begins (((pairs l ++ tag_section_tokens (length ts + n) ts) ++ token.Name a ∷ []) ++ token.Number v ∷ [])
past_tag_value l n ts a v g = same _ _ (sym (tag_value_text l n ts a v g)) (in_tags (n - 1) l (ts ++ a_tag a v ∷ []))

-- what keeps the limits nests
items_nest : (l : Layout) (k : ℕ) (ps : List Part) (is : List Item) → ItemsFit l k ps is → Nests ps is
items_nest l k ps [] f = f
items_nest l k ps (item.Step r ∷ is) f = grind (arith, nat_tests, common_steps, append_assoc, items_nest l (k + 1) ps is f.2)
items_nest l k ps (item.Try ∷ is) f = grind (arith, nat_tests, common_steps, append_assoc, items_nest l k (body ∷ ps) is f.1)
items_nest l k [] (item.Else ∷ is) f = f
items_nest l k (body ∷ ps) (item.Else ∷ is) f = grind (arith, nat_tests, common_steps, append_assoc, items_nest l k (other ∷ ps) is f)
items_nest l k (other ∷ ps) (item.Else ∷ is) f = f
items_nest l k [] (item.End ∷ is) f = f
items_nest l k (body ∷ ps) (item.End ∷ is) f = f
items_nest l k (other ∷ ps) (item.End ∷ is) f = items_nest l k ps is f

sagas_nest : (l : Layout) (d : List SagaItems) → SagasFit l d → AllNest d
sagas_nest l [] f = tt
sagas_nest l (s ∷ d) f = (items_nest l 0 [] s.1 f.2, sagas_nest l d f.3)

pub nested : (l : Layout) (d : List SagaItems) → Valid l d → AllNest d
nested l d v = sagas_nest l d v.sagas

-- past the word that begins an item
pub past_verb : (l : Layout) (d : List SagaItems) (o : machine.Open) (v : Verb) → AllNest d → OpenNests o → Begins (told l d (machine.items o) ++ token.Word (verb_word v) ∷ [])
past_verb l d o verb.Claim p f = from _ _ (token.Number 1 ∷ []) refl (in_of l d false 1 o p f)
past_verb l d o verb.Return p f = from _ _ (token.Number 1 ∷ []) refl (in_of l d true 1 o p f)
past_verb l d o verb.Move p f = from _ _ (token.Number 1 ∷ []) refl (in_from l d 1 o p f)
past_verb l d o verb.Hang p f = from _ _ (token.Name some_name ∷ []) refl (past_tag l d false some_name o p f)
past_verb l d o verb.Lift p f = from _ _ (token.Name some_name ∷ []) refl (past_tag l d true some_name o p f)

pub past_try : (l : Layout) (d : List SagaItems) (o : machine.Open) → AllNest d → OpenNests o → Begins (told l d (machine.items o) ++ token.Word word.Try ∷ [])
past_try l d o p f =
    from _ _ _ (in_push l d o.number o.steps o.items item.Try (body ∷ o.parts) o.parts ∙ sym (two (in_saga l d o) (token.Word word.Try) token.Open))
    (in_items l d (opened o.number (o.items ++ item.Try ∷ []) o.steps (body ∷ o.parts)) p (nests_more o item.Try o.steps (body ∷ o.parts) f (λ js z. z)))

pub past_saga_number : (l : Layout) (d : List SagaItems) (n : ℕ) → AllNest d → Begins (told l d machine.saga_number ++ token.Number n ∷ [])
past_saga_number l d n p = from _ _ _ (open_text (tokens_of l d) n) (in_items l d (fresh n) p (λ js z. z))

pub begins : (l : Layout) (d : List SagaItems) (p : Place) → Good d p → Keeps l d p → Begins (told l d p)
begins l d (machine.heading s) g k = from _ _ _ refl (in_cells s l 0 [])
begins l d (machine.count s) g k = from _ _ (token.Number 0 ∷ []) refl (past_count s l 0)
begins l d (machine.value s n cs) g k = in_cells s l n cs
begins l d (machine.ceiling s n cs v) g k = from _ _ (token.Number v ∷ []) refl (past_ceiling s l n cs v v g.0)
begins l d machine.tags_heading g k = in_pairs l
begins l d machine.tag_count g k = from _ _ (token.Number 0 ∷ []) refl (past_tag_count l 0)
begins l d (machine.tag_name n ts) g k = in_tags n l ts
begins l d (machine.tag_value n ts a) g k = from _ _ (token.Number 0 ∷ []) refl (past_tag_value l n ts a 0 g.0)
begins l d machine.sagas g k = whole l d (nested l d k)
begins l d machine.saga_number g k = from _ _ (token.Number 1 ∷ []) refl (past_saga_number l d 1 (nested l d k))
begins l d (machine.saga_open n) g k = past_saga_number l d n (nested l d k.0)
begins l d (machine.items o) g k = in_items l d o (nested l d k.0) k.1.nests
begins l d (machine.amount b o) g k = from _ _ (token.Number 1 ∷ []) refl (in_of l d b 1 o (nested l d k.0) k.1.nests)
begins l d (machine.of b n o) g k = in_of l d b n o (nested l d k.0) k.1.nests
begins l d (machine.group b n o) g k = in_group l d b n o (nested l d k.0) k.1.nests
begins l d (machine.move_amount o) g k = from _ _ (token.Number 1 ∷ []) refl (in_from l d 1 o (nested l d k.0) k.1.nests)
begins l d (machine.move_from n o) g k = in_from l d n o (nested l d k.0) k.1.nests
begins l d (machine.move_source n o) g k = in_source l d n o (nested l d k.0) k.1.nests
begins l d (machine.move_to n a o) g k = in_to l d n a o (nested l d k.0) k.1.nests
begins l d (machine.move_target n a o) g k = in_target l d n a o (nested l d k.0) k.1.nests
begins l d (machine.tag b o) g k = from _ _ (token.Name some_name ∷ []) refl (past_tag l d b some_name o (nested l d k.0) k.1.nests)
begins l d (machine.try_open o) g k = past_try l d o (nested l d k.0) k.1.nests
begins l d (machine.else_word o) g k = from _ _ (token.Word word.Else ∷ []) refl (in_else l d o (nested l d k.0) k.1.nests)
begins l d (machine.else_open o) g k = in_else l d o (nested l d k.0) k.1.nests
