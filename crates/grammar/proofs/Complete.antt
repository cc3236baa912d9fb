-- What the grammar makes of a valid site and sagas is accepted, and read back as they are.
use Rattle.std.proofs.Common.{◌≡◌, ℕ, ◌+◌, ◌≤◌, List, [], ◌∷◌, ◌++◌, length, Ok, Err, Result, sym, refl, ap, ◌∙◌, append_assoc, arith}
use Rattle.std.proofs.lemmas.Bool.Decides.{nat_tests}
use Rattle.std.proofs.lemmas.Grind.{common_steps}
use Rattle.std.proofs.lemmas.Bool.{le-leb}
use Rattle.tokens.specs.declared.text.Token.{Token}
use Rattle.tokens.specs.declared.text.Token.TheVariants as token
use Rattle.tokens.specs.declared.text.Cause.{Cause}
use Rattle.grammar.specs.Machine.{Layout, SagaItems, State, Place, Part, body, other, at, into, opened, did, turned, request, stock, shift, hung, a_head, a_step, left, listed, old_name, new_name, other_feeder, step, begun, more, more_tags, most, filled, tagged, after, run, start, empty}
use Rattle.grammar.specs.Machine as machine
use Rattle.grammar.specs.Makes.{request_tokens, items_tokens, sagas_tokens, cells_tokens, tags_tokens, section_tokens, tag_section_tokens, tokens_of, shown, without_places}
use Rattle.grammar.specs.Limits.{ItemsFit, SagasFit, CellsFit, TagsFit, Valid}
use Rattle.terms.specs.declared.Tag.{Tag}
use Rattle.grammar.specs.declared.Section.TheVariants.{Groups, Feeders}
use Rattle.terms.specs.declared.Level.{Level}
use Rattle.grammar.specs.declared.Section.{Section}
use Rattle.terms.specs.declared.Request.{Request}
use Rattle.grammar.specs.declared.Item.{Item}
use Rattle.grammar.specs.declared.Item.TheVariants as item

abbrev pub then : Result State Cause → (State → Result State Cause) → Result State Cause
then (Ok s) k = k s
then (Err c) k = Err c

-- a run without places
abbrev pub accept : State → List Token → Result State Cause
accept s [] = step s token.End
accept s (t ∷ ts) = then (step s t) (λ u. accept u ts)

-- a step is taken with its tokens
abbrev Taken : Layout → List SagaItems → machine.Open → List Token → Request → Type 0
Taken l d o ts r = accept (at l d (machine.items o)) (request_tokens r ++ ts) ≡ accept (at l d (machine.items (did o r))) ts

-- items up to the brace of their saga
pub items_accepted : (l : Layout) (d : List SagaItems) (n k : ℕ) (js : List Item) (ps : List Part) (is : List Item) (ts : List Token) → ItemsFit l k ps is
    → accept (at l d (machine.items (opened n js k ps))) (items_tokens is ++ token.Close ∷ ts) ≡ accept (at l (d ++ (n, js ++ is) ∷ []) machine.sagas) ts
items_accepted l d n k js ps [] ts f = grind (arith, nat_tests, common_steps, append_assoc)
items_accepted l d n k js ps (item.Step a ∷ is) ts f = grind (arith, nat_tests, common_steps, append_assoc, items_accepted l d n (k + 1) (js ++ item.Step a ∷ []) ps is ts f.2)
items_accepted l d n k js ps (item.Try ∷ is) ts f = grind (arith, nat_tests, common_steps, append_assoc, items_accepted l d n k (js ++ item.Try ∷ []) (body ∷ ps) is ts f.1)
items_accepted l d n k js [] (item.Else ∷ is) ts f = absurd f
items_accepted l d n k js (body ∷ ps) (item.Else ∷ is) ts f = grind (arith, nat_tests, common_steps, append_assoc, items_accepted l d n k (js ++ item.Else ∷ []) (other ∷ ps) is ts f)
items_accepted l d n k js (other ∷ ps) (item.Else ∷ is) ts f = absurd f
items_accepted l d n k js [] (item.End ∷ is) ts f = absurd f
items_accepted l d n k js (body ∷ ps) (item.End ∷ is) ts f = absurd f
items_accepted l d n k js (other ∷ ps) (item.End ∷ is) ts f = grind (arith, nat_tests, common_steps, append_assoc, items_accepted l d n k (js ++ item.End ∷ []) ps is ts f)

-- sagas to the end of the text
pub sagas_accepted : (l : Layout) (d ss : List SagaItems) → SagasFit l ss → accept (at l d machine.sagas) (sagas_tokens ss) ≡ Ok (at l (d ++ ss) machine.sagas)
sagas_accepted l d [] f = grind (arith, nat_tests, common_steps, append_assoc)
sagas_accepted l d (s ∷ ss) f =
    rw (le-leb 1 s.0 f.0, le-leb s.0 1000000 f.1)
    (ap (λ (xs : List Token). accept (at l d (machine.items (machine.fresh s.0))) xs) (append_assoc (items_tokens s.1) (token.Close ∷ []) (sagas_tokens ss))
    ∙ items_accepted l d s.0 0 [] [] s.1 (sagas_tokens ss) f.2
    ∙ sagas_accepted l (d ++ (s.0, s.1) ∷ []) ss f.3
    ∙ ap (λ (xs : List SagaItems). Ok (at l xs machine.sagas)) (append_assoc d ((s.0, s.1) ∷ []) ss))

pub cells_accepted : (l : Layout) (d : List SagaItems) (s : Section) (js cs : List Level) (ts : List Token) → CellsFit cs
    → accept (more l d s (length cs) js) (cells_tokens cs ++ ts) ≡ accept (at (filled s (js ++ cs) l) d (after s)) ts
cells_accepted l d s js [] ts f = grind (arith, nat_tests, common_steps, append_assoc)
cells_accepted l d s js (c ∷ cs) ts f = grind (arith, nat_tests, common_steps, append_assoc, cells_accepted l d s (js ++ c ∷ []) cs ts f.2)

tags_accepted : (l : Layout) (js ts : List Tag) (us : List Token) → TagsFit js ts
    → accept (more_tags l [] (length ts) js) (tags_tokens ts ++ us) ≡ accept (at (tagged (js ++ ts) l) [] machine.sagas) us
tags_accepted l js [] us f = grind (arith, nat_tests, common_steps, append_assoc)
tags_accepted l js (t ∷ ts) us f = grind (arith, nat_tests, common_steps, append_assoc, tags_accepted l (js ++ t ∷ []) ts us f.2)

section_accepted : (l : Layout) (s : Section) (cs : List Level) (ts : List Token) → length cs ≤ most s → CellsFit cs
    → accept (at l [] (machine.heading s)) (section_tokens s (length cs) cs ++ ts) ≡ accept (at (filled s cs l) [] (after s)) ts
section_accepted l Groups cs ts h f = rw (le-leb 0 (length cs) (omega arith), le-leb (length cs) 16 h) (cells_accepted l [] Groups [] cs ts f)
section_accepted l Feeders cs ts h f = rw (le-leb 0 (length cs) (omega arith), le-leb (length cs) 32 h) (cells_accepted l [] Feeders [] cs ts f)

tag_section_accepted : (l : Layout) (ts : List Tag) (us : List Token) → length ts ≤ 64 → TagsFit [] ts
    → accept (at l [] machine.tags_heading) (tag_section_tokens (length ts) ts ++ us) ≡ accept (at (tagged ts l) [] machine.sagas) us
tag_section_accepted l ts us h f = rw (le-leb 0 (length ts) (omega arith), le-leb (length ts) 64 h) (tags_accepted l [] ts us f)

pub script_accepted : (l : Layout) (d : List SagaItems) → Valid l d → accept start (tokens_of l d) ≡ Ok (at l d machine.sagas)
script_accepted l d v =
    let G : List Token = section_tokens Groups (length l.groups) l.groups in
    let F : List Token = section_tokens Feeders (length l.feeders) l.feeders in
    let T : List Token = tag_section_tokens (length l.tags) l.tags in
    ap (λ (xs : List Token). accept start xs) (append_assoc (G ++ F) T (sagas_tokens d) ∙ append_assoc G F (T ++ sagas_tokens d))
    ∙ section_accepted empty Groups l.groups (F ++ (T ++ sagas_tokens d)) v.few_groups v.groups
    ∙ section_accepted (filled Groups l.groups empty) Feeders l.feeders (T ++ sagas_tokens d) v.few_feeders v.feeders
    ∙ tag_section_accepted (filled Feeders l.feeders (filled Groups l.groups empty)) l.tags (sagas_tokens d) v.few_tags v.tags
    ∙ sagas_accepted l [] d v.sagas

-- tokens of a text, among which there is no End
abbrev pub Plain : List (Token × ℕ) → Type 0
Plain [] = Unit {0}
Plain (t ∷ ts) = (shown t.0 ≡ t.0 ∷ []) × Plain ts

then_ok : (r : Result State Cause) (k : State → Result State Cause) (u : State) → then r k ≡ Ok u → (v : State) × (r ≡ Ok v) × (k v ≡ Ok u)
then_ok r k u h = grind (arith, nat_tests)

with_places : (end : ℕ) (ts : List (Token × ℕ)) (s u : State) → Plain ts → accept s (without_places ts) ≡ Ok u → run end s ts ≡ Ok u
with_places end [] s u p h = rw h refl
with_places end (t ∷ ts) s u p h =
    let e : accept s (t.0 ∷ without_places ts) ≡ Ok u = ap (λ (xs : List Token). accept s (xs ++ without_places ts)) (sym p.0) ∙ h in
    let r = then_ok (step s t.0) (λ v. accept v (without_places ts)) u e in
    rw r.1 (with_places end ts r.0 u p.1 r.2)

pub made_is_accepted : (end : ℕ) (ts : List (Token × ℕ)) (l : Layout) (d : List SagaItems) → Plain ts → Valid l d → without_places ts ≡ tokens_of l d → run end start ts ≡ Ok (at l d machine.sagas)
made_is_accepted end ts l d p v h =
    with_places end ts start (at l d machine.sagas) p (ap (λ (xs : List Token). accept start xs) h ∙ script_accepted l d v)
