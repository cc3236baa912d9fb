-- What was read keeps the limits.
use Rattle.std.proofs.Common.{◌≡◌, ℕ, ◌+◌, ◌-◌, ◌<◌, ◌≤◌, false, List, [], ◌∷◌, ◌++◌, length, Ok, Result, refl, ap, ◌∙◌, subst, inl, inr, append_assoc, arith, length-append}
use Rattle.std.proofs.lemmas.List.{append-nil}
use Rattle.std.proofs.lemmas.Bool.Decides.{nat_tests}
use Rattle.std.proofs.lemmas.Grind.{common_steps}
use Rattle.std.proofs.lemmas.Bool.{cases_lt}
use Rattle.tokens.specs.Readers.{a_number}
use Rattle.tokens.specs.declared.text.Token.{Token}
use Rattle.tokens.specs.declared.text.Cause.{Cause}
use Rattle.grammar.specs.Machine.{Layout, SagaItems, State, Place, Part, body, other, at, into, more, more_tags, filled, tagged, title, after, cell, a_tag, closed, headed, begun, turned, did, stock, shift, hung, head_word, a_step, a_head, a_start, new_name, old_name, unless_listed, if_listed, unless_same, other_feeder, listed, most, left, fresh, opened, step, move}
use Rattle.grammar.specs.Machine as machine
use Rattle.grammar.specs.Makes.{Nests}
use Rattle.grammar.specs.Limits.{ItemsFit, SagasFit, CellsFit, TagsFit, Valid}
use Rattle.grammar.proofs.SoFar.{Good}
use Rattle.terms.specs.declared.Level.{Level}
use Rattle.terms.specs.declared.Tag.{Tag}
use Rattle.grammar.specs.declared.Section.{Section}
use Rattle.grammar.specs.declared.Section.TheVariants.{Groups, Feeders}
use Rattle.terms.specs.declared.Verb.{Verb}
use Rattle.grammar.specs.declared.Head.{Head}
use Rattle.grammar.specs.declared.Head.TheVariants as head
use Rattle.grammar.specs.declared.Item.{Item}

abbrev SectionFits : Section → List Level → Type 0
SectionFits s cs = (length cs ≤ most s) × CellsFit cs

abbrev AheadFits : Section → Layout → Type 0
AheadFits Groups l = Unit {0}
AheadFits Feeders l = SectionFits Groups l.groups

abbrev PairsFit : Layout → Type 0
PairsFit l = SectionFits Groups l.groups × SectionFits Feeders l.feeders

-- the items read, with any items that may follow them, make a saga within its limits; and so for the nesting alone
pub record OpenFits (l : Layout) (o : machine.Open) : Type 0 where
  pub low : 1 ≤ o.number
  pub high : o.number ≤ 1000000
  pub fits : (js : List Item) → ItemsFit l o.steps o.parts js → ItemsFit l 0 [] (o.items ++ js)
  pub nests : (js : List Item) → Nests o.parts js → Nests [] (o.items ++ js)

abbrev pub Keeps : Layout → List SagaItems → Place → Type 0
Keeps l d (machine.heading s) = AheadFits s l
Keeps l d (machine.count s) = AheadFits s l
Keeps l d (machine.value s n cs) = AheadFits s l × (length cs + n ≤ most s) × CellsFit cs
Keeps l d (machine.ceiling s n cs v) = AheadFits s l × (length cs + n ≤ most s) × CellsFit cs
Keeps l d machine.tags_heading = PairsFit l
Keeps l d machine.tag_count = PairsFit l
Keeps l d (machine.tag_name n ts) = PairsFit l × (length ts + n ≤ 64) × TagsFit [] ts
Keeps l d (machine.tag_value n ts a) = PairsFit l × (length ts + n ≤ 64) × TagsFit [] ts × (listed a ts ≡ false)
Keeps l d machine.sagas = Valid l d
Keeps l d machine.saga_number = Valid l d
Keeps l d (machine.saga_open n) = Valid l d × (1 ≤ n) × (n ≤ 1000000)
Keeps l d (machine.items o) = Valid l d × OpenFits l o
Keeps l d (machine.amount b o) = Valid l d × OpenFits l o × (o.steps < 32)
Keeps l d (machine.of b n o) = Valid l d × OpenFits l o × (o.steps < 32) × (1 ≤ n) × (n ≤ 1000000)
Keeps l d (machine.group b n o) = Valid l d × OpenFits l o × (o.steps < 32) × (1 ≤ n) × (n ≤ 1000000)
Keeps l d (machine.move_amount o) = Valid l d × OpenFits l o × (o.steps < 32)
Keeps l d (machine.move_from n o) = Valid l d × OpenFits l o × (o.steps < 32) × (1 ≤ n) × (n ≤ 1000000)
Keeps l d (machine.move_source n o) = Valid l d × OpenFits l o × (o.steps < 32) × (1 ≤ n) × (n ≤ 1000000)
Keeps l d (machine.move_to n a o) = Valid l d × OpenFits l o × (o.steps < 32) × (1 ≤ n) × (n ≤ 1000000) × (1 ≤ a) × (a ≤ length l.feeders)
Keeps l d (machine.move_target n a o) = Valid l d × OpenFits l o × (o.steps < 32) × (1 ≤ n) × (n ≤ 1000000) × (1 ≤ a) × (a ≤ length l.feeders)
Keeps l d (machine.tag b o) = Valid l d × OpenFits l o × (o.steps < 32)
Keeps l d (machine.try_open o) = Valid l d × OpenFits l o × (length o.parts < 8)
Keeps l d (machine.else_word o) = Valid l d × OpenFits l (opened o.number o.items o.steps (body ∷ o.parts))
Keeps l d (machine.else_open o) = Valid l d × OpenFits l (opened o.number o.items o.steps (body ∷ o.parts))

abbrev pub Kept : State → Type 0
Kept s = Keeps s.layout s.sagas s.place

keep : {X : Type 0} (r : Result X Cause) (k : X → State) (u : State) → into r k ≡ Ok u → ((x : X) → r ≡ Ok x → Kept (k x)) → Kept u
keep r k u h g = grind (arith, nat_tests)

ok_same : {X : Type 0} {x y : X} → ◌≡◌ {A = Result X Cause} (Ok x) (Ok y) → x ≡ y
ok_same e = cc

-- the range of a number that was taken
pub in_range : (low high : ℕ) (t : Token) (n : ℕ) → a_number low high t ≡ Ok n → (low ≤ n) × (n ≤ high)
in_range low high t n h = grind (arith, nat_tests)

-- room for what an item begins with
abbrev Roomy : ℕ → ℕ → Head → Type 0
Roomy n left (head.Step v) = n < 32
Roomy n left head.Group = left ≡ 0 → ⊥
Roomy n left head.Close = Unit {0}

head_room : (n left : ℕ) (t : Token) (h : Head) → a_head n left t ≡ Ok h → Roomy n left h
head_room n left t h g = grind (arith, nat_tests)

-- one more at the end
cells_more : (cs : List Level) (v c : ℕ) → CellsFit cs → v ≤ c → c ≤ 1000000 → CellsFit (cs ++ cell v c ∷ [])
cells_more [] v c f p q = (p, q, tt)
cells_more (x ∷ cs) v c f p q = grind (arith, nat_tests, common_steps, append_assoc, cells_more cs v c f.2 p q)

tags_more : (before ts : List Tag) (a v : ℕ) → TagsFit before ts → listed a (before ++ ts) ≡ false → v ≤ 1 → TagsFit before (ts ++ a_tag a v ∷ [])
tags_more before [] a v f p q = grind (arith, nat_tests, common_steps, append_assoc)
tags_more before (t ∷ ts) a v f p q = grind (arith, nat_tests, common_steps, append_assoc, tags_more (before ++ t ∷ []) ts a v f.2 (ap (λ (xs : List Tag). listed a xs) (append_assoc before (t ∷ []) ts) ∙ p) q)

sagas_more : (l : Layout) (d : List SagaItems) (n : ℕ) (is : List Item) → SagasFit l d → 1 ≤ n → n ≤ 1000000 → ItemsFit l 0 [] is → SagasFit l (d ++ (n, is) ∷ [])
sagas_more l [] n is f p q g = (p, q, g, tt)
sagas_more l (s ∷ d) n is f p q g = grind (arith, nat_tests, common_steps, append_assoc, sagas_more l d n is f.3 p q g)

more_kept : (l : Layout) (d : List SagaItems) (s : Section) (n : ℕ) (cs : List Level) → AheadFits s l → length cs + n ≤ most s → CellsFit cs → Kept (more l d s n cs)
more_kept l d s n cs h g f = grind (arith, nat_tests)

more_tags_kept : (l : Layout) (d : List SagaItems) (n : ℕ) (ts : List Tag) → d ≡ [] → PairsFit l → length ts + n ≤ 64 → TagsFit [] ts → Kept (more_tags l d n ts)
more_tags_kept l d n ts h g f e = grind (arith, nat_tests)

-- one more saga
saga_kept : (l : Layout) (d : List SagaItems) (o : machine.Open) → Valid l d → OpenFits l o → o.parts ≡ [] → Valid l (d ++ (o.number, o.items) ∷ [])
saga_kept l d o v f e =
    let P : List Item → Type 0 = λ xs. ItemsFit l 0 [] xs in
    record {
      few_groups = v.few_groups;
      few_feeders = v.few_feeders;
      few_tags = v.few_tags;
      groups = v.groups;
      feeders = v.feeders;
      tags = v.tags;
      sagas = sagas_more l d o.number o.items v.sagas f.low f.high (subst P (append-nil o.items) (f.fits [] e));
    }

closed_kept : (l : Layout) (d : List SagaItems) (n k : ℕ) (is : List Item) (ps : List Part) → Valid l d → OpenFits l (opened n is k ps) → Kept (closed l d (opened n is k ps))
closed_kept l d n k is [] v f = saga_kept l d (opened n is k []) v f refl
closed_kept l d n k is (body ∷ ps) v f = (v, f)
closed_kept l d n k is (other ∷ ps) v f = grind (arith, nat_tests, common_steps, append_assoc)

begun_kept : (l : Layout) (d : List SagaItems) (o : machine.Open) (v : Verb) → Valid l d → OpenFits l o → o.steps < 32 → Keeps l d (begun v o)
begun_kept l d o v h g f = grind (arith, nat_tests)

headed_kept : (l : Layout) (d : List SagaItems) (o : machine.Open) (h : Head) → Valid l d → OpenFits l o → Roomy o.steps (left o) h → Kept (headed l d o h)
headed_kept l d o (head.Step w) v f r = begun_kept l d o w v f r
headed_kept l d o head.Group v f r = (v, f, deep (length o.parts) r)
  where
    deep : (n : ℕ) → (8 - n ≡ 0 → ⊥) → n < 8
    deep n h = elim (cases_lt n 8) [ inl y ↦ y | inr y ↦ absurd (h (omega (arith, y))) ]
headed_kept l d o head.Close v f r = closed_kept l d o.number o.steps o.items o.parts v f

pub keeps : (l : Layout) (d : List SagaItems) (p : Place) (t : Token) (u : State) → Good d p → Keeps l d p → move l d p t ≡ Ok u → Kept u
keeps l d (machine.heading s) t u z k h = grind (arith, nat_tests, common_steps, append_assoc)
keeps l d (machine.count s) t u z k h = grind (arith, nat_tests, common_steps, append_assoc)
keeps l d (machine.value s n cs) t u z k h = grind (arith, nat_tests, common_steps, append_assoc)
keeps l d (machine.ceiling s n cs v) t u z k h =
    keep (a_number v 1000000 t) (λ c. more l d s (n - 1) (cs ++ cell v c ∷ [])) u h
    (λ c e. more_kept l d s (n - 1) (cs ++ cell v c ∷ []) k.0 (omega (arith, z.0, k.1, length-append cs (cell v c ∷ [])))
    (cells_more cs v c k.2 (in_range v 1000000 t c e).0 (in_range v 1000000 t c e).1))
keeps l d machine.tags_heading t u z k h = grind (arith, nat_tests, common_steps, append_assoc)
keeps l d machine.tag_count t u z k h = grind (arith, nat_tests, common_steps, append_assoc)
keeps l d (machine.tag_name n ts) t u z k h = grind (arith, nat_tests, common_steps, append_assoc)
keeps l d (machine.tag_value n ts a) t u z k h =
    keep (a_number 0 1 t) (λ v. more_tags l d (n - 1) (ts ++ a_tag a v ∷ [])) u h
    (λ v e. more_tags_kept l d (n - 1) (ts ++ a_tag a v ∷ []) z.1 k.0 (omega (arith, z.0, k.1, length-append ts (a_tag a v ∷ [])))
    (tags_more [] ts a v k.2 k.3 (in_range 0 1 t v e).1))
keeps l d machine.sagas t u z k h = grind (arith, nat_tests, common_steps, append_assoc)
keeps l d machine.saga_number t u z k h = grind (arith, nat_tests, common_steps, append_assoc)
keeps l d (machine.saga_open n) t u z k h = grind (arith, nat_tests, common_steps, append_assoc)
keeps l d (machine.items o) t u z k h =
    keep (a_head o.steps (left o) t) (λ x. headed l d o x) u h (λ x e. headed_kept l d o x k.0 k.1 (head_room o.steps (left o) t x e))
keeps l d (machine.amount b o) t u z k h = grind (arith, nat_tests, common_steps, append_assoc)
keeps l d (machine.of b n o) t u z k h = grind (arith, nat_tests, common_steps, append_assoc)
keeps l d (machine.group b n o) t u z k h = grind (arith, nat_tests, common_steps, append_assoc)
keeps l d (machine.move_amount o) t u z k h = grind (arith, nat_tests, common_steps, append_assoc)
keeps l d (machine.move_from n o) t u z k h = grind (arith, nat_tests, common_steps, append_assoc)
keeps l d (machine.move_source n o) t u z k h = grind (arith, nat_tests, common_steps, append_assoc)
keeps l d (machine.move_to n a o) t u z k h = grind (arith, nat_tests, common_steps, append_assoc)
keeps l d (machine.move_target n a o) t u z k h = grind (arith, nat_tests, common_steps, append_assoc)
keeps l d (machine.tag b o) t u z k h = grind (arith, nat_tests, common_steps, append_assoc)
keeps l d (machine.try_open o) t u z k h = grind (arith, nat_tests, common_steps, append_assoc)
keeps l d (machine.else_word o) t u z k h = grind (arith, nat_tests, common_steps, append_assoc)
keeps l d (machine.else_open o) t u z k h = grind (arith, nat_tests, common_steps, append_assoc)
