-- The tokens that the grammar makes of a site and its sagas.
use Rattle.std.specs.Prelude.{◌≡◌, ℕ, cond, ◌⊎◌, List, [], ◌∷◌, ◌++◌, length, ◌==◌}
use Rattle.tokens.specs.declared.text.Token.{Token}
use Rattle.tokens.specs.declared.text.Token.TheVariants.{Word, Name, Number, Open, Close, Bad, End}
use Rattle.tokens.specs.declared.text.Word.{Word as Words}
use Rattle.tokens.specs.declared.text.Word.TheVariants as word
use Rattle.grammar.specs.Machine.{Layout, SagaItems, Part, body, other, title}
use Rattle.terms.specs.declared.Level.{Level}
use Rattle.terms.specs.declared.Tag.{Tag}
use Rattle.grammar.specs.declared.Section.{Section}
use Rattle.grammar.specs.declared.Section.TheVariants.{Groups, Feeders}
use Rattle.terms.specs.declared.Request.{Request}
use Rattle.grammar.specs.declared.Item.{Item}
use Rattle.grammar.specs.declared.Item.TheVariants as item

abbrev pub cells_tokens : List Level → List Token
cells_tokens [] = []
cells_tokens (c ∷ cs) = Number c.value ∷ Number c.ceiling ∷ cells_tokens cs

abbrev pub tags_tokens : List Tag → List Token
tags_tokens [] = []
tags_tokens (t ∷ ts) = Name t.name ∷ Number t.value ∷ tags_tokens ts

-- the word, the count and the pairs of a section
abbrev pub section_tokens : Section → ℕ → List Level → List Token
section_tokens s n cs = Word (title s) ∷ Number n ∷ cells_tokens cs

abbrev pub tag_section_tokens : ℕ → List Tag → List Token
tag_section_tokens n ts = Word word.Tags ∷ Number n ∷ tags_tokens ts

abbrev pub site_tokens : Layout → List Token
site_tokens l = (section_tokens Groups (length l.groups) l.groups ++ section_tokens Feeders (length l.feeders) l.feeders) ++ tag_section_tokens (length l.tags) l.tags

-- `claim N of G`, `return N of G`
abbrev pub stock_tokens : Words → Request → List Token
stock_tokens w r = Word w ∷ Number r.amount ∷ Word word.Of ∷ Number r.a ∷ []

-- `move N from F to F`
abbrev pub move_tokens : Request → List Token
move_tokens r = Word word.Move ∷ Number r.amount ∷ Word word.From ∷ Number r.a ∷ Word word.To ∷ Number r.b ∷ []

-- `hang NAME`, `lift NAME`
abbrev pub name_tokens : Words → Request → List Token
name_tokens w r = Word w ∷ Name r.a ∷ []

-- a step, by its verb
abbrev pub request_tokens : Request → List Token
request_tokens r =
    cond (r.verb == 1) (stock_tokens word.Claim r)
    (cond (r.verb == 2) (stock_tokens word.Return r)
    (cond (r.verb == 3) (move_tokens r)
    (cond (r.verb == 4) (name_tokens word.Hang r)
    (cond (r.verb == 5) (name_tokens word.Lift r)
    []))))

abbrev pub item_tokens : Item → List Token
item_tokens (item.Step a) = request_tokens a
item_tokens item.Try = Word word.Try ∷ Open ∷ []
item_tokens item.Else = Close ∷ Word word.Else ∷ Open ∷ []
item_tokens item.End = Close ∷ []

abbrev pub items_tokens : List Item → List Token
items_tokens [] = []
items_tokens (i ∷ is) = item_tokens i ++ items_tokens is

abbrev pub saga_tokens : SagaItems → List Token
saga_tokens s = Word word.Saga ∷ Number s.0 ∷ Open ∷ items_tokens s.1 ++ Close ∷ []

abbrev pub sagas_tokens : List SagaItems → List Token
sagas_tokens [] = []
sagas_tokens (s ∷ ss) = saga_tokens s ++ sagas_tokens ss

abbrev pub tokens_of : Layout → List SagaItems → List Token
tokens_of l d = site_tokens l ++ sagas_tokens d

-- a request that an item can ask, whatever its numbers and name: what its words do not give is fixed
abbrev pub Shaped : Request → Type 0
Shaped r =
    (((r.verb ≡ 1) ⊎ (r.verb ≡ 2)) × (r.b ≡ 0))
    ⊎ ((r.verb ≡ 3) ⊎ (((r.verb ≡ 4) ⊎ (r.verb ≡ 5)) × (r.amount ≡ 1) × (r.b ≡ 0)))

-- the tries of a saga are closed in order: body, else, other part, end; ps are the parts around, the innermost first
abbrev pub Nests : List Part → List Item → Type 0
Nests ps [] = ps ≡ []
Nests ps (item.Step r ∷ is) = Shaped r × Nests ps is
Nests ps (item.Try ∷ is) = Nests (body ∷ ps) is
Nests [] (item.Else ∷ is) = ⊥
Nests (body ∷ ps) (item.Else ∷ is) = Nests (other ∷ ps) is
Nests (other ∷ ps) (item.Else ∷ is) = ⊥
Nests [] (item.End ∷ is) = ⊥
Nests (body ∷ ps) (item.End ∷ is) = ⊥
Nests (other ∷ ps) (item.End ∷ is) = Nests ps is

abbrev pub AllNest : List SagaItems → Type 0
AllNest [] = Unit {0}
AllNest (s ∷ ss) = Nests [] s.1 × AllNest ss

-- a text's tokens without their places
abbrev pub shown : Token → List Token
shown (Word w) = Word w ∷ []
shown (Name n) = Name n ∷ []
shown (Number n) = Number n ∷ []
shown Open = Open ∷ []
shown Close = Close ∷ []
shown (Bad c) = Bad c ∷ []
shown End = []

abbrev pub without_places : List (Token × ℕ) → List Token
without_places [] = []
without_places (t ∷ ts) = shown t.0 ++ without_places ts
