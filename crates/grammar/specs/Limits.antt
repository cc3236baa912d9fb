-- What a site and its sagas have to keep.
use Rattle.std.specs.Prelude.{◌≡◌, ℕ, ◌+◌, ◌<◌, ◌≤◌, true, false, ◌⊎◌, List, [], ◌∷◌, ◌++◌, length}
use Rattle.grammar.specs.Machine.{Layout, SagaItems, Part, body, other, listed}
use Rattle.terms.specs.declared.Level.{Level}
use Rattle.terms.specs.declared.Tag.{Tag}
use Rattle.terms.specs.declared.Request.{Request}
use Rattle.grammar.specs.declared.Item.{Item}
use Rattle.grammar.specs.declared.Item.TheVariants as item

-- no value above its ceiling
abbrev pub CellsFit : List Level → Type 0
CellsFit [] = Unit {0}
CellsFit (c ∷ cs) = (c.value ≤ c.ceiling) × (c.ceiling ≤ 1000000) × CellsFit cs

-- no tag twice: `before` are those listed before
abbrev pub TagsFit : List Tag → List Tag → Type 0
TagsFit before [] = Unit {0}
TagsFit before (t ∷ ts) = (listed t.name before ≡ false) × (t.value ≤ 1) × TagsFit (before ++ t ∷ []) ts

-- claim 1 and return 2: an amount, and one of the site's groups
pub record StockFits (l : Layout) (r : Request) : Type 0 where
  pub verb : (r.verb ≡ 1) ⊎ (r.verb ≡ 2)
  pub some : 1 ≤ r.amount
  pub most : r.amount ≤ 1000000
  pub group : 1 ≤ r.a
  pub last : r.a ≤ length l.groups
  pub second : r.b ≡ 0

-- move 3: an amount, and two of the site's feeders
pub record MoveFits (l : Layout) (r : Request) : Type 0 where
  pub verb : r.verb ≡ 3
  pub some : 1 ≤ r.amount
  pub most : r.amount ≤ 1000000
  pub from : 1 ≤ r.a
  pub from_last : r.a ≤ length l.feeders
  pub to : 1 ≤ r.b
  pub to_last : r.b ≤ length l.feeders
  pub other : r.a ≡ r.b → ⊥

-- hang 4 and lift 5: one of the site's tags
pub record TagFits (l : Layout) (r : Request) : Type 0 where
  pub verb : (r.verb ≡ 4) ⊎ (r.verb ≡ 5)
  pub one : r.amount ≡ 1
  pub there : listed r.a l.tags ≡ true
  pub second : r.b ≡ 0

abbrev pub RequestFits : Layout → Request → Type 0
RequestFits l r = StockFits l r ⊎ (MoveFits l r ⊎ TagFits l r)

-- at most 32 steps, and tries that are closed in order, at most 8 one inside another: k steps came before, in the parts ps
abbrev pub ItemsFit : Layout → ℕ → List Part → List Item → Type 0
ItemsFit l k ps [] = ps ≡ []
ItemsFit l k ps (item.Step a ∷ is) = (k < 32) × RequestFits l a × ItemsFit l (k + 1) ps is
ItemsFit l k ps (item.Try ∷ is) = (length ps < 8) × ItemsFit l k (body ∷ ps) is
ItemsFit l k [] (item.Else ∷ is) = ⊥
ItemsFit l k (body ∷ ps) (item.Else ∷ is) = ItemsFit l k (other ∷ ps) is
ItemsFit l k (other ∷ ps) (item.Else ∷ is) = ⊥
ItemsFit l k [] (item.End ∷ is) = ⊥
ItemsFit l k (body ∷ ps) (item.End ∷ is) = ⊥
ItemsFit l k (other ∷ ps) (item.End ∷ is) = ItemsFit l k ps is

abbrev pub SagasFit : Layout → List SagaItems → Type 0
SagasFit l [] = Unit {0}
SagasFit l (s ∷ ss) = (1 ≤ s.0) × (s.0 ≤ 1000000) × ItemsFit l 0 [] s.1 × SagasFit l ss

pub record Valid (l : Layout) (d : List SagaItems) : Type 0 where
  pub few_groups : length l.groups ≤ 16
  pub few_feeders : length l.feeders ≤ 32
  pub few_tags : length l.tags ≤ 64
  pub groups : CellsFit l.groups
  pub feeders : CellsFit l.feeders
  pub tags : TagsFit [] l.tags
  pub sagas : SagasFit l d
