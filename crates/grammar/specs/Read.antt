-- Which texts are scripts, and what the first fault of any other text is.
use Rattle.std.specs.Prelude.{◌≡◌, ℕ, ◌<◌, ◌≤◌, ◌⊎◌, List, [], ◌∷◌, ◌++◌, length, take, Ok, Err, vec_items, Result}
use Rattle.tokens.specs.Readers.{code_of}
use Rattle.tokens.specs.Tokens.{tokens_from, first}
use Rattle.tokens.specs.declared.text.Token.{Token}
use Rattle.tokens.specs.declared.text.Token.TheVariants.{Word, Name, Number, Open, Close, Bad, End}
use Rattle.tokens.specs.declared.text.Fault.{Fault}
use Rattle.tokens.specs.declared.text.Fault.TheVariants.{Memory, At}
use Rattle.grammar.specs.Machine.{Layout, SagaItems}
use Rattle.grammar.specs.Makes.{tokens_of, shown, without_places, AllNest}
use Rattle.grammar.specs.Limits.{Valid}
use Rattle.grammar.specs.Lists.{lists_of, sagas_of}
use Rattle.grammar.specs.declared.Script.{Script}

-- the text is what the grammar makes of a site and sagas within their limits
pub record IsScript (text : List ℕ) (l : Layout) (d : List SagaItems) : Type 0 where
  pub short : length text ≤ 16384
  pub made : without_places (tokens_from text 0) ≡ tokens_of l d
  pub valid : Valid l d

-- of a longer text the first 16,384 bytes are judged
abbrev pub judged : List ℕ → List ℕ
judged text = take 16384 text

-- `before` begins what the grammar makes of some site and sagas, their limits aside
pub record Begins (before : List Token) : Type 0 where
  pub site : Layout
  pub sagas : List SagaItems
  pub rest : List Token
  pub nested : AllNest sagas
  pub made : tokens_of site sagas ≡ before ++ rest

-- in `all`, t comes after `before`; End stands for the end
pub record ComesAfter (all before : List Token) (t : Token) : Type 0 where
  pub rest : List Token
  pub parts : all ≡ before ++ (shown t ++ rest)
  pub end : t ≡ End → rest ≡ []

-- no site and sagas within their limits have t after `before`
abbrev pub NotAllowed : List Token → Token → Type 0
NotAllowed before t = (l : Layout) (d : List SagaItems) → Valid l d → ComesAfter (tokens_of l d) before t → ⊥

-- no site and sagas have t after `before`, their limits aside: the grammar lacks it there
abbrev pub Lacking : List Token → Token → Type 0
Lacking before t = (l : Layout) (d : List SagaItems) → AllNest d → ComesAfter (tokens_of l d) before t → ⊥

-- 13 where the grammar lacks the token; else n, where it is against a limit alone
abbrev pub LackingOr : ℕ → List Token → Token → ℕ → Type 0
LackingOr limit before t n = ((n ≡ 13) × Lacking before t) ⊎ ((n ≡ limit) × Begins (before ++ t ∷ []))

-- the number of a token that is refused after `before`: its own, or 13, or that of a limit on numbers, names or words
abbrev pub NumberFits : List Token → Token → ℕ → Type 0
NumberFits before (Bad c) n = n ≡ code_of c
NumberFits before (Number v) n = LackingOr 14 before (Number v) n
NumberFits before (Name a) n = LackingOr 15 before (Name a) n
NumberFits before (Word w) n = LackingOr 16 before (Word w) n
NumberFits before Open n = (n ≡ 13) × Lacking before Open
NumberFits before Close n = (n ≡ 13) × Lacking before Close
NumberFits before End n = (n ≡ 13) × Lacking before End

-- the first faulty token of what is judged, or its early end
pub record FaultyToken (text : List ℕ) (n p : ℕ) : Type 0 where
  pub before : List (Token × ℕ)
  pub rest : List (Token × ℕ)
  pub parts : tokens_from (judged text) 0 ≡ before ++ rest
  pub place : (first (length (judged text)) rest).1 ≡ p
  pub begins : Begins (without_places before)
  pub refused : NotAllowed (without_places before) (first (length (judged text)) rest).0
  pub number : NumberFits (without_places before) (first (length (judged text)) rest).0 n

-- a text that is a script so far, and goes on past 16,384 bytes
pub record TooLong (text : List ℕ) (n p : ℕ) : Type 0 where
  pub long : 16384 < length text
  pub site : Layout
  pub sagas : List SagaItems
  pub script : IsScript (judged text) site sagas
  pub number : n ≡ 13
  pub place : p ≡ 16384

abbrev pub FirstFault : List ℕ → ℕ → ℕ → Type 0
FirstFault text n p = FaultyToken text n p ⊎ TooLong text n p

-- a text is accepted exactly if it is a script, as that very script; a refusal tells the first fault's number and place
abbrev pub Reading : List ℕ → Result Script Fault → Type 0
Reading text (Ok s) =
    IsScript text (lists_of s.site) (sagas_of (vec_items s.sagas))
    × ((l : Layout) (d : List SagaItems) → IsScript text l d → (l ≡ lists_of s.site) × (d ≡ sagas_of (vec_items s.sagas)))
Reading text (Err Memory) = Unit {0}
Reading text (Err (At c p)) = ((l : Layout) (d : List SagaItems) → IsScript text l d → ⊥) × FirstFault text (code_of c) p
