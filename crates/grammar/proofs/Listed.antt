-- Whether a name is in a list of tags.
use Rattle.std.proofs.Common.{◌≡◌, ℕ, eqb, List, [], ◌∷◌, arith}
use Rattle.std.specs.List.{list_any}
use Rattle.grammar.specs.Machine.{listed}
use Rattle.terms.specs.declared.Tag.{Tag}

pub listed_any : (a : ℕ) (ts : List Tag) → listed a ts ≡ list_any (λ (t : Tag). eqb t.name a) ts
listed_any a [] = grind arith
listed_any a (t ∷ ts) = grind (arith, listed_any a ts)
