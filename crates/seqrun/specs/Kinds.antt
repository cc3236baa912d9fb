-- The index of each participant in a site's bank.
use Rattle.std.specs.Prelude.{ℕ}
use Rattle.seqrun.specs.declared.kind.Kind.{Kind}
use Rattle.seqrun.specs.declared.kind.Kind.TheVariants.{Stock, Ledger, Registry}

abbrev pub index_of : Kind → ℕ
index_of Stock = 1
index_of Ledger = 2
index_of Registry = 3
