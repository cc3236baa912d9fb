-- What a step asks for.
use Rattle.std.specs.Prelude.{ℕ}
use Rattle.terms.specs.declared.Entry.{Entry}

abbrev pub asked : ℕ → ℕ → ℕ → ℕ → ℕ → Entry
asked saga step verb amount cell = record { key = record { saga = saga; step = step }; request = record { verb = verb; amount = amount; a = cell; b = 0 } }
