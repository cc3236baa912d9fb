-- What a book means.
use Rattle.std.specs.Prelude.{ℕ, Ok, Err, Result}
use Rattle.bounded.specs.Held.{held}
use Rattle.participants.specs.declared.book.Book.{Book}
use Rattle.participants.specs.declared.answer.SiteFault.{SiteFault}
use Rattle.participants.specs.Party.{Party}

abbrev pub book_party : {n : ℕ} → Book n → Party
book_party b = record { verbs = held b.verbs; cells = held b.cells; entries = held b.entries }

-- what a book just opened means, or the fault
abbrev pub opened_as : {n : ℕ} → Result (Book n) SiteFault → Result Party SiteFault
opened_as (Ok b) = Ok (book_party b)
opened_as (Err f) = Err f
