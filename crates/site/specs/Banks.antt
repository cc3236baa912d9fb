-- The bank of a site.
use Rattle.std.specs.Prelude.{List, [], ◌∷◌, Ok, Err, Result}
use Rattle.terms.specs.declared.Level.{Level}
use Rattle.terms.specs.declared.Tag.{Tag}
use Rattle.participants.specs.declared.book.Book.{Book}
use Rattle.participants.specs.declared.answer.SiteFault.{SiteFault}
use Rattle.participants.specs.Party.{Party}
use Rattle.participants.specs.Books.{book_party}
use Rattle.bank.specs.declared.chain.NoParticipants.{NoParticipants}
use Rattle.bank.specs.declared.chain.With.{With}
use Rattle.site.specs.Opening.{open_stock, open_ledger, open_registry}

abbrev pub SiteBank : Type 0
SiteBank = With (Book 16) (With (Book 32) (With (Book 64) NoParticipants))

-- stock 1, ledger 2, registry 3
abbrev pub parties_of : SiteBank → List Party
parties_of b = book_party b.first ∷ book_party b.rest.first ∷ book_party b.rest.rest.first ∷ []

abbrev pub bank_as : Result SiteBank SiteFault → Result (List Party) SiteFault
bank_as (Ok b) = Ok (parties_of b)
bank_as (Err f) = Err f

-- a participant before others, or the first fault
abbrev pub before : Result Party SiteFault → Result (List Party) SiteFault → Result (List Party) SiteFault
before (Err f) r = Err f
before (Ok p) (Ok ps) = Ok (p ∷ ps)
before (Ok p) (Err f) = Err f

abbrev pub open_bank : List Level → List Level → List Tag → Result (List Party) SiteFault
open_bank groups feeders tags = before (open_stock groups) (before (open_ledger feeders) (before (open_registry tags) (Ok [])))
