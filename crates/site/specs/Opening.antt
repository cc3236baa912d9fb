-- The participants of a site.
use Rattle.std.specs.Prelude.{ℕ, List, [], ◌∷◌, Ok, Err, Result}
use Rattle.terms.specs.declared.Level.{Level}
use Rattle.terms.specs.declared.Tag.{Tag}
use Rattle.participants.specs.declared.cell.Cell.{Cell}
use Rattle.participants.specs.declared.answer.SiteFault.{SiteFault}
use Rattle.participants.specs.Party.{Party}
use Rattle.participants.specs.Opening.{opened_on}
use Rattle.site.specs.Listing.{level_cell, tag_cell, listed}

-- a participant of these verbs on the cells of a list, or the first fault
abbrev pub opened : List ℕ → Result (List Cell) SiteFault → Result Party SiteFault
opened verbs (Ok cells) = opened_on verbs cells
opened verbs (Err f) = Err f

-- claim and return, on at most 16 groups
abbrev pub open_stock : List Level → Result Party SiteFault
open_stock groups = opened (1 ∷ 2 ∷ []) (listed 16 level_cell groups)

-- move, on at most 32 feeders
abbrev pub open_ledger : List Level → Result Party SiteFault
open_ledger feeders = opened (3 ∷ []) (listed 32 level_cell feeders)

-- hang and lift, on at most 64 tags
abbrev pub open_registry : List Tag → Result Party SiteFault
open_registry tags = opened (4 ∷ 5 ∷ []) (listed 64 tag_cell tags)
