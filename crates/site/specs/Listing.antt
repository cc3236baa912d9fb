-- The cells of what a site lists.
use Rattle.std.specs.Prelude.{ℕ, ◌+◌, cond, List, [], ◌∷◌, length, Ok, Err, Result, nat_lt}
use Rattle.terms.specs.declared.Level.{Level}
use Rattle.terms.specs.declared.Tag.{Tag}
use Rattle.bounded.specs.declared.Bounded.{Bounded}
use Rattle.bounded.specs.Held.{held}
use Rattle.participants.specs.declared.cell.Cell.{Cell}
use Rattle.participants.specs.declared.answer.SiteFault.{SiteFault}
use Rattle.participants.specs.declared.answer.SiteFault.TheVariants.{TooMany}

-- a group or a feeder goes by its place in the list
abbrev pub level_cell : Level → ℕ → Cell
level_cell x n = record { number = n; value = x.value; ceiling = x.ceiling }

-- a tag goes by its name, and has the ceiling 1
abbrev pub tag_cell : Tag → ℕ → Cell
tag_cell x n = record { number = x.name; value = x.value; ceiling = 1 }

-- the cells of a list whose first place is n
abbrev pub cells_from : {L : Type 0} → (L → ℕ → Cell) → ℕ → List L → List Cell
cells_from f n [] = []
cells_from f n (x ∷ xs) = f x n ∷ cells_from f (n + 1) xs

-- at most so many
abbrev pub listed : {L : Type 0} → ℕ → (L → ℕ → Cell) → List L → Result (List Cell) SiteFault
listed room f xs = cond (nat_lt room (length xs)) (Err TooMany) (Ok (cells_from f 1 xs))

abbrev pub listed_as : {n : ℕ} → Result (Bounded Cell n) SiteFault → Result (List Cell) SiteFault
listed_as (Ok b) = Ok (held b)
listed_as (Err f) = Err f
