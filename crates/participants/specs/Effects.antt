-- What a request does to a cell. This is the one place where verbs have a meaning.
use Rattle.std.specs.Prelude.{ℕ, Bool, cond, not, ◌&&◌, ◌||◌, List, sum_by, ◌==◌, nat_eq, nat_le}
use Rattle.bounded.specs.Firsts.{any}
use Rattle.terms.specs.declared.Request.{Request}
use Rattle.terms.specs.declared.Entry.{Entry}
use Rattle.participants.specs.declared.cell.Cell.{Cell}
use Rattle.participants.specs.declared.cell.Side.{Side}
use Rattle.participants.specs.declared.cell.Side.TheVariants.{Take, Give}

-- n at the cell d, and nothing at another
abbrev pub at_cell : ℕ → ℕ → ℕ → ℕ
at_cell c d n = cond (c == d) n 0

-- what the request takes of the cell c: claim (1) the amount of a, move (3) the amount of b, hang (4) 1 of a
abbrev pub takes : ℕ → Request → ℕ
takes c q =
    cond (q.verb == 1) (at_cell c q.a q.amount)
    (cond (q.verb == 3) (at_cell c q.b q.amount)
    (cond (q.verb == 4) (at_cell c q.a 1)
    0))

-- what it gives to the cell c: return (2) and move (3) the amount to a, lift (5) 1 to a
abbrev pub gives : ℕ → Request → ℕ
gives c q =
    cond (q.verb == 2) (at_cell c q.a q.amount)
    (cond (q.verb == 3) (at_cell c q.a q.amount)
    (cond (q.verb == 5) (at_cell c q.a 1)
    0))

abbrev pub effect : Side → ℕ → Request → ℕ
effect Take c q = takes c q
effect Give c q = gives c q

-- T(c) and G(c), over the standing entries
abbrev pub taken : ℕ → List Entry → ℕ
taken c es = sum_by (λ e. takes c e.request) es

abbrev pub given : ℕ → List Entry → ℕ
given c es = sum_by (λ e. gives c e.request) es

abbrev pub has_cell : ℕ → List Cell → Bool
has_cell c cells = any (λ x. nat_eq x.number c) cells

-- a move wants a second cell, that is not the first; the others have 0 there
abbrev pub other_cell_fits : List Cell → Request → Bool
other_cell_fits cells q = cond (q.verb == 3) (has_cell q.b cells && not (q.a == q.b)) (q.b == 0)

-- 1 for hang and lift, else 1 to 1,000,000
abbrev pub amount_fits : Request → Bool
amount_fits q = cond (q.verb == 4 || q.verb == 5) (q.amount == 1) (nat_le 1 q.amount && nat_le q.amount 1000000)

-- a verb and cells that are there, and an amount in range: else 40
abbrev pub fitting : List ℕ → List Cell → Request → Bool
fitting verbs cells q = any (λ v. nat_eq v q.verb) verbs && has_cell q.a cells && other_cell_fits cells q && amount_fits q
