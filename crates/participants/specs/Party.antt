-- A participant: its verbs, its cells and its standing entries in order of acceptance; and what each call answers and leaves.
use Rattle.std.specs.Prelude.{◌≡◌, ℕ, ◌+◌, ◌-◌, ◌≤◌, Bool, true, cond, not, ◌&&◌, List, [], ◌∷◌, ◌++◌, map, length, Some, None, Option, Ok, Err, Result, ◌==◌, nat_le, nat_lt}
use Rattle.std.specs.List.{AllByRecursion}
use Rattle.bounded.specs.Firsts.{any, every, pick, cut}
use Rattle.terms.specs.declared.Key.{Key}
use Rattle.terms.specs.declared.Request.{Request}
use Rattle.terms.specs.declared.Entry.{Entry}
use Rattle.participants.specs.declared.cell.Cell.{Cell}
use Rattle.participants.specs.declared.cell.Side.{Side}
use Rattle.participants.specs.declared.cell.Side.TheVariants.{Take, Give}
use Rattle.participants.specs.declared.answer.Accepted.{Accepted}
use Rattle.participants.specs.declared.answer.Accepted.TheVariants.{Done, Already}
use Rattle.terms.specs.declared.Refusal.{Refusal}
use Rattle.terms.specs.declared.Refusal.TheVariants.{Unfit, OtherRequest, Full, Short, Above}
use Rattle.participants.specs.Effects.{takes, gives, effect, taken, given, fitting}

pub record Party : Type 0 where
  pub verbs : List ℕ
  pub cells : List Cell
  pub entries : List Entry

-- what a participant answers to a request
abbrev pub Answer : Type 0
Answer = Result Accepted Refusal

abbrev pub same_request : Request → Request → Bool
same_request p q = p.verb == q.verb && p.amount == q.amount && p.a == q.a && p.b == q.b

abbrev pub is_key : Key → Entry → Bool
is_key k e = e.key.saga == k.saga && e.key.step == k.step

-- 43: the value is below the take
abbrev pub short : Request → Cell → Bool
short q x = nat_lt x.value (takes x.number q)

-- 44: with all that stands and the new give it could pass its ceiling
abbrev pub above : List Entry → Request → Cell → Bool
above es q x = nat_lt 0 (gives x.number q) && nat_lt x.ceiling (x.value + (taken x.number es + given x.number es) + gives x.number q)

-- the answer to a key that does not stand: the causes 40, 42, 43, 44 in this order
abbrev pub new_answer : List ℕ → List Cell → List Entry → Request → Answer
new_answer verbs cells es q =
    cond (not (fitting verbs cells q)) (Err Unfit)
    (cond (nat_le 64 (length es)) (Err Full)
    (cond (any (short q) cells) (Err Short)
    (cond (any (above es q) cells) (Err Above)
    (Ok Done))))

-- do: a key that stands is looked at first
unfoldable pub do_answer : Party → Entry → Answer
do_answer p e =
    cond (any (is_key e.key) p.entries)
    (cond (same_request (pick (is_key e.key) e p.entries).request e.request) (Ok Already) (Err OtherRequest))
    (new_answer p.verbs p.cells p.entries e.request)

abbrev pub lowered : Request → Cell → Cell
lowered q x = record { number = x.number; value = x.value - takes x.number q; ceiling = x.ceiling }

abbrev pub raised : Side → Request → Cell → Cell
raised s q x = record { number = x.number; value = x.value + effect s x.number q; ceiling = x.ceiling }

-- the value falls by the take, and the entry joins the end
abbrev pub accepted : Party → Entry → Party
accepted p e = record { verbs = p.verbs; cells = map (lowered e.request) p.cells; entries = p.entries ++ e ∷ [] }

abbrev pub after_answer : Answer → Party → Entry → Party
after_answer (Ok Done) p e = accepted p e
after_answer (Ok Already) p e = p
after_answer (Err r) p e = p

abbrev pub do_after : Party → Entry → Party
do_after p e = after_answer (do_answer p e) p e

abbrev pub stands : Party → Key → Bool
stands p k = any (is_key k) p.entries

abbrev pub no_cell : Cell
no_cell = record { number = 0; value = 0; ceiling = 0 }

abbrev pub no_entry : Entry
no_entry = record { key = record { saga = 0; step = 0 }; request = record { verb = 0; amount = 0; a = 0; b = 0 } }

-- a standing entry leaves, and one side of its effect is added to the values: undo adds the takes, settle the gives
abbrev pub taken_off : Side → Party → Key → Party
taken_off s p k =
    cond (stands p k)
    (record { verbs = p.verbs; cells = map (raised s (pick (is_key k) no_entry p.entries).request) p.cells; entries = cut (is_key k) p.entries })
    p

abbrev pub undo_after : Party → Key → Party
undo_after p k = taken_off Take p k

abbrev pub settle_after : Party → Key → Party
settle_after p k = taken_off Give p k

abbrev pub value_in : ℕ → List Cell → Option ℕ
value_in c [] = None
value_in c (x ∷ xs) = cond (x.number == c) (Some x.value) (value_in c xs)

abbrev pub value_of : Party → ℕ → Option ℕ
value_of p c = value_in c p.cells

-- V + T + G ≤ C at every cell, and C at most 1,000,000
abbrev pub within_ceiling : List Entry → Cell → Bool
within_ceiling es x = nat_le (x.value + (taken x.number es + given x.number es)) x.ceiling && nat_le x.ceiling 1000000

unfoldable pub within_ceilings : List Cell → List Entry → Bool
within_ceilings cells es = every (within_ceiling es) cells

abbrev pub KeepsCeilings : Party → Type 0
KeepsCeilings p = AllByRecursion (λ x. (x.value + (taken x.number p.entries + given x.number p.entries) ≤ x.ceiling) × (x.ceiling ≤ 1000000)) p.cells

-- no key stands twice
abbrev pub keys_once : List Entry → Bool
keys_once [] = true
keys_once (e ∷ es) = not (any (is_key e.key) es) && keys_once es

-- entries as they may stand: no key twice, at most 64
abbrev pub Orderly : Party → Type 0
Orderly p = (keys_once p.entries ≡ true) × (length p.entries ≤ 64)

-- one side of the request's effect can be added to every value
unfoldable pub Raisable : Side → Request → List Cell → Type 0
Raisable s q cells = AllByRecursion (λ x. x.value + effect s x.number q ≤ 1000000) cells
