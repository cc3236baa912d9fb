-- Worked examples: a group of the value 3 and the ceiling 4, and a tag that hangs.
use Rattle.std.specs.Prelude.{◌≡◌, ℕ, ◌+◌, ◌*◌, ◌^◌, true, false, [], ◌∷◌, Some, Ok, Err}
use Rattle.terms.specs.declared.Key.{Key}
use Rattle.terms.specs.declared.Entry.{Entry}
use Rattle.terms.specs.declared.Refusal.TheVariants.{OtherRequest, Short, Above}
use Rattle.participants.specs.declared.answer.Accepted.TheVariants.{Done, Already}
use Rattle.participants.specs.Party.{Party, do_answer, do_after, undo_after, settle_after, stands, value_of}
use Rattle.site.specs.Opening.{open_stock, open_registry}

-- a step asks for a verb, an amount and a cell
abbrev pub asks : ℕ → ℕ → ℕ → ℕ → ℕ → Entry
asks saga step verb amount cell = record { key = record { saga = saga; step = step }; request = record { verb = verb; amount = amount; a = cell; b = 0 } }

abbrev pub key : ℕ → ℕ → Key
key saga step = record { saga = saga; step = step }

abbrev pub group : Party
group = record { verbs = 1 ∷ 2 ∷ []; cells = record { number = 1; value = 3; ceiling = 4 } ∷ []; entries = [] }

-- "T7" and six zero bytes
abbrev pub T7 : ℕ
T7 = 84 * 2 ^ 56 + 55 * 2 ^ 48

abbrev pub tag : Party
tag = record { verbs = 4 ∷ 5 ∷ []; cells = record { number = T7; value = 1; ceiling = 1 } ∷ []; entries = [] }

abbrev pub feeder : Party
feeder = record { verbs = 3 ∷ []; cells = record { number = 1; value = 50; ceiling = 300 } ∷ []; entries = [] }

abbrev pub claimed : Party
claimed = do_after group (asks 5 1 1 3 1)

abbrev pub returned : Party
returned = do_after group (asks 5 1 2 1 1)

abbrev pub hung : Party
hung = do_after tag (asks 5 1 4 1 T7)

abbrev pub unclaimed : Party
unclaimed = undo_after claimed (key 5 1)

pub record WorkedExamples : Type 0 where
  pub listed_group : open_stock (record { value = 3; ceiling = 4 } ∷ []) ≡ Ok group
  pub listed_tag : open_registry (record { name = T7; value = 1 } ∷ []) ≡ Ok tag
  pub claim_3 : (do_answer group (asks 5 1 1 3 1) ≡ Ok Done) × (value_of claimed 1 ≡ Some 0)
  pub again : do_answer claimed (asks 5 1 1 3 1) ≡ Ok Already
  pub other_request : do_answer claimed (asks 5 1 1 2 1) ≡ Err OtherRequest
  pub claim_4 : do_answer group (asks 5 1 1 4 1) ≡ Err Short
  pub return_1 : (do_answer group (asks 5 1 2 1 1) ≡ Ok Done) × (value_of returned 1 ≡ Some 3)
  pub return_1_settled : value_of (settle_after returned (key 5 1)) 1 ≡ Some 4
  pub return_2 : do_answer group (asks 5 1 2 2 1) ≡ Err Above
  pub other_saga : (do_answer claimed (asks 6 1 2 1 1) ≡ Ok Done) × (do_answer claimed (asks 6 1 2 2 1) ≡ Err Above)
  pub undo_once : (stands claimed (key 5 1) ≡ true) × (value_of unclaimed 1 ≡ Some 3)
  pub undo_twice : (stands unclaimed (key 5 1) ≡ false) × (undo_after unclaimed (key 5 1) ≡ unclaimed)
  pub lift_own : do_answer hung (asks 5 2 5 1 T7) ≡ Err Above
