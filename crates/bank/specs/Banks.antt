-- A call on the participant of an index, the first being 1. Where there is none, nothing stands and nothing is known.
use Rattle.std.specs.Prelude.{ℕ, zero, suc, ◌-◌, min, cond, List, [], ◌∷◌, length, ◌==◌, slice_index_or}
use Rattle.participants.specs.Party.{Party}

-- a participant with no verbs and no cells: it refuses every request with 40
abbrev pub nobody : Party
nobody = record { verbs = []; cells = []; entries = [] }

-- how many participants an index of one byte can name
abbrev pub count_of : List Party → ℕ
count_of ps = min 255 (length ps)

abbrev pub party_at : List Party → ℕ → Party
party_at ps w = cond (w == 0) nobody (slice_index_or ps (w - 1) nobody)

abbrev pub change : {X : Type 0} → List X → ℕ → (X → X) → List X
change [] i f = []
change (x ∷ xs) zero f = f x ∷ xs
change (x ∷ xs) (suc i) f = x ∷ change xs i f

-- the call f reaches the participant of the index w alone
abbrev pub change_at : List Party → ℕ → (Party → Party) → List Party
change_at ps w f = cond (w == 0) ps (change ps (w - 1) f)
