-- The list that a Bounded stands for.
use Rattle.std.specs.Prelude.{ℕ, ◌-◌, cond, List, [], ◌∷◌, ◌++◌, length, take, nat_lt}
use Rattle.bounded.specs.declared.Bounded.{Bounded}

abbrev pub held : {T : Type 0} {n : ℕ} → Bounded T n → List T
held b = take b.len b.items

-- at the end, where there is room
abbrev pub push_after : {T : Type 0} → ℕ → List T → T → List T
push_after n xs x = cond (nat_lt (length xs) n) (xs ++ x ∷ []) xs

abbrev pub pop_after : {T : Type 0} → List T → List T
pop_after xs = take (length xs - 1) xs
