-- Where a run of the grammar stops.
use Rattle.std.proofs.Common.{◌≡◌, ℕ, ◌⊎◌, List, [], ◌∷◌, ◌++◌, Ok, Err, Result, sym, refl, ap, ◌∙◌, inl, inr, append_assoc, arith}
use Rattle.std.proofs.lemmas.List.{append-nil}
use Rattle.std.proofs.lemmas.Bool.Decides.{nat_tests}
use Rattle.std.proofs.lemmas.Grind.{common_steps}
use Rattle.tokens.specs.Tokens.{first}
use Rattle.tokens.specs.declared.text.Token.{Token}
use Rattle.tokens.specs.declared.text.Token.TheVariants as token
use Rattle.tokens.specs.declared.text.Cause.{Cause}
use Rattle.tokens.specs.declared.text.Fault.TheVariants.{At}
use Rattle.grammar.specs.Machine.{State, Answer, step, run, at_end, onward}
use Rattle.grammar.specs.Machine as machine
use Rattle.grammar.specs.Makes.{shown, without_places}
use Rattle.grammar.proofs.SoFar.{sofar, Good}
use Rattle.grammar.proofs.Grows.{grows, on_ok}
use Rattle.grammar.proofs.Keeps.{Kept, keeps}
use Rattle.grammar.proofs.Complete.{Plain, accept}
use Rattle.grammar.proofs.Loose.{loosely, allow, loosened}

pub record Stop (end : ℕ) (s : State) (ts : List (Token × ℕ)) (c : Cause) (p : ℕ) : Type 0 where
  pub before : List (Token × ℕ)
  pub rest : List (Token × ℕ)
  pub state : State
  pub parts : ts ≡ before ++ rest
  pub leads : (xs : List Token) → accept s (without_places before ++ xs) ≡ accept state xs
  pub allows : (xs : List Token) → allow s (without_places before ++ xs) ≡ allow state xs
  pub place : (first end rest).1 ≡ p
  pub refusal : step state (first end rest).0 ≡ Err c
  pub shows : sofar state ≡ sofar s ++ without_places before
  pub good : Good state.sagas state.place
  pub kept : Kept state

end_err : (r : Result State Cause) (q : ℕ) (c : Cause) (p : ℕ) → at_end r q ≡ Err (At c p) → (r ≡ Err c) × (q ≡ p)
end_err r q c p h = grind (arith, nat_tests)

on_err : (r : Result State Cause) (q : ℕ) (k : State → Answer) (c : Cause) (p : ℕ) → onward r q k ≡ Err (At c p)
    → ((r ≡ Err c) × (q ≡ p)) ⊎ ((v : State) × (r ≡ Ok v) × (k v ≡ Err (At c p)))
on_err r q k c p h = grind (arith, nat_tests)

led : (s v : State) (t : Token) (bs xs : List Token) → shown t ≡ t ∷ [] → step s t ≡ Ok v → accept s ((shown t ++ bs) ++ xs) ≡ accept v (bs ++ xs)
led s v t bs xs h g = grind (arith, nat_tests)

led_loosely : (s v : State) (t : Token) (bs xs : List Token) → shown t ≡ t ∷ [] → loosely s t ≡ Ok v → allow s ((shown t ++ bs) ++ xs) ≡ allow v (bs ++ xs)
led_loosely s v t bs xs h g = grind (arith, nat_tests)

pub stops : (end : ℕ) (ts : List (Token × ℕ)) (s : State) (c : Cause) (p : ℕ) → Plain ts → Good s.sagas s.place → Kept s → run end s ts ≡ Err (At c p) → Stop end s ts c p
stops end [] s c p pl g k h =
    let z = end_err (step s token.End) end c p h in
    record { before = []; rest = []; state = s; parts = refl; leads = λ xs. refl; allows = λ xs. refl; place = z.1; refusal = z.0; shows = sym (append-nil (sofar s)); good = g; kept = k }
stops end (t ∷ ts) s c p pl g k h = elim (on_err (step s t.0) t.1 (λ u. run end u ts) c p h) [
  | inl z ↦ record { before = []; rest = t ∷ ts; state = s; parts = refl; leads = λ xs. refl; allows = λ xs. refl; place = z.1; refusal = z.0; shows = sym (append-nil (sofar s)); good = g; kept = k }
  | inr z ↦
      let v = z.0 in
      let w = grows s.layout s.sagas s.place t.0 v g z.1 in
      let m = stops end ts v c p pl.1 w.1 (keeps s.layout s.sagas s.place t.0 v g k z.1) z.2 in
      record {
        before = t ∷ m.before;
        rest = m.rest;
        state = m.state;
        parts = ap (λ (xs : List (Token × ℕ)). t ∷ xs) m.parts;
        leads = λ xs. led s v t.0 (without_places m.before) xs pl.0 z.1 ∙ m.leads xs;
        allows = λ xs. led_loosely s v t.0 (without_places m.before) xs pl.0 (loosened s.layout s.sagas s.place t.0 v z.1) ∙ m.allows xs;
        place = m.place;
        refusal = m.refusal;
        shows =
            m.shows ∙ ap (λ (xs : List Token). xs ++ without_places m.before) w.0
            ∙ append_assoc (sofar s) (shown t.0) (without_places m.before);
        good = m.good;
        kept = m.kept;
      }
]

-- a whole run keeps the limits
pub ended : (end : ℕ) (ts : List (Token × ℕ)) (s u : State) → Good s.sagas s.place → Kept s → run end s ts ≡ Ok u → Kept u × (u.place ≡ machine.sagas)
ended end [] s u g k h = grind (arith, nat_tests, common_steps, append_assoc)
ended end (t ∷ ts) s u g k h =
    let r = on_ok (step s t.0) t.1 (λ v. run end v ts) u h in
    let w = grows s.layout s.sagas s.place t.0 r.0 g r.1 in
    ended end ts r.0 u w.1 (keeps s.layout s.sagas s.place t.0 r.0 g k r.1) r.2
