-- What an answer of `do` says.
use Rattle.std.proofs.Common.{◌≡◌, ℕ, ◌<◌, Bool, true, false, cond, not, leb, List, [], ◌∷◌, length, Some, None, Ok, Err, refl, ap, ◌∙◌, arith}
use Rattle.std.proofs.lemmas.Bool.{leb-false}
use Rattle.bounded.specs.Firsts.{any, pick, first}
use Rattle.terms.specs.declared.Entry.{Entry}
use Rattle.participants.specs.declared.cell.Cell.{Cell}
use Rattle.participants.specs.declared.answer.Accepted.TheVariants.{Done, Already}
use Rattle.terms.specs.declared.Refusal.TheVariants.{Unfit, OtherRequest, Full, Short, Above}
use Rattle.participants.specs.Effects.{fitting}
use Rattle.participants.specs.Party.{Party, is_key, same_request, short, above, new_answer, do_answer}

-- the first that passes is the one picked
first_some : {X : Type 0} (p : X → Bool) (d s : X) (xs : List X) → first p xs ≡ Some s → (any p xs ≡ true) × (pick p d xs ≡ s)
first_some p d s [] h = grind arith
first_some p d s (x ∷ xs) h = let i = first_some p d s xs in grind arith

first_gone : {X : Type 0} (p : X → Bool) (xs : List X) → first p xs ≡ None → any p xs ≡ false
first_gone p [] h = refl
first_gone p (x ∷ xs) h = let i = first_gone p xs in grind arith

module _ (p : Party) (e : Entry) where
  pub standing_judged : (s : Entry) → first (is_key e.key) p.entries ≡ Some s → do_answer p e ≡ cond (same_request s.request e.request) (Ok Already) (Err OtherRequest)
  unfolding do_answer
  standing_judged s h = let f = first_some (is_key e.key) e s p.entries h in rw (f.0, f.1) refl

  pub new_judged : first (is_key e.key) p.entries ≡ None → do_answer p e ≡ new_answer p.verbs p.cells p.entries e.request
  unfolding do_answer
  new_judged h = rw (first_gone (is_key e.key) p.entries h) refl

chain : (k s n f h o : Bool) → Ok Done ≡ cond k (cond s (Ok Already) (Err OtherRequest)) (cond n (Err Unfit) (cond f (Err Full) (cond h (Err Short) (cond o (Err Above) (Ok Done))))) → (k ≡ false) × (f ≡ false) × (h ≡ false) × (o ≡ false)
chain k s n f h o e = grind arith

-- what an accepted request has behind it
pub record Admitted (cells : List Cell) (es : List Entry) (e : Entry) : Type 0 where
  pub fresh : any (is_key e.key) es ≡ false
  pub room : length es < 64
  pub covered : any (short e.request) cells ≡ false
  pub below : any (above es e.request) cells ≡ false

pub accepts : (p : Party) (e : Entry) → Ok Done ≡ do_answer p e → Admitted p.cells p.entries e
unfolding do_answer
accepts p e h =
    let r = chain (any (is_key e.key) p.entries) (same_request (pick (is_key e.key) e p.entries).request e.request) (not (fitting p.verbs p.cells e.request)) (leb 64 (length p.entries)) (any (short e.request) p.cells) (any (above p.entries e.request) p.cells) h in
    record { fresh = r.0; room = leb-false _ _ r.1; covered = r.2; below = r.3 }

pub same_party : (v w : List ℕ) (cs ds : List Cell) (es fs : List Entry) → v ≡ w → cs ≡ ds → es ≡ fs → ◌≡◌ {A = Party} (record { verbs = v; cells = cs; entries = es }) (record { verbs = w; cells = ds; entries = fs })
same_party v w cs ds es fs a b c = ap (λ t. record { verbs = t; cells = cs; entries = es }) a ∙ ap (λ t. record { verbs = w; cells = t; entries = es }) b ∙ ap (λ t. record { verbs = w; cells = ds; entries = t }) c
