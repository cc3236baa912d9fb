-- How words are spelt.
use Rattle.std.proofs.Common.{◌≡◌, ℕ, true, cond, List, [], ◌∷◌, length, get_or, sym, refl, ap, ◌∙◌, arith}
use Rattle.std.proofs.lemmas.Grind.{common_steps}
use Rattle.std.proofs.lemmas.Bool.{cond_both}
use Rattle.std.proofs.lemmas.Slice.Eq.{bytes_eq-Decides}
use Rattle.tokens.specs.Words.{same, word_of, spelling, WordsAreSpelt}
use Rattle.tokens.specs.declared.text.Word.{Word}
use Rattle.tokens.specs.declared.text.Word.TheVariants.{Groups, Feeders, Tags, Saga, Claim, Return, Move, Hang, Lift, Try, Else, Of, From, To, Other}

same_bytes : (s w : List ℕ) → same s w ≡ true → s ≡ w
unfolding same
same_bytes s w h = (bytes_eq-Decides s w).0 h

there : (w : Word) → word_of (spelling w) ≡ w
unfolding same
there Groups = refl
there Feeders = refl
there Tags = refl
there Saga = refl
there Claim = refl
there Return = refl
there Move = refl
there Hang = refl
there Lift = refl
there Try = refl
there Else = refl
there Of = refl
there From = refl
there To = refl
there Other = refl

spelt : (s : List ℕ) (w v u : Word) → (u ≡ w → (w ≡ Other → ⊥) → s ≡ spelling w) → cond (same s (spelling v)) v u ≡ w → (w ≡ Other → ⊥) → s ≡ spelling w
spelt s w v u k =
    cond_both (same s (spelling v)) v u (λ x. x ≡ w → (w ≡ Other → ⊥) → s ≡ spelling w)
    (λ h e n. same_bytes s (spelling v) h ∙ ap spelling e) (λ _. k)

back : (s : List ℕ) (w : Word) → word_of s ≡ w → (w ≡ Other → ⊥) → s ≡ spelling w
back s w =
    let then = spelt s w in
    then Groups _ (then Feeders _ (then Tags _ (then Saga _ (then Claim _ (then Return _ (then Move _
    (then Hang _ (then Lift _ (then Try _ (then Else _ (then Of _ (then From _ (then To _ (λ e n. absurd (n (sym e))))))))))))))))

-- a text of four to seven bytes, each by its place
pub four : (s : List ℕ) → length s ≡ 4 → s ≡ get_or s 0 0 ∷ get_or s 1 0 ∷ get_or s 2 0 ∷ get_or s 3 0 ∷ []
four s h = grind (arith, common_steps)

pub five : (s : List ℕ) → length s ≡ 5 → s ≡ get_or s 0 0 ∷ get_or s 1 0 ∷ get_or s 2 0 ∷ get_or s 3 0 ∷ get_or s 4 0 ∷ []
five [] h = absurd (omega arith)
five (b ∷ s) h = ap (λ (t : List ℕ). b ∷ t) (four s (omega arith))

pub six : (s : List ℕ) → length s ≡ 6 → s ≡ get_or s 0 0 ∷ get_or s 1 0 ∷ get_or s 2 0 ∷ get_or s 3 0 ∷ get_or s 4 0 ∷ get_or s 5 0 ∷ []
six [] h = absurd (omega arith)
six (b ∷ s) h = ap (λ (t : List ℕ). b ∷ t) (five s (omega arith))

pub seven : (s : List ℕ) → length s ≡ 7 → s ≡ get_or s 0 0 ∷ get_or s 1 0 ∷ get_or s 2 0 ∷ get_or s 3 0 ∷ get_or s 4 0 ∷ get_or s 5 0 ∷ get_or s 6 0 ∷ []
seven [] h = absurd (omega arith)
seven (b ∷ s) h = ap (λ (t : List ℕ). b ∷ t) (six s (omega arith))

pub words_are_spelt : WordsAreSpelt
words_are_spelt = record { there = there; back = back }
