-- What the calls of a book leave, from what its parts leave.
use Rattle.std.proofs.Common.{◌≡◌, ℕ, Bool, true, false, List, [], ◌∷◌, ◌++◌, map, is_some, Some, None, Option, Ok, sym, refl, ap, ◌∙◌, subst, arith}
use Rattle.std.specs.List.{slice_get, remove}
use Rattle.std.proofs.lemmas.Option.{slice_get-get_or}
use Rattle.std.proofs.lemmas.Bool.{lt-ltb, cond-true, cond-false}
use Rattle.bounded.specs.Held.{push_after}
use Rattle.bounded.specs.Firsts.{any, pick, place, cut, first}
use Rattle.bounded.proofs.Laws.{found, place_none}
use Rattle.terms.specs.declared.Key.{Key}
use Rattle.terms.specs.declared.Entry.{Entry}
use Rattle.participants.specs.declared.cell.Cell.{Cell}
use Rattle.participants.specs.declared.cell.Side.{Side}
use Rattle.participants.specs.declared.answer.Accepted.TheVariants.{Done}
use Rattle.participants.specs.Party.{Party, is_key, no_entry, lowered, raised, do_answer, do_after, after_answer, taken_off, within_ceilings, keys_once, Raisable}
use Rattle.participants.proofs.Once.{once_push, once_cut}
use Rattle.participants.proofs.Judged.{accepts, same_party}
use Rattle.participants.proofs.Sound.{joined_sound, left_sound, raisable}

module _ (p : Party) (e : Entry) (cs : List Cell) (es : List Entry) (yes : Ok Done ≡ do_answer p e) (low : cs ≡ map (lowered e.request) p.cells) (joined : es ≡ push_after 64 p.entries e) where
  end : es ≡ p.entries ++ e ∷ []
  end = joined ∙ cond-true _ _ _ (lt-ltb _ _ (accepts p e yes).room)

  pub performed : ◌≡◌ {A = Party} (record { verbs = p.verbs; cells = cs; entries = es }) (do_after p e)
  performed = same_party p.verbs p.verbs cs (map (lowered e.request) p.cells) es (p.entries ++ e ∷ []) refl low end ∙ ap (λ a. after_answer a p e) yes

  pub performed_once : keys_once p.entries ≡ true → keys_once es ≡ true
  performed_once o = ap keys_once end ∙ once_push p.entries e o (accepts p e yes).fresh

  pub performed_sound : within_ceilings p.cells p.entries ≡ true → within_ceilings cs es ≡ true
  performed_sound w = ap (λ t. within_ceilings t es) low ∙ ap (within_ceilings (map (lowered e.request) p.cells)) end ∙ joined_sound p.entries e p.cells w (accepts p e yes).covered (accepts p e yes).below

module _ (p : Party) (k : Key) (s : Side) (i : ℕ) (at : place (is_key k) p.entries ≡ Some i) (e : Entry) (read : Some e ≡ slice_get p.entries i) where
  pub entry_is : e ≡ pick (is_key k) no_entry p.entries
  entry_is =
      let f = found (is_key k) i p.entries at in
      let n = slice_get-get_or p.entries i no_entry f.within in
      let r = f.read no_entry in
      cc

  pub may_raise : within_ceilings p.cells p.entries ≡ true → Raisable s e.request p.cells
  may_raise w = subst (λ (x : Entry). Raisable s x.request p.cells) (sym entry_is) (raisable p.entries k (found (is_key k) i p.entries at).there s p.cells w)

  module _ (cs : List Cell) (es : List Entry) (high : cs ≡ map (raised s e.request) p.cells) (left : es ≡ remove p.entries i) where
    high' : cs ≡ map (raised s (pick (is_key k) no_entry p.entries).request) p.cells
    high' = high ∙ ap (λ (x : Entry). map (raised s x.request) p.cells) entry_is

    left' : es ≡ cut (is_key k) p.entries
    left' = left ∙ (found (is_key k) i p.entries at).without

    pub left_off : ◌≡◌ {A = Party} (record { verbs = p.verbs; cells = cs; entries = es }) (taken_off s p k)
    left_off = same_party p.verbs p.verbs cs _ es _ refl high' left' ∙ sym (cond-true _ _ _ (found (is_key k) i p.entries at).there)

    pub left_off_once : keys_once p.entries ≡ true → keys_once es ≡ true
    left_off_once o = ap keys_once left' ∙ once_cut (is_key k) p.entries o

    pub left_off_sound : within_ceilings p.cells p.entries ≡ true → within_ceilings cs es ≡ true
    left_off_sound w = ap (λ t. within_ceilings t es) high' ∙ ap (within_ceilings (map (raised s (pick (is_key k) no_entry p.entries).request) p.cells)) left' ∙ left_sound p.entries k (found (is_key k) i p.entries at).there s p.cells w

pub there : (k : Key) (es : List Entry) (i : ℕ) → place (is_key k) es ≡ Some i → any (is_key k) es ≡ true
there k es i h = (found (is_key k) i es h).there

-- an entry, or none, says whether the key stands
pub some_stands : (p : Entry → Bool) (es : List Entry) → is_some (first p es) ≡ any p es
some_stands p [] = refl
some_stands p (e ∷ es) = let i = some_stands p es in grind arith

pub not_there : (p : Party) (k : Key) (s : Side) → ((i : ℕ) → place (is_key k) p.entries ≡ Some i → ⊥) → (any (is_key k) p.entries ≡ false) × (taken_off s p k ≡ p)
not_there p k s h = go (place (is_key k) p.entries) refl
  where
    go : (o : Option ℕ) → place (is_key k) p.entries ≡ o → (any (is_key k) p.entries ≡ false) × (taken_off s p k ≡ p)
    go (Some i) e = absurd (h i e)
    go None e = let n = place_none (is_key k) 0 p.entries e in (n, cond-false _ _ _ n)
