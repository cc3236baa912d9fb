-- Each call keeps V + T + G ≤ C at every cell.
use Rattle.std.proofs.Common.{◌≡◌, ℕ, ◌+◌, ◌≤◌, true, false, ltb, List, [], ◌∷◌, ◌++◌, map, refl, ⊎_elim, arith}
use Rattle.std.proofs.lemmas.List.Sums.{sum_by_push}
use Rattle.std.proofs.lemmas.Bool.{and_parts, and_from, and_cases, or_parts, le-leb, ltb-false}
use Rattle.bounded.specs.Firsts.{any, every, pick, cut}
use Rattle.bounded.proofs.Laws.{sum_cut}
use Rattle.terms.specs.declared.Key.{Key}
use Rattle.terms.specs.declared.Request.{Request}
use Rattle.terms.specs.declared.Entry.{Entry}
use Rattle.participants.specs.declared.cell.Cell.{Cell}
use Rattle.participants.specs.declared.cell.Side.{Side}
use Rattle.participants.specs.declared.cell.Side.TheVariants.{Take, Give}
use Rattle.participants.specs.Effects.{takes, gives, effect, taken, given}
use Rattle.participants.specs.Party.{is_key, no_entry, short, above, lowered, raised, within_ceiling, within_ceilings, Raisable}
use Rattle.participants.specs.Laws.{within}

-- one cell, an entry joining
module _ (es : List Entry) (e : Entry) (x : Cell) where
  not_above : within_ceiling es x ≡ true → above es e.request x ≡ false → x.value + (taken x.number es + given x.number es) + gives x.number e.request ≤ x.ceiling
  not_above w h = let k = within es x w in ⊎_elim (λ (z : ltb 0 (gives x.number e.request) ≡ false). omega (arith, ltb-false 0 (gives x.number e.request) z, k.low)) (λ (z : ltb x.ceiling (x.value + (taken x.number es + given x.number es) + gives x.number e.request) ≡ false). ltb-false x.ceiling (x.value + (taken x.number es + given x.number es) + gives x.number e.request) z) (and_cases _ _ h)

  cell_joined : within_ceiling es x ≡ true → short e.request x ≡ false → above es e.request x ≡ false → within_ceiling (es ++ e ∷ []) (lowered e.request x) ≡ true
  cell_joined w s h =
      let k = within es x w in
      let t = sum_by_push (λ (d : Entry). takes x.number d.request) es e in
      let g = sum_by_push (λ (d : Entry). gives x.number d.request) es e in
      and_from _ _ (le-leb _ _ (omega (arith, t, g, ltb-false _ _ s, not_above w h))) (le-leb _ _ k.small)

pub joined_sound : (es : List Entry) (e : Entry) (cells : List Cell) → within_ceilings cells es ≡ true → any (short e.request) cells ≡ false → any (above es e.request) cells ≡ false → within_ceilings (map (lowered e.request) cells) (es ++ e ∷ []) ≡ true
unfolding within_ceilings
joined_sound es e [] w s h = refl
joined_sound es e (x ∷ cells) w s h =
    let a = and_parts _ _ w in
    let b = or_parts _ _ s in
    let c = or_parts _ _ h in
    and_from _ _ (cell_joined es e x a.0 b.0 c.0) (joined_sound es e cells a.1 b.1 c.1)

side_few : (s : Side) (c : ℕ) (q : Request) → effect s c q ≤ takes c q + gives c q
side_few Take c q = omega arith
side_few Give c q = omega arith

-- one cell, an entry leaving
module _ (es : List Entry) (k : Key) (there : any (is_key k) es ≡ true) (s : Side) (x : Cell) where
  room_left : within_ceiling es x ≡ true → x.value + effect s x.number (pick (is_key k) no_entry es).request + (taken x.number (cut (is_key k) es) + given x.number (cut (is_key k) es)) ≤ x.ceiling
  room_left w =
      omega (
        arith,
        (within es x w).low,
        side_few s x.number (pick (is_key k) no_entry es).request,
        sum_cut (is_key k) (λ (d : Entry). takes x.number d.request) no_entry es there,
        sum_cut (is_key k) (λ (d : Entry). gives x.number d.request) no_entry es there,
      )

module _ (es : List Entry) (k : Key) (there : any (is_key k) es ≡ true) (s : Side) where
  pub left_sound : (cells : List Cell) → within_ceilings cells es ≡ true → within_ceilings (map (raised s (pick (is_key k) no_entry es).request) cells) (cut (is_key k) es) ≡ true
  unfolding within_ceilings
  left_sound [] w = refl
  left_sound (x ∷ cells) w =
      let a = and_parts _ _ w in
      and_from _ _ (and_from _ _ (le-leb _ _ (room_left es k there s x a.0)) (le-leb _ _ (within es x a.0).small)) (left_sound cells a.1)

  pub raisable : (cells : List Cell) → within_ceilings cells es ≡ true → Raisable s (pick (is_key k) no_entry es).request cells
  unfolding within_ceilings Raisable
  raisable [] w = tt
  raisable (x ∷ cells) w =
      let a = and_parts (within_ceiling es x) (every (within_ceiling es) cells) w in
      (omega (arith, room_left es k there s x a.0, (within es x a.0).small), raisable cells a.1)
