-- No key stands twice.
use Rattle.std.proofs.Common.{◌≡◌, Bool, true, false, not, List, [], ◌∷◌, ◌++◌, refl, arith}
use Rattle.std.proofs.lemmas.Bool.{and_parts, and_from, or_parts, or_from, not_from_false, not-true}
use Rattle.std.proofs.lemmas.Bool.Decides.{nat_tests}
use Rattle.bounded.specs.Firsts.{any, cut}
use Rattle.terms.specs.declared.Entry.{Entry}
use Rattle.participants.specs.Party.{is_key, keys_once}

same_way : (d e : Entry) → is_key d.key e ≡ false → is_key e.key d ≡ false
same_way d e h = grind (arith, nat_tests)

any_push : (p : Entry → Bool) (es : List Entry) (e : Entry) → any p es ≡ false → p e ≡ false → any p (es ++ e ∷ []) ≡ false
any_push p [] e h z = or_from _ _ z refl
any_push p (d ∷ es) e h z = let a = or_parts _ _ h in or_from _ _ a.0 (any_push p es e a.1 z)

any_cut : (p q : Entry → Bool) (es : List Entry) → any q es ≡ false → any q (cut p es) ≡ false
any_cut p q [] h = refl
any_cut p q (d ∷ es) h = let a = or_parts (q d) (any q es) h in let i = any_cut p q es a.1 in grind arith

pub once_push : (es : List Entry) (e : Entry) → keys_once es ≡ true → any (is_key e.key) es ≡ false → keys_once (es ++ e ∷ []) ≡ true
once_push [] e h z = refl
once_push (d ∷ es) e h z =
    let a = and_parts _ _ h in
    let b = or_parts _ _ z in
    and_from _ _ (not_from_false _ (any_push (is_key d.key) es e (not-true _ a.0) (same_way e d b.0))) (once_push es e a.1 b.1)

pub once_cut : (p : Entry → Bool) (es : List Entry) → keys_once es ≡ true → keys_once (cut p es) ≡ true
once_cut p [] h = refl
once_cut p (d ∷ es) h =
    let a = and_parts (not (any (is_key d.key) es)) (keys_once es) h in
    let i = once_cut p es a.1 in
    let n = not_from_false _ (any_cut p (is_key d.key) es (not-true _ a.0)) in
    let b = and_from _ _ n i in
    grind arith
