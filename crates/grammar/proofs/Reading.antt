-- A text is accepted exactly if it is a script; a refusal tells its first fault.
use Rattle.std.proofs.Common.{◌≡◌, ℕ, zero, suc, ◌+◌, ◌-◌, ◌<◌, ◌≤◌, List, [], ◌∷◌, ◌++◌, length, take, Ok, Err, vec_items, Result, sym, refl, ap, ◌∙◌, subst, inl, inr, arith, length-take}
use Rattle.std.proofs.lemmas.Bool.Decides.{nat_tests}
use Rattle.std.proofs.lemmas.List.{take_all}
use Rattle.std.proofs.lemmas.Bool.{cond_both, lt-ltb, le-ltb, cases_lt}
use Rattle.tokens.specs.Bytes.{member}
use Rattle.tokens.specs.Readers.{code_of}
use Rattle.tokens.specs.Tokens.{lex, lead, tokens_from, first}
use Rattle.tokens.specs.declared.text.Class.TheVariants as class
use Rattle.tokens.specs.declared.text.Token.{Token}
use Rattle.tokens.specs.declared.text.Token.TheVariants as token
use Rattle.tokens.specs.declared.text.Cause.{Cause}
use Rattle.tokens.specs.declared.text.Cause.TheVariants.{Grammar}
use Rattle.tokens.specs.declared.text.Fault.{Fault}
use Rattle.tokens.specs.declared.text.Fault.TheVariants.{Memory, At}
use Rattle.tokens.proofs.Lexing.{lead_not_end}
use Rattle.grammar.specs.Machine.{Layout, SagaItems, State, Answer, at, step, run, start}
use Rattle.grammar.specs.Machine as machine
use Rattle.grammar.specs.Makes.{shown, without_places}
use Rattle.grammar.specs.Judged.{judge, outcome, too_long, finished, Meets}
use Rattle.grammar.specs.Read.{IsScript, judged, Begins, NotAllowed, Lacking, NumberFits, FaultyToken, FirstFault, Reading}
use Rattle.grammar.specs.Lists.{lists_of, sagas_of}
use Rattle.grammar.specs.declared.Script.{Script}
use Rattle.grammar.proofs.Grows.{accepted_is_made}
use Rattle.grammar.proofs.Complete.{Plain, accept, script_accepted, made_is_accepted}
use Rattle.grammar.proofs.Stops.{Stop, stops, ended}
use Rattle.grammar.proofs.Beginnings.{begins}
use Rattle.grammar.proofs.Numbers.{number_fits}
use Rattle.grammar.proofs.Loose.{loosely, allow, lacks, script_allowed}

-- the tokens of a text have no End among them
shown_some : (t : Token) → (t ≡ token.End → ⊥) → shown t ≡ t ∷ []
shown_some t e = grind arith

plain : (k at : ℕ) (s : List ℕ) → Plain (lex k at s)
plain k at [] = tt
plain zero at (b ∷ s) =
    cond_both (member class.Blank b) _ _ Plain (λ _. plain zero (at + 1) s)
    (λ _. (shown_some (lead (b ∷ s)).0 (lead_not_end b s), plain ((lead (b ∷ s)).1 - 1) (at + 1) s))
plain (suc k) at (b ∷ s) = plain k (at + 1) s

pub long : (text : List ℕ) → 16384 < length text → judge text ≡ too_long (outcome (take 16384 text))
unfolding judge
long text h = rw (lt-ltb 16384 (length text) h) refl

pub short : (text : List ℕ) → length text ≤ 16384 → judge text ≡ outcome text
unfolding judge
short text h = rw (le-ltb 16384 (length text) h) refl

apart : {f : Fault} {x : State} → ◌≡◌ {A = Result State Fault} (Err f) (Ok x) → ⊥
apart e = grind arith

apart_cause : {f : Cause} {x : State} → ◌≡◌ {A = Result State Cause} (Err f) (Ok x) → ⊥
apart_cause e = grind arith

-- an accepted text is a script
accepted : (text : List ℕ) (l : Layout) (d : List SagaItems) → length text ≤ 16384 → outcome text ≡ Ok (at l d machine.sagas) → IsScript text l d
accepted text l d h e =
    record {
      short = h;
      made = accepted_is_made (length text) (tokens_from text 0) (at l d machine.sagas) e;
      valid = (ended (length text) (tokens_from text 0) start (at l d machine.sagas) refl tt e).0;
    }

script_outcome : (text : List ℕ) (l : Layout) (d : List SagaItems) → IsScript text l d → outcome text ≡ Ok (at l d machine.sagas)
script_outcome text l d s = made_is_accepted (length text) (tokens_from text 0) l d (plain 0 0 text) s.valid s.made

script_judged : (text : List ℕ) (l : Layout) (d : List SagaItems) → IsScript text l d → judge text ≡ Ok (at l d machine.sagas)
script_judged text l d s = short text s.short ∙ script_outcome text l d s

-- no more than 16,384 bytes are accepted
never_long : (text : List ℕ) (s : State) → judge text ≡ Ok s → length text ≤ 16384
never_long text s h =
    elim (cases_lt 16384 (length text)) [ inl y ↦ absurd (not_long (outcome (take 16384 text)) s (sym (long text y) ∙ h)) | inr y ↦ y ]
  where
    not_long : (a : Answer) (s : State) → too_long a ≡ Ok s → ⊥
    not_long (Ok x) s e = apart e
    not_long (Err f) s e = apart e

-- a token that the grammar does not take in a state does not come there in any script
stuck : (s : State) (t : Token) (us : List Token) (c : Cause) → step s t ≡ Err c → (t ≡ token.End → us ≡ []) → accept s (shown t ++ us) ≡ Err c
stuck s t us c h g = grind (arith, nat_tests)

not_allowed : {end : ℕ} {ts : List (Token × ℕ)} {c : Cause} {p : ℕ} (m : Stop end start ts c p) → NotAllowed (without_places m.before) (first end m.rest).0
not_allowed {end = end} {c = c} m = λ l d v a.
    apart_cause
    (sym (stuck m.state (first end m.rest).0 a.rest c m.refusal a.end)
    ∙ sym (m.leads (shown (first end m.rest).0 ++ a.rest))
    ∙ ap (λ (xs : List Token). accept start xs) (sym a.parts)
    ∙ script_accepted l d v)

stuck_loosely : (s : State) (t : Token) (us : List Token) (c : Cause) → loosely s t ≡ Err c → (t ≡ token.End → us ≡ []) → allow s (shown t ++ us) ≡ Err c
stuck_loosely s t us c h g = grind (arith, nat_tests)

lacking : {end : ℕ} {ts : List (Token × ℕ)} {c : Cause} {p : ℕ} (m : Stop end start ts c p) → c ≡ Grammar → Lacking (without_places m.before) (first end m.rest).0
lacking {end = end} m e = λ l d n a.
    apart_cause
    (sym (stuck_loosely m.state (first end m.rest).0 a.rest Grammar
    (lacks m.state.layout m.state.sagas m.state.place (first end m.rest).0 (m.refusal ∙ ap (λ (x : Cause). Err x) e)) a.end)
    ∙ sym (m.allows (shown (first end m.rest).0 ++ a.rest))
    ∙ ap (λ (xs : List Token). allow start xs) (sym a.parts)
    ∙ script_allowed l d n)

-- the fault of what is judged
faulty : (text : List ℕ) (c : Cause) (p : ℕ) → outcome (judged text) ≡ Err (At c p) → FaultyToken text (code_of c) p
faulty text c p h =
    let m = stops (length (judged text)) (tokens_from (judged text) 0) start c p (plain 0 0 (judged text)) refl tt h in
    let t = (first (length (judged text)) m.rest).0 in
    let P : List Token → Type 0 = λ xs. Begins xs in
    let N : List Token → Type 0 = λ xs. NumberFits xs t (code_of c) in
    let L : List Token → Type 0 = λ xs. Lacking xs t in
    record {
      before = m.before;
      rest = m.rest;
      parts = m.parts;
      place = m.place;
      begins = subst P m.shows (begins m.state.layout m.state.sagas m.state.place m.good m.kept);
      refused = not_allowed m;
      number =
          subst N m.shows
          (number_fits m.state.layout m.state.sagas m.state.place t c m.good m.kept (λ e. subst L (sym m.shows) (lacking m e)) m.refusal);
    }

fault_same : {c e : Cause} {p q : ℕ} → ◌≡◌ {A = Answer} (Err (At c p)) (Err (At e q)) → (code_of e ≡ code_of c) × (q ≡ p)
fault_same h = grind (arith, nat_tests)

-- past 16,384 bytes
over : (text : List ℕ) (a : Answer) (c : Cause) (p : ℕ) → 16384 < length text → outcome (judged text) ≡ a → too_long a ≡ Err (At c p) → FirstFault text (code_of c) p
over text (Ok s) c p y e h =
    let w = ended (length (judged text)) (tokens_from (judged text) 0) start s refl tt e in
    let same : s ≡ at s.layout s.sagas machine.sagas = ap (λ (q : machine.Place). at s.layout s.sagas q) w.1 in
    let n : length (judged text) ≤ 16384 = omega (arith, length-take 16384 text) in
    inr (record {
      long = y;
      site = s.layout;
      sagas = s.sagas;
      script = accepted (judged text) s.layout s.sagas n (e ∙ ap (λ (u : State). Ok u) same);
      number = (fault_same h).0;
      place = (fault_same h).1;
    })
over text (Err f) c p y e h = inl (faulty text c p (e ∙ h))

pub first_fault : (text : List ℕ) (c : Cause) (p : ℕ) → judge text ≡ Err (At c p) → FirstFault text (code_of c) p
first_fault text c p h =
    elim (cases_lt 16384 (length text)) [
      | inl y ↦ over text (outcome (judged text)) c p y refl (sym (long text y) ∙ h)
      | inr y ↦ inl (faulty text c p (ap outcome (take_all 16384 text y) ∙ sym (short text y) ∙ h))
    ]

pub reading : (text : List ℕ) (r : Result Script Fault) → Meets r (judge text) (λ s. Ok (finished s)) → Reading text r
reading text (Ok s) m =
    let h = never_long text (finished s) m.met in (
      accepted text (lists_of s.site) (sagas_of (vec_items s.sagas)) h (sym (short text h) ∙ m.met),
      λ l d i. let e = sym (script_judged text l d i) ∙ m.met in (ap (λ (u : State). u.layout) (ok_same e), ap (λ (u : State). u.sagas) (ok_same e)),
    )
  where
    ok_same : {x y : State} → ◌≡◌ {A = Answer} (Ok x) (Ok y) → x ≡ y
    ok_same e = cc
reading text (Err Memory) m = tt
reading text (Err (At c p)) m = (λ l d i. apart (sym m.met ∙ script_judged text l d i), first_fault text c p m.met)
