-- What is written of an event, or of nothing, is read back.
use Rattle.std.proofs.Common.{◌≡◌, ℕ, Some, refl}
use Rattle.terms.specs.declared.Refusal.{Refusal}
use Rattle.terms.specs.declared.Refusal.TheVariants.{Unfit}
use Rattle.law.specs.declared.event.Event.{Event}
use Rattle.law.specs.declared.event.Event.TheVariants.{Begin, Refused}
use Rattle.law.specs.Events.{event_of, record_of, ReadsBack}

refused_said : (s k : ℕ) (c : Refusal) → event_of (record_of s (Refused k c)) ≡ Some (Refused k c)
refused_said s k Unfit = refl
refused_said s k c = refl

said : (s : ℕ) (e : Event) → event_of (record_of s e) ≡ Some e
said s (Refused k c) = refused_said s k c
said s e = refl

said_of : (s : ℕ) (e : Event) → (record_of s e).saga ≡ s
said_of s Begin = refl
said_of s e = refl

pub reads_back : ReadsBack
reads_back = record { says = said; of_saga = said_of; says_nothing = λ s. refl; nothing_of_saga = λ s. refl }
