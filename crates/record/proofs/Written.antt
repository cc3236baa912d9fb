-- What the two writers leave of a list of writes.
use Rattle.std.proofs.Common.{◌≡◌, ℕ, zero, suc, cond, eqb, None, List, [], ◌∷◌, length, refl, ◌∙◌}
use Rattle.std.proofs.lemmas.Bool.{cond_both, eqb-true}
use Rattle.record.specs.declared.Record.{Record}
use Rattle.record.specs.Slot.{slot_of, encoded}
use Rattle.record.specs.Writes.{Write, done, spoiled, cut_after, written, slot_writes}
use Rattle.record.specs.Cutting.{cut_wrote, cut_next, cut_writer}
use Rattle.record.proofs.Cuts.{all, all_whole, length_slot_of}

-- an uncut writer does all of them
pub written_all : {P : Type 0} (p : P) (ws : List Write) (s : List ℕ) → written (λ (_ : P) w t. done w t) (λ q. q) p ws s ≡ all ws s
written_all p [] s = refl
written_all p (w ∷ ws) s = written_all p ws (done w s)

pub encode_all : {P : Type 0} (p : P) (r : Record) (s : List ℕ) → cond (eqb (length s) 32) (written (λ (_ : P) w t. done w t) (λ q. q) p (slot_writes (slot_of r)) s) s ≡ encoded r s
encode_all p r s =
    cond_both (eqb (length s) 32) (written (λ _ w t. done w t) (λ q. q) p (slot_writes (slot_of r)) s) s
    (λ (t : List ℕ). t ≡ encoded r s)
    (λ e. written_all p (slot_writes (slot_of r)) s ∙ all_whole (slot_of r) s (length_slot_of r) (eqb-true (length s) 32 e) ∙ rw e refl)
    (λ e. rw e refl)

-- a writer that is cut does those before the cut
pub written_over : (x : ℕ) (ws : List Write) (s : List ℕ) → written cut_wrote cut_next (record { left = None; junk = x }) ws s ≡ s
written_over x [] s = refl
written_over x (w ∷ ws) s = written_over x ws s

pub written_cut : (k x : ℕ) (ws : List Write) (s : List ℕ) → written cut_wrote cut_next (cut_writer k x) ws s ≡ cut_after k x ws s
written_cut k x [] s = refl
written_cut zero x (w ∷ ws) s = written_over x ws (spoiled x w s)
written_cut (suc k) x (w ∷ ws) s = written_cut k x ws (done w s)
