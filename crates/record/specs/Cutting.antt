-- The writer of a program that is cut.
use Rattle.std.specs.Prelude.{ℕ, zero, suc, List, Option, Some, None}
use Rattle.record.specs.Writes.{Write, done, spoiled}
use Rattle.record.specs.declared.writer.CutAfter.{CutAfter}

-- one write, with so many left before the cut: nothing once the cut is over, the one that the cut falls on, or done
abbrev pub wrote_with : Option ℕ → ℕ → Write → List ℕ → List ℕ
wrote_with None x w s = s
wrote_with (Some zero) x w s = spoiled x w s
wrote_with (Some (suc k)) x w s = done w s

-- how many are left after it
abbrev pub left_after : Option ℕ → Option ℕ
left_after None = None
left_after (Some zero) = None
left_after (Some (suc k)) = Some k

abbrev pub cut_wrote : CutAfter → Write → List ℕ → List ℕ
cut_wrote p w s = wrote_with p.left p.junk w s

abbrev pub cut_next : CutAfter → CutAfter
cut_next p = record { left = left_after p.left; junk = p.junk }

-- a writer that is cut after k writes, the next coming out as x
abbrev pub cut_writer : ℕ → ℕ → CutAfter
cut_writer k x = record { left = Some k; junk = x }
