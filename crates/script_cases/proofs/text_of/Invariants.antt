use Rattle.std.proofs.Common.{◌≤◌, vec_len}
use Rattle.script_cases.proofs.text_of.Given as goal

abbrev pub invariant-loop-b : goal.invariant-loop-b
invariant-loop-b l = l.b-index ≤ vec_len l.text
