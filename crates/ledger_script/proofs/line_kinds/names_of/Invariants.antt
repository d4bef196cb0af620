-- The invariant and the measure of the loop of `names_of` in src/line_kinds.rt.
use Rattle.std.proofs.Common.{length}
use Rattle.ledger_script.proofs.FieldSplits.{HaveRead}
use Rattle.ledger_script.proofs.line_kinds.names_of.Given as goal

abbrev pub invariant-loop-field : goal.invariant-loop-field
invariant-loop-field l = HaveRead l.text l.rest l.names.items

abbrev pub decreases-loop-field : goal.decreases-loop-field
decreases-loop-field l = length l.rest
