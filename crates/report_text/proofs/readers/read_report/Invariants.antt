-- The invariant and the measure of the loop of `read_report` in src/readers.rt.
use Rattle.std.proofs.Common.{length}
use Rattle.report_text.specs.InsideSteps.{state_of}
use Rattle.report_text.proofs.ReadPrefixes.{Reached}
use Rattle.report_text.proofs.readers.read_report.Given as goal

abbrev pub invariant-loop-line : goal.invariant-loop-line
invariant-loop-line l = Reached l.bytes l.rest l.number (state_of l.draft)

abbrev pub decreases-loop-line : goal.decreases-loop-line
decreases-loop-line l = length l.rest
