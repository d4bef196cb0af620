-- The invariant of the loop of `most_frequent` in src/entity_kinds.rt.
use Rattle.std.proofs.Common.{◌≡◌, map, take}
use Rattle.run_notes.specs.InsideCounts.{counts_in}
use Rattle.run_notes.specs.LeftOutKinds.{by_count, kind_and_count}
use Rattle.run_notes.specs.declared.entity_kinds.TheConstants.{MOST_KINDS}
use Rattle.run_notes.proofs.entity_kinds.most_frequent.Given as goal

abbrev pub invariant-loop-number : goal.invariant-loop-number
invariant-loop-number l = map kind_and_count l.kinds.items
    ≡ take MOST_KINDS (by_count (take l.number (counts_in l.counts.entries)))
