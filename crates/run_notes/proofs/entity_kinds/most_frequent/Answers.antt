-- Answers to the goals of `most_frequent` in src/entity_kinds.rt.
use Rattle.std.proofs.Common.{◌<◌, ℕ, map, subst}
use Rattle.run_notes.specs.InsideCounts.{counts_in}
use Rattle.run_notes.specs.LeftOutKinds.{kind_and_count}
use Rattle.run_notes.specs.declared.entity_kinds.TheConstants.{MOST_KINDS}
use Rattle.run_notes.proofs.FrequentKinds.{entry-count, frequent-more, no-entry}
use Rattle.run_notes.proofs.entity_kinds.most_frequent.Goals as goal
use Rattle.run_notes.proofs.entity_kinds.most_frequent.Goals.{in-Some+in_ok-place_kind, in_default}

pub loop-number-preserved : goal.loop-number-preserved
loop-number-preserved c = elim c.match-get_index.branch [
  | in-Some+in_ok-place_kind w ↦
      let at = entry-count c.args.counts.now.entries c.loop-number.number (w.in-Some.name.now, w.in-Some.count.now)
      (w.in-Some.name.now.now, w.in-Some.count.now) w.in-Some.ensures.entry in
      rw (w.kinds-is, w.in_ok-place_kind.ensures) (frequent-more MOST_KINDS c.loop-number.number
      (counts_in c.args.counts.now.entries) (map kind_and_count c.loop-number.kinds.items)
      (w.in-Some.name.now.now, w.in-Some.count.now) (w.in-Some.name.now.now, w.in-Some.count.now) at.0 at.1
      c.loop-number.invariant)
  | in_default w ↦ absurd (no-entry c.args.counts.now.entries c.loop-number.number w.in_default.ensures.entry
      (subst (λ (n : ℕ). c.loop-number.number < n) c.len-number-end.ensures.len c.loop-number-test.true))
]
