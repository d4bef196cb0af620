-- Answers to the goals of `handle_behind` in src/handle_counts.rt.
use Rattle.std.proofs.Common.{arith, sym, ◌∙◌}
use Rattle.std.proofs.lemmas.Grind.{common_steps}
use Rattle.dxf_copies.specs.PageViews.{read_of}
use Rattle.dxf_copies.specs.Rendering.{entity_at}
use Rattle.dxf_copies.proofs.HandleCounts.{number_within, few_copies, one_counted, none_more, counts_small}
use Rattle.dxf_copies.proofs.HandleCounts.{passed_before}
use Rattle.dxf_copies.proofs.handle_counts.handle_behind.Goals.{then-copies-gt1, else-copies-gt1}
use Rattle.dxf_copies.proofs.handle_counts.handle_behind.Goals as goal

pub number_at-number-requires : goal.number_at-number-requires
number_at-number-requires c =
    passed_before (read_of c.args.page.now) c.edits-edit-items.result.now c.loop-edit.edit-index c.loop-edit.number
    c.loop-edit.next c.loop-edit-test.true c.loop-edit.invariant

pub taken_by-next-requires-clause-within : goal.taken_by-next-requires-clause-within
taken_by-next-requires-clause-within c = rw c.number_at-number.ensures (number_within (read_of c.args.page.now) _)

pub overflow_add-next : goal.overflow_add-next
overflow_add-next c = omega (
  arith,
  c.taken_by-next.ensures,
  c.copies_of-copies.ensures,
  c.requires.first,
  counts_small (read_of c.args.page.now) c.edits-edit-items.result.now c.loop-edit.edit-index c.loop-edit.number
      c.loop-edit.next c.requires.few c.requires.short
      (rw (← c.requires.first) c.requires.small) c.loop-edit-test.true c.loop-edit.invariant,
)

pub loop-edit-preserved : goal.loop-edit-preserved
loop-edit-preserved c =
    let read = read_of c.args.page.now in
    let edits = c.edits-edit-items.result.now in
    let loop = c.loop-edit in elim c.if-copies-gt1.branch [
      | then-copies-gt1 w ↦ rw (w.number-is, w.next-is)
          (one_counted read edits loop.edit-index loop.number loop.next w.number_at-number.result w.taken_by-next.result
          c.requires.few c.loop-edit-test.true loop.invariant
          (omega (arith, w.number_at-number.ensures)) (w.taken_by-next.ensures ∙ c.copies_of-copies.ensures))
      | else-copies-gt1 w ↦ rw (w.number-is, w.next-is)
          (none_more read edits loop.edit-index loop.number loop.next c.requires.few c.loop-edit-test.true
          loop.invariant
          (sym (few_copies (entity_at read _) c.copies_of-copies.result (omega (arith, w.if-copies-gt1.false)))
          ∙ c.copies_of-copies.ensures))
    ]

pub returns : goal.returns
returns c = grind (arith, common_steps)
