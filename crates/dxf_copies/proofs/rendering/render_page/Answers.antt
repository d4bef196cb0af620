-- Answers to the goals of `render_page` in src/rendering.rt.
use Rattle.std.proofs.Common.{◌≡◌, ◌∙◌, ◌++◌, arith, ap, sym, length, slice_index_or}
use Rattle.std.proofs.lemmas.Grind.{common_steps}
use Rattle.sheet_base.specs.declared.edits.Edit.{Edit}
use Rattle.sheet_base.specs.Splices.{AreInOrder}
use Rattle.sheet_base.proofs.SpliceLaws.{no_edit, one_more}
use Rattle.dxf_copies.specs.PageViews.{read_of}
use Rattle.dxf_copies.specs.Rendering.{text_as, text_of, next_at}
use Rattle.dxf_copies.proofs.HandleCounts.{number_within, one_counted, counts_small, passed_before, next_is}
use Rattle.dxf_copies.proofs.rendering.render_page.Goals as goal

pub number_at-number-requires : goal.number_at-number-requires
number_at-number-requires c =
    passed_before (read_of c.args.page.now) c.edits-edit-items.result.now c.loop-edit.edit-index c.loop-edit.number
    c.loop-edit.next c.loop-edit-test.true c.loop-edit.invariant.counted

pub push_text-requires-clause-within : goal.push_text-requires-clause-within
push_text-requires-clause-within c = rw c.number_at-number.ensures (number_within (read_of c.args.page.now) _)

pub push_text-requires-clause-next : goal.push_text-requires-clause-next
push_text-requires-clause-next c = omega (
  arith,
  counts_small (read_of c.args.page.now) c.edits-edit-items.result.now c.loop-edit.edit-index c.loop-edit.number
      c.loop-edit.next c.requires.few c.requires.short
      (rw (← c.first_handle-first.ensures.number) c.first_handle-first.ensures.small) c.loop-edit-test.true
      c.loop-edit.invariant.counted,
)

pub edit_handles-next-requires-clause-within : goal.edit_handles-next-requires-clause-within
edit_handles-next-requires-clause-within c = rw c.number_at-number.ensures (number_within (read_of c.args.page.now) _)

pub overflow_add-next : goal.overflow_add-next
overflow_add-next c = omega (
  arith,
  c.edit_handles-next.ensures,
  counts_small (read_of c.args.page.now) c.edits-edit-items.result.now c.loop-edit.edit-index c.loop-edit.number
      c.loop-edit.next c.requires.few c.requires.short
      (rw (← c.first_handle-first.ensures.number) c.first_handle-first.ensures.small) c.loop-edit-test.true
      c.loop-edit.invariant.counted,
)

pub loop-edit-preserved : goal.loop-edit-preserved
loop-edit-preserved c =
    let read = read_of c.args.page.now in
    let edits = c.edits-edit-items.result.now in
    let edit : Edit = slice_index_or edits c.loop-edit.edit-index no_edit in
    let order : AreInOrder 0 edits (length c.args.page.now.bytes.now) =
    rw c.edits-edit-items.ensures c.requires.order in
    let here : next_at read edit.start ≡ c.loop-edit.next =
    next_is read edits c.loop-edit.edit-index c.loop-edit.number c.loop-edit.next c.edits-edit-items.ensures order
    c.loop-edit-test.true c.loop-edit.invariant.counted in
    let kept = c.in_ok-extend_from_slice.ensures.items ∙ ap (λ part. c.loop-edit.out.items ++ part) c.between.ensures in
    record {
      counted =
          one_counted read edits c.loop-edit.edit-index c.loop-edit.number c.loop-edit.next c.number_at-number.result
          c.edit_handles-next.result
          c.requires.few c.loop-edit-test.true c.loop-edit.invariant.counted (omega (arith, c.number_at-number.ensures))
          c.edit_handles-next.ensures;
      written = one_more c.args.page.now.bytes.now (text_of read) edits c.loop-edit.edit-index c.loop-edit.from
          c.loop-edit.out.items c.extend_from_slice.new.self.items
          c.loop-edit-test.true c.loop-edit.invariant.written kept c.push_text.new.out.items
          (c.in_ok-push_text.ensures ∙ ap (λ next. c.extend_from_slice.new.self.items
          ++ text_as read next edit edit.what) (sym here));
    }

pub returns : goal.returns
returns c = grind (arith, common_steps)
