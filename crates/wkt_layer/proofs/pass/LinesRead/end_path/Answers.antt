-- Answers to the goals of `LinesRead::end_path` in src/pass.rt.
use Rattle.std.proofs.Common.{◌≡◌, refl, ap, ◌∙◌, arith, length, vec_len}
use Rattle.sheet_base.specs.declared.paths.PathRow.{PathRow}
use Rattle.sheet_base.specs.declared.edits.Edit.{Edit}
use Rattle.wkt_layer.specs.Paths.{text_for}
use Rattle.wkt_layer.proofs.CodeReads.SheetSoFar.{held_end}
use Rattle.wkt_layer.proofs.pass.LinesRead.end_path.Goals as goal

pub returns-clause-held : goal.returns-clause-held
returns-clause-held c =
    let rows = c.in_ok-push.ensures.items in
    let edits = c.in_ok-push-2.ensures.items in
    let row : PathRow = record { kind = c.args.kind; first = c.args.self.now.first; past = c.len.result } in
    let edit : Edit = record { start = c.args.self.now.start; end = c.args.self.now.end; what = c.text_for.result } in
    let long : vec_len c.args.self.now.paths ≡ length c.args.self.now.paths.items = omega arith in
    let left : vec_len c.drop_closing.new.points ≡ length c.drop_closing.new.points.items = omega arith in
    held_end c.args.self.now _ c.args.kind row edit
    (ap (λ n. let r : PathRow = record { kind = c.args.kind; first = c.args.self.now.first; past = n } in r)
    (c.len.ensures ∙ left))
    (ap (λ w. let r : Edit = record { start = c.args.self.now.start; end = c.args.self.now.end; what = w } in r)
    (c.text_for.ensures ∙ ap (text_for c.args.kind) (c.len-number.ensures ∙ long)))
    rows edits c.drop_closing.ensures.closing c.drop_closing.ensures.others
    c.drop_closing.ensures.heights c.drop_closing.ensures.other_heights refl (c.len-self.ensures ∙ left)
