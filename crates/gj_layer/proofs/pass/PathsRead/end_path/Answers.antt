-- Answers to the goals of `PathsRead::end_path` in src/pass.rt.
use Rattle.std.proofs.Common.{◌≡◌, ◌++◌, ◌∷◌, [], refl, ap, ◌∙◌, arith, length, vec_len}
use Rattle.sheet_base.specs.declared.edits.Edit.{Edit}
use Rattle.gj_layer.proofs.Coordinates.PathsSoFar.{held_end}
use Rattle.gj_layer.proofs.pass.PathsRead.end_path.Goals as goal

pub returns-clause-holds : goal.returns-clause-holds
returns-clause-holds c part positions held first =
    let old = c.args.self.now in
    let long : vec_len old.paths ≡ length old.paths.items = omega arith in
    let left : vec_len old.points ≡ length old.points.items = omega arith in
    held_end old _ part positions held c.args.kind c.args.run.lost c.args.run.start c.args.run.end c.args.first
    c.len.result c.len-number.result first (c.len.ensures ∙ left) (c.len-number.ensures ∙ long)
    c.in_ok-push.ensures.items refl refl
    (c.in_ok-push-2.ensures.items
    ∙ ap (λ w. old.edits.items ++ (let e : Edit =
    record { start = c.args.run.start; end = c.args.run.end; what = w } in e) ∷ []) c.text_for.ensures)
    refl
