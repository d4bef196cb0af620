-- Answers to the goals of `LinesRead::add_point` in src/pass.rt.
use Rattle.std.proofs.Common.{◌≡◌, refl, ap, ◌∙◌, ◌+◌, ◌++◌, ◌∷◌, [], ◌==◌, arith, length, vec_len}
use Rattle.std.specs.Prelude.{if◌then◌else◌, Ok}
use Rattle.wkt_layer.specs.Numbers.{lost_in}
use Rattle.wkt_layer.specs.InsidePasses.{lost_read}
use Rattle.wkt_layer.proofs.CodeReads.SheetSoFar.{held_add}
use Rattle.wkt_layer.proofs.pass.LinesRead.add_point.Goals as goal

pub returns-clause-held : goal.returns-clause-held
returns-clause-held c =
    let items = c.in_ok-push.ensures.items in
    let starts = c.start_of-self.ensures in
    let sum : c.args.self.now.inexact + (c.loss.result + c.loss-2.result + c.third_of-height.result.1)
    ≡ c.args.self.now.inexact
    + (lost_in (Ok c.args.x) + lost_in (Ok c.args.y) + lost_read c.args.z) =
    ap (λ n. c.args.self.now.inexact + (n + c.loss-2.result + c.third_of-height.result.1)) c.loss.ensures.value
    ∙ ap (λ n. c.args.self.now.inexact + (lost_in (Ok c.args.x) + n + c.third_of-height.result.1))
    c.loss-2.ensures.value
    ∙ ap (λ n. c.args.self.now.inexact + (lost_in (Ok c.args.x) + lost_in (Ok c.args.y) + n))
    c.third_of-height.ensures.lost in
    let long : vec_len c.args.self.now.points ≡ length c.args.self.now.points.items = omega arith in
    held_add c.args.self.now _ c.args.x c.args.y c.args.z c.args.start c.args.end refl
    (items ∙ ap (λ p. c.args.self.now.points.items ++ p ∷ []) c.point_from.ensures)
    (c.in_ok-push-2.ensures ∙ ap (λ h. c.args.self.now.heights ++ h ∷ []) c.third_of-height.ensures.height) refl sum
    refl
    (starts ∙ ap (λ n. if (n == c.args.self.now.first) then c.args.start else c.args.self.now.start)
    (c.len.ensures ∙ long)) refl
