-- Answers to the goals of `carry_segment` in src/segments.rt.
use Rattle.std.proofs.Common.{◌≡◌, ◌++◌, List, ap, length, vec_len, ◌∙◌, arith}
use Rattle.tin_base.specs.declared.pieces.Piece.{Piece}
use Rattle.carry_map.specs.CarriedLists.{inner_images}
use Rattle.carry_map.specs.Causes.{IsWayCause}
use Rattle.carry_map.proofs.ErrorExits.{exits, no_way_cause}
use Rattle.carry_map.proofs.VertexLists.{behind_front}
use Rattle.carry_map.proofs.segments.carry_segment.Goals as goal

pub returns-clause-carried : goal.returns-clause-carried
returns-clause-carried c =
    let high = c.in_ok-end.ensures.told in
    let told = high.told in
    let count : c.len-before.result ≡ length c.args.pieces.now.items = omega arith in
    let own = behind_front c.args.pieces.now.items told.own c.deref.result.now c.len-before.result
    (c.deref.ensures.value ∙ told.are) count in
    record {
      told = told;
      crossings = c.in_ok-push_ends.ensures.ok
          ∙ ap (λ (xs : List Piece). c.args.points.now.items ++ inner_images xs) own;
      rises = high.rises;
    }

pub returns-in_err-end-clause-cause : goal.returns-in_err-end-clause-cause
returns-in_err-end-clause-cause c =
    exits (λ fault. IsWayCause c.args.index.now c.args.way (vec_len c.args.pieces.now) c.args.most fault)
    c.in_err-end.field-0.0 c.from_residual.result c.from_residual.ensures.1
    c.in_err-end.ensures.cause

pub returns-in_err-push_ends-clause-cause : goal.returns-in_err-push_ends-clause-cause
returns-in_err-push_ends-clause-cause c =
    no_way_cause c.args.index.now c.args.way (vec_len c.args.pieces.now) c.args.most c.in_err-push_ends.field-0.0
    c.from_residual-in_err-push_ends.result c.from_residual-in_err-push_ends.ensures.1
    c.in_err-push_ends.ensures.memory
