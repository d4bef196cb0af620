-- Answers to the goals of `tell_pieces` in src/segments.rt.
use Rattle.std.proofs.Common.{◌≡◌, length, vec_len, sym, ◌∙◌, arith}
use Rattle.tin_base.proofs.TriangleLemmas.NearTriangles.{ends_near}
use Rattle.carry_map.proofs.StepPieces.{told_none, told_next, told_all, told_count, step_told, part_count}
use Rattle.carry_map.proofs.segments.tell_pieces.Goals as goal

pub loop-number-init : goal.loop-number-init
loop-number-init c = told_none c.args.tin.now c.args.way.a c.args.way.b c.args.way.from c.args.steps.now c.args.image
    c.args.pieces.now.items c.requires.sound c.requires.inside c.requires.steps c.requires.image

pub end_of-end-requires-clause-in_range : goal.end_of-end-requires-clause-in_range
end_of-end-requires-clause-in_range c =
    let known = step_told c.args.tin.now c.args.way.a c.args.way.b c.args.steps.now c.loop-number.number
    c.index-steps-number.result c.requires.limits c.requires.steps (omega arith)
    c.index-steps-number.is in known.in_range

pub end_of-end-requires-clause-slice : goal.end_of-end-requires-clause-slice
end_of-end-requires-clause-slice c =
    let known = step_told c.args.tin.now c.args.way.a c.args.way.b c.args.steps.now c.loop-number.number
    c.index-steps-number.result c.requires.limits c.requires.steps (omega arith)
    c.index-steps-number.is in known.slice

pub end_of-end-requires-clause-near : goal.end_of-end-requires-clause-near
end_of-end-requires-clause-near c =
    let known = step_told c.args.tin.now c.args.way.a c.args.way.b c.args.steps.now c.loop-number.number
    c.index-steps-number.result c.requires.limits c.requires.steps (omega arith) c.index-steps-number.is in
    ends_near c.args.tin.now c.args.way.a c.args.way.b c.index-steps-number.result.tri c.requires.limits known.in_range
    c.requires.inside

pub loop-number-preserved : goal.loop-number-preserved
loop-number-preserved c =
    told_next c.args.tin.now c.args.way.a c.args.way.b c.args.way.from c.args.steps.now c.loop-number.number
    c.index-steps-number.result c.loop-number.start c.end_of-end.result c.args.pieces.now.items
    c.loop-number.pieces.items c.push.new.self.items
    c.requires.limits c.requires.sound c.requires.inside c.requires.steps c.requires.first (omega arith)
    c.index-steps-number.is c.end_of-end.ensures c.loop-number.invariant c.in_ok-push.ensures.items

pub returns-clause-told : goal.returns-clause-told
returns-clause-told c =
    told_all c.args.tin.now c.args.way.a c.args.way.b c.args.way.from c.args.steps.now c.loop-number.number
    c.loop-number.start c.args.pieces.now.items c.loop-number.pieces.items c.requires.steps (omega arith)
    c.loop-number.invariant

pub returns-clause-count : goal.returns-clause-count
returns-clause-count c =
    let last : c.loop-number.number ≡ length c.args.steps.now = omega arith in
    let state = c.loop-number.invariant in
    told_count c.args.pieces.now.items c.loop-number.pieces.items state.own (vec_len c.args.pieces.now)
    (vec_len c.loop-number.pieces) c.loop-number.number (length c.args.steps.now) state.are state.count last
    c.args.pieces.now.ok.0 c.loop-number.pieces.ok.0

pub returns-clause-end : goal.returns-clause-end
returns-clause-end c =
    let last : c.loop-number.number ≡ length c.args.steps.now = omega arith in
    let next = c.loop-number.invariant.next in
    next.ends (last ∙ sym (part_count c.args.way.a c.args.way.b c.args.steps.now))

pub returns-clause-grows : goal.returns-clause-grows
returns-clause-grows c =
    let state = c.loop-number.invariant in record { more = state.own; are = state.are }
