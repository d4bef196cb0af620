-- Answers to the goals of `rel` in src/segments.rt.
use Rattle.std.proofs.Common.{◌≡◌, rules, SFits, sym, ◌∙◌, ap, to_z, of_z}
use Rattle.std.proofs.lemmas.Int.{to_z-of_z}
use mir.Syntax.{w128}
use Rattle.meet_rel.specs.Signs.{AreOnOneSide, IsSomeZero}
use Rattle.meet_rel.proofs.Boxes.{apart_by_boxes}
use Rattle.meet_rel.proofs.Crossings.{apart_by_first, apart_by_second}
use Rattle.meet_rel.proofs.TurnTests.{side_moved, not_told, turns_told, signs_told, touching_told, crossing_told}
use Rattle.meet_rel.proofs.TurnTests.{on_one_line}
use Rattle.meet_rel.proofs.segments.rel.Goals as goal

pub returns-then-are_boxes_apart : goal.returns-then-are_boxes_apart
returns-then-are_boxes_apart c = apart_by_boxes c.args.a c.args.b c.args.c c.args.d
    (c.are_boxes_apart.ensures.0 c.if-are_boxes_apart.true)

pub returns-then-are_on_one_side : goal.returns-then-are_on_one_side
returns-then-are_on_one_side c =
    let fc : SFits w128 c.turn-of_c.result = search rules in let fd : SFits w128 c.turn-of_d.result = search rules in
    let h = (simp to_z-of_z at c.are_on_one_side.ensures).0 c.if-are_on_one_side.true in
    apart_by_second c.args.a c.args.b c.args.c c.args.d
    (side_moved c.turn-of_c.result c.turn-of_d.result _ _ c.turn-of_c.ensures.value c.turn-of_d.ensures.value h)

pub returns-then-are_on_one_side-2 : goal.returns-then-are_on_one_side-2
returns-then-are_on_one_side-2 c =
    let fa : SFits w128 c.turn-of_a.result = search rules in let fb : SFits w128 c.turn-of_b.result = search rules in
    let h = (simp to_z-of_z at c.are_on_one_side-2.ensures).0 c.if-are_on_one_side-2.true in
    apart_by_first c.args.a c.args.b c.args.c c.args.d
    (side_moved c.turn-of_a.result c.turn-of_b.result _ _ c.turn-of_a.ensures.value c.turn-of_b.ensures.value h)

pub rel_on_line-requires : goal.rel_on_line-requires
rel_on_line-requires c =
    let fc : SFits w128 c.turn-of_c.result = search rules in let fd : SFits w128 c.turn-of_d.result = search rules in
    let fa : SFits w128 c.turn-of_a.result = search rules in let fb : SFits w128 c.turn-of_b.result = search rules in
    let of_a = c.turn-of_a.result in let of_b = c.turn-of_b.result in let of_c = c.turn-of_c.result in let of_d =
    c.turn-of_d.result in
    let e : of_c ≡ of_d = sym (to_z-of_z w128 of_c fc) ∙ ap (to_z w128) c.if-of_c-of_d.true ∙ to_z-of_z w128 of_d fd in
    on_one_line c.args.a c.args.b c.args.c c.args.d of_a of_b of_c of_d
    (turns_told c.args.a c.args.b c.args.c c.args.d of_a of_b of_c of_d c.turn-of_a.ensures.value
    c.turn-of_b.ensures.value c.turn-of_c.ensures.value c.turn-of_d.ensures.value)
    (not_told c.are_on_one_side.result (AreOnOneSide of_c of_d) (simp to_z-of_z at c.are_on_one_side.ensures)
    c.if-are_on_one_side.false)
    (not_told c.are_on_one_side-2.result (AreOnOneSide of_a of_b) (simp to_z-of_z at c.are_on_one_side-2.ensures)
    c.if-are_on_one_side-2.false)
    e

pub returns-then-is_some_zero : goal.returns-then-is_some_zero
returns-then-is_some_zero c =
    let fc : SFits w128 c.turn-of_c.result = search rules in let fd : SFits w128 c.turn-of_d.result = search rules in
    let fa : SFits w128 c.turn-of_a.result = search rules in let fb : SFits w128 c.turn-of_b.result = search rules in
    let of_a = c.turn-of_a.result in let of_b = c.turn-of_b.result in let of_c = c.turn-of_c.result in let of_d =
    c.turn-of_d.result in
    let t = turns_told c.args.a c.args.b c.args.c c.args.d of_a of_b of_c of_d c.turn-of_a.ensures.value
    c.turn-of_b.ensures.value c.turn-of_c.ensures.value c.turn-of_d.ensures.value in
    touching_told c.args.a c.args.b c.args.c c.args.d of_a of_b of_c of_d t
    (signs_told c.args.a c.args.b c.args.c c.args.d of_a of_b of_c of_d t c.are_on_one_side.result
    c.are_on_one_side-2.result (simp to_z-of_z at c.are_on_one_side.ensures) c.if-are_on_one_side.false
    (simp to_z-of_z at c.are_on_one_side-2.ensures) c.if-are_on_one_side-2.false
    (λ e. c.if-of_c-of_d.false (ap (of_z w128) e)))
    ((simp to_z-of_z at c.is_some_zero.ensures).0 c.if-is_some_zero.true)

pub returns : goal.returns
returns c =
    let fc : SFits w128 c.turn-of_c.result = search rules in let fd : SFits w128 c.turn-of_d.result = search rules in
    let fa : SFits w128 c.turn-of_a.result = search rules in let fb : SFits w128 c.turn-of_b.result = search rules in
    let of_a = c.turn-of_a.result in let of_b = c.turn-of_b.result in let of_c = c.turn-of_c.result in let of_d =
    c.turn-of_d.result in
    let t = turns_told c.args.a c.args.b c.args.c c.args.d of_a of_b of_c of_d c.turn-of_a.ensures.value
    c.turn-of_b.ensures.value c.turn-of_c.ensures.value c.turn-of_d.ensures.value in
    crossing_told c.args.a c.args.b c.args.c c.args.d of_a of_b of_c of_d t
    (signs_told c.args.a c.args.b c.args.c c.args.d of_a of_b of_c of_d t c.are_on_one_side.result
    c.are_on_one_side-2.result (simp to_z-of_z at c.are_on_one_side.ensures) c.if-are_on_one_side.false
    (simp to_z-of_z at c.are_on_one_side-2.ensures) c.if-are_on_one_side-2.false
    (λ e. c.if-of_c-of_d.false (ap (of_z w128) e)))
    (not_told c.is_some_zero.result (IsSomeZero of_a of_b of_c of_d) (simp to_z-of_z at c.is_some_zero.ensures)
    c.if-is_some_zero.false)
