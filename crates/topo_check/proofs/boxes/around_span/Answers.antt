-- Answers to the goals of `around_span` in src/boxes.rt.
use Rattle.std.proofs.Common.{rules, SFits, arith}
use Rattle.std.proofs.lemmas.Int.{ints, to_z-of_z}
use mir.Syntax.{w64}
use Rattle.plane_base.specs.declared.shapes.Rect.{Rect}
use Rattle.topo_check.proofs.Tight.{near_short, place_in}
use Rattle.topo_check.proofs.boxes.around_span.Goals as goal

pub low_at-requires : goal.low_at-requires
low_at-requires c =
    let a = c.args.a in let b = c.args.b in let near = c.requires.near in
    let fa : SFits w64 a.x = search rules in let fb : SFits w64 b.x = search rules in
    simp to_z-of_z (near_short a.x b.x near.0 near.1)

pub low_at-requires-2 : goal.low_at-requires-2
low_at-requires-2 c =
    let a = c.args.a in let b = c.args.b in let near = c.requires.near in
    let fa : SFits w64 a.x = search rules in let fb : SFits w64 b.x = search rules in
    simp to_z-of_z (near_short a.x b.x near.0 near.1)

pub low_at-requires-3 : goal.low_at-requires-3
low_at-requires-3 c =
    let a = c.args.a in let b = c.args.b in let near = c.requires.near in
    let fa : SFits w64 a.y = search rules in let fb : SFits w64 b.y = search rules in
    simp to_z-of_z (near_short a.y b.y near.2 near.3)

pub low_at-requires-4 : goal.low_at-requires-4
low_at-requires-4 c =
    let a = c.args.a in let b = c.args.b in let near = c.requires.near in
    let fa : SFits w64 a.y = search rules in let fb : SFits w64 b.y = search rules in
    simp to_z-of_z (near_short a.y b.y near.2 near.3)

pub high_at-requires : goal.high_at-requires
high_at-requires c =
    let a = c.args.a in let b = c.args.b in let near = c.requires.near in
    let fa : SFits w64 a.x = search rules in let fb : SFits w64 b.x = search rules in
    simp to_z-of_z (near_short a.x b.x near.0 near.1)

pub high_at-requires-2 : goal.high_at-requires-2
high_at-requires-2 c =
    let a = c.args.a in let b = c.args.b in let near = c.requires.near in
    let fa : SFits w64 a.x = search rules in let fb : SFits w64 b.x = search rules in
    simp to_z-of_z (near_short a.x b.x near.0 near.1)

pub high_at-requires-3 : goal.high_at-requires-3
high_at-requires-3 c =
    let a = c.args.a in let b = c.args.b in let near = c.requires.near in
    let fa : SFits w64 a.y = search rules in let fb : SFits w64 b.y = search rules in
    simp to_z-of_z (near_short a.y b.y near.2 near.3)

pub high_at-requires-4 : goal.high_at-requires-4
high_at-requires-4 c =
    let a = c.args.a in let b = c.args.b in let near = c.requires.near in
    let fa : SFits w64 a.y = search rules in let fb : SFits w64 b.y = search rules in
    simp to_z-of_z (near_short a.y b.y near.2 near.3)

pub returns : goal.returns
returns c =
    let a = c.args.a in let b = c.args.b in let lo = c.args.span.lo in let hi = c.args.span.hi in
    let ax : SFits w64 a.x = search rules in let ay : SFits w64 a.y = search rules in
    let bx : SFits w64 b.x = search rules in let by : SFits w64 b.y = search rules in
    let f0 : SFits w64 c.low_at.result = search rules in
    let f1 : SFits w64 c.low_at-2.result = search rules in
    let f2 : SFits w64 c.low_at-3.result = search rules in
    let f3 : SFits w64 c.low_at-4.result = search rules in
    let f4 : SFits w64 c.high_at.result = search rules in
    let f5 : SFits w64 c.high_at-2.result = search rules in
    let f6 : SFits w64 c.high_at-3.result = search rules in
    let f7 : SFits w64 c.high_at-4.result = search rules in
    let f8 : SFits w64 c.lesser.result = search rules in
    let f9 : SFits w64 c.lesser-2.result = search rules in
    let f10 : SFits w64 c.greater.result = search rules in
    let f11 : SFits w64 c.greater-2.result = search rules in
    let left = c.lesser.ensures.below in let bottom = c.lesser-2.ensures.below in let right =
    c.greater.ensures.above in let top = c.greater-2.ensures.above in
    let box : Rect = record {
      x0 = c.lesser.result;
      y0 = c.lesser-2.result;
      x1 = c.greater.result;
      y1 =
          c.greater-2.result;
    } in
    let first = place_in box a b lo c.low_at.result c.low_at-3.result c.high_at.result c.high_at-3.result c.requires.lo
    (simp to_z-of_z at (c.low_at.ensures lo (c.share_of-lo.ensures)))
    (simp to_z-of_z at (c.low_at-3.ensures lo (c.share_of-lo.ensures)))
    (simp to_z-of_z at (c.high_at.ensures lo (c.share_of-lo.ensures)))
    (simp to_z-of_z at (c.high_at-3.ensures lo (c.share_of-lo.ensures)))
    (omega (arith, ints, left.0)) (omega (arith, ints, bottom.0)) (omega (arith, ints, right.0))
    (omega (arith, ints, top.0)) in
    let second = place_in box a b hi c.low_at-2.result c.low_at-4.result c.high_at-2.result c.high_at-4.result
    c.requires.hi
    (simp to_z-of_z at (c.low_at-2.ensures hi (c.share_of-hi.ensures)))
    (simp to_z-of_z at (c.low_at-4.ensures hi (c.share_of-hi.ensures)))
    (simp to_z-of_z at (c.high_at-2.ensures hi (c.share_of-hi.ensures)))
    (simp to_z-of_z at (c.high_at-4.ensures hi (c.share_of-hi.ensures)))
    (omega (arith, ints, left.1)) (omega (arith, ints, bottom.1)) (omega (arith, ints, right.1))
    (omega (arith, ints, top.1)) in (
      record {
        left = simp to_z-of_z first.left;
        right = simp to_z-of_z first.right;
        bottom =
            simp to_z-of_z first.bottom;
        top = simp to_z-of_z first.top;
      },
      (
        record {
          left = simp to_z-of_z second.left;
          right = simp to_z-of_z second.right;
          bottom =
              simp to_z-of_z second.bottom;
          top = simp to_z-of_z second.top;
        },
        tt,
      ),
    )
