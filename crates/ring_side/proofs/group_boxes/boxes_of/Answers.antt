-- Answers to the goals of `boxes_of` in src/group_boxes.rt.
use Rattle.std.proofs.Common.{ℕ, ◌+◌, ◌<◌, ◌∙◌, length, ap, arith, length-append}
use Rattle.plane_base.specs.declared.shapes.Rect.{Rect}
use Rattle.ring_side.specs.InsideGroups.{IsLeastBox, AreAmong, places_in, spots_in, group_at}
use Rattle.ring_side.proofs.PointGroups.GroupSpots.{box_pushed}
use Rattle.ring_side.proofs.group_boxes.boxes_of.Goals as goal

pub loop-group-preserved : goal.loop-group-preserved
loop-group-preserved c = let items = c.in_ok-push.ensures.items in
    let before = c.loop-group.invariant.0 in (
      simp length-append at (ap length items) ∙ ap (λ (n : ℕ). n + 1) before,
      rw items (box_pushed (λ (k : ℕ) (r : Rect). IsLeastBox r (places_in c.args.sheets.now c.args.images.now c.args.frame (group_at c.args.groups.now k)) × AreAmong c.args.sheets.now c.args.images.now c.args.frame (spots_in (group_at c.args.groups.now k)))
          c.loop-group.boxes.items c.box_of.result c.loop-group.group-index c.loop-group.invariant.0 c.loop-group.invariant.1 (c.box_of.ensures.least, c.box_of.ensures.among)),
    )

pub returns : goal.returns
returns c =
    let same = c.loop-group.invariant.0 in
    let past = c.loop-group-test.false in
    let end = c.loop-group.auto.group-index-end in
    record {
      boxes = record {
        same = omega (arith, same, past, end);
        each = λ (k : ℕ) (h : k < length c.args.groups.now). (c.loop-group.invariant.1 k (omega (arith, h, past))).0;
        among = λ (k : ℕ) (h : k < length c.args.groups.now). (c.loop-group.invariant.1 k (omega (arith, h, past))).1;
      };
    }
