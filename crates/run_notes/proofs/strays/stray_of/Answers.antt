-- Answers to the goals of `stray_of` in src/strays.rt.
use Rattle.std.proofs.Common.{◌≡◌, ◌↔◌, ◌∙◌, IsTrue, ℕ, List, Some, ap, map, rules, slice_get, subst}
use Rattle.std.specs.List.{list_all}
use Rattle.plane_base.specs.declared.shapes.Pt.{Pt}
use Rattle.plane_base.specs.declared.shapes.Rect.{Rect}
use Rattle.plane_base.specs.Plane.{whole}
use Rattle.tin_base.specs.declared.frames.Frame.{Frame}
use Rattle.run_notes.specs.InsideStrays.{AreExchanged, IsSegmentLine, HasEach, IsLeastBox, end_number, has_degrees, layer_frame}
use Rattle.run_notes.specs.InsideStrays.{spot_in}
use Rattle.run_notes.proofs.strays.stray_of.Goals as goal

pub returns : goal.returns
returns c =
    let triangles : Rect = c.in_ok-triangles.triangles in
    let boxed : IsLeastBox (map (spot_in (layer_frame c.args.inverse)) c.args.tin.now.corners) triangles =
    subst (λ (frame : Frame). IsLeastBox (map (spot_in frame) c.args.tin.now.corners) triangles)
    c.frames_of-frame.ensures.layer c.in_ok-triangles.ensures in
    record {
      row = c.in_ok-row.row;
      on_path = c.in_ok-row.ensures;
      from = subst (λ (number : ℕ). slice_get c.args.sheet.now.points number ≡ Some c.in_ok-from.from)
          c.first_number-number.ensures c.in_ok-from.ensures;
      to = subst (λ (number : ℕ). slice_get c.args.sheet.now.points (end_number c.in_ok-row.row number)
          ≡ Some c.in_ok-to.to) c.first_number-number.ensures
          (subst (λ (number : ℕ). slice_get c.args.sheet.now.points number ≡ Some c.in_ok-to.to)
          c.number_behind.ensures c.in_ok-to.ensures);
      line = subst (λ (number : ℕ). IsSegmentLine c.args.bytes.now c.args.sheet.now.edits c.args.path number
          c.in_ok-line.line) c.first_number-number.ensures c.in_ok-line.ensures;
      triangles = search rules;
      box = rw (c.least_of.ensures, c.greatest_of.ensures) boxed;
      target = c.in_ok-target.target;
      target_box = subst (λ (frame : Frame). IsLeastBox (map (spot_in frame) c.args.tin.now.corners)
          c.in_ok-target.target) c.frames_of-frame.ensures.other c.in_ok-target.ensures;
      in_target = subst (λ (points : List Pt). IsTrue c.are_in.result ↔ HasEach c.in_ok-target.target points)
          c.points.ensures.points c.are_in.ensures;
      exchanged = rw (c.least_of.ensures, c.greatest_of.ensures) (subst (λ (points : List Pt).
          IsTrue c.are_exchanged.result ↔ AreExchanged triangles points) c.points-3.ensures.points
          c.are_exchanged.ensures);
      small = c.are_small.ensures ∙ ap (λ points. list_all (λ (p : Pt). has_degrees (whole p)) points)
          c.points-2.ensures.points;
    }
