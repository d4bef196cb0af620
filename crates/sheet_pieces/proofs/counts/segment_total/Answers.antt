-- Answers to the goals of `segment_total` in src/counts.rt.
use Rattle.std.proofs.Common.{◌≡◌, ℕ, ◌+◌, ◌-◌, ◌≤◌, length, ap, List, ◌∙◌, arith}
use Rattle.std.specs.List.{count_by}
use Rattle.plane_base.specs.declared.shapes.Pt.{Pt}
use Rattle.sheet_base.specs.declared.paths.PathRow.{PathRow}
use Rattle.sheet_pieces.specs.SheetSegments.{sheet_segments}
use Rattle.sheet_pieces.specs.SheetSegments.{ends_open}
use Rattle.sheet_pieces.proofs.SegmentCounts.{begun_by_points}
use Rattle.sheet_pieces.proofs.counts.segment_total.Goals as goal

pub overflow_sub-result : goal.overflow_sub-result
overflow_sub-result c =
    let all = begun_by_points c.args.sheet.now c.points.ensures.sheet in
    let points : length c.points.result.now ≡ length c.args.sheet.now.points =
    ap (λ (ps : List Pt). length ps) c.points.ensures.points in
    let ends : c.open_count.result ≡ count_by ends_open c.args.sheet.now.paths = c.open_count.ensures
    ∙ ap (λ (rows : List PathRow). count_by ends_open rows) c.paths.ensures.paths in
    less (length (sheet_segments c.args.sheet.now)) (count_by ends_open c.args.sheet.now.paths)
    (length c.args.sheet.now.points) c.open_count.result (length c.points.result.now) all points ends
  where
    less : (s o p k n : ℕ) → s + o ≡ p → n ≡ p → k ≡ o → k ≤ n
    less s o p k n e f g = omega arith

pub returns : goal.returns
returns c =
    let all = begun_by_points c.args.sheet.now c.points.ensures.sheet in
    let points : length c.points.result.now ≡ length c.args.sheet.now.points =
    ap (λ (ps : List Pt). length ps) c.points.ensures.points in
    let ends : c.open_count.result ≡ count_by ends_open c.args.sheet.now.paths = c.open_count.ensures
    ∙ ap (λ (rows : List PathRow). count_by ends_open rows) c.paths.ensures.paths in
    rest (length (sheet_segments c.args.sheet.now)) (count_by ends_open c.args.sheet.now.paths)
    (length c.args.sheet.now.points) c.open_count.result (length c.points.result.now) all points ends
  where
    rest : (s o p k n : ℕ) → s + o ≡ p → n ≡ p → k ≡ o → n - k ≡ s
    rest s o p k n e f g = omega arith
