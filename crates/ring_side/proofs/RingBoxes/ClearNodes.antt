-- Segments of a ring apart from a box, by the nodes of its parts.
use Rattle.std.proofs.Common.{◌≡◌, ℕ, ◌+◌, ◌-◌, ◌<◌, ◌≤◌, List, [], ◌∷◌, ◌++◌, length, get_or, take, drop, arith, ap, sym, ◌∙◌, subst}
use Rattle.std.proofs.Math.Seq.{drop-length}
use Rattle.std.proofs.lemmas.List.{drop-drop, drop_more, take-append-drop}
use Rattle.plane_base.specs.declared.shapes.Pt.{Pt}
use Rattle.plane_base.specs.declared.shapes.Rect.{Rect}
use Rattle.plane_base.specs.Boxes.{HasPoint, AreApart, box_of_segment}
use Rattle.plane_base.proofs.Bounds.BoxLemmas.{segment_has}
use Rattle.ring_side.specs.declared.trees.RingPart.{RingPart}
use Rattle.ring_side.specs.Rings.{Segment, chain, last_of, no_point}
use Rattle.ring_side.specs.InsideParts.{HasAll, part_of, before_of}
use Rattle.ring_side.specs.InsideTrees.{IsNode, AreNodesOf, IsAroundPart, node_at, end_before}
use Rattle.ring_side.specs.InsideClear.{AreSegmentsApart}
use Rattle.ring_side.proofs.RingBoxes.RingParts.{chain-append, last-append, take_part}
use Rattle.ring_side.proofs.RingBoxes.RingNodes.{end_at}

apart-append : (rect : Rect) (ss ts : List Segment) → AreSegmentsApart rect ss → AreSegmentsApart rect ts
    → AreSegmentsApart rect (ss ++ ts)
apart-append rect [] ts h k = k
apart-append rect (s ∷ ss) ts h k = (h.0, apart-append rect ss ts h.1 k)

-- a part in a box that is apart from another
boxed_apart : (rect around : Rect) (a : Pt) (ps : List Pt) → HasPoint around a → HasAll around ps → AreApart around rect
    → AreSegmentsApart rect (chain a ps)
boxed_apart rect around a [] ha hs apart = tt
boxed_apart rect around a (b ∷ ps) ha hs apart =
    (record { around = around; from = ha; to = hs.0; apart = apart }, boxed_apart rect around b ps hs.0 hs.1 apart)

-- the segments of a ring from one place on
abbrev pub chain_from : List Pt → ℕ → List Segment
chain_from ring place = chain (before_of ring place) (drop place ring)

drop_part : (ring : List Pt) (first past : ℕ) → first ≤ past → drop first ring ≡ part_of ring first past ++ drop past ring
drop_part ring first past h =
    let e : first + (past - first) ≡ past = omega arith in
    sym (take-append-drop (past - first) (drop first ring))
    ∙ ap (λ (ps : List Pt). part_of ring first past ++ ps) (drop-drop (past - first) first ring ∙ ap (λ (n : ℕ). drop n ring) e)

before_past : (ring : List Pt) (first past : ℕ) → first ≤ past
    → last_of (before_of ring first) (part_of ring first past) ≡ before_of ring past
before_past ring first past h =
    sym (last-append (last_of no_point ring) (take first ring) (part_of ring first past))
    ∙ sym (ap (last_of (last_of no_point ring)) (take_part ring first past h))

chain_split : (ring : List Pt) (first past : ℕ) → first ≤ past
    → chain_from ring first ≡ chain (before_of ring first) (part_of ring first past) ++ chain_from ring past
chain_split ring first past h =
    ap (chain (before_of ring first)) (drop_part ring first past h)
    ∙ chain-append (before_of ring first) (part_of ring first past) (drop past ring)
    ∙ ap (λ (a : Pt). chain (before_of ring first) (part_of ring first past) ++ chain a (drop past ring)) (before_past ring first past h)

-- ---- the walk
pub clear_begins : (rect : Rect) (ring : List Pt) (nodes : List RingPart) → AreNodesOf ring nodes
    → AreSegmentsApart rect (chain_from ring (end_before nodes (length nodes)))
clear_begins rect ring nodes are = grind (arith, drop-length)

pub clear_part : (rect : Rect) (ring : List Pt) (nodes : List RingPart) (left : ℕ) → 0 < left
    → IsNode ring nodes (left - 1) (node_at nodes (left - 1))
    → AreSegmentsApart rect (chain (before_of ring (node_at nodes (left - 1)).first) (part_of ring (node_at nodes (left - 1)).first (node_at nodes (left - 1)).past))
    → AreSegmentsApart rect (chain_from ring (end_before nodes left))
    → AreSegmentsApart rect (chain_from ring (end_before nodes (node_at nodes (left - 1)).base))
clear_part rect ring nodes left some is part rest = grind (arith, chain_split, apart-append, end_at)

pub clear_box : (rect : Rect) (ring : List Pt) (node : RingPart) → IsAroundPart node.around ring node.first node.past
    → AreApart node.around rect
    → AreSegmentsApart rect (chain (before_of ring node.first) (part_of ring node.first node.past))
clear_box rect ring node around apart =
    boxed_apart rect node.around (before_of ring node.first) (part_of ring node.first node.past) around.from around.points apart

pub clear_enters : (rect : Rect) (ring : List Pt) (nodes : List RingPart) (left : ℕ) → 0 < left
    → IsNode ring nodes (left - 1) (node_at nodes (left - 1)) → (node_at nodes (left - 1)).base < left - 1
    → AreSegmentsApart rect (chain_from ring (end_before nodes left))
    → AreSegmentsApart rect (chain_from ring (end_before nodes (left - 1)))
clear_enters rect ring nodes left some is smaller rest =
    subst (λ (n : ℕ). AreSegmentsApart rect (chain_from ring n)) (end_at nodes left some ∙ sym (is.ends smaller)) rest

-- ---- along a part
pub clear_segment : (rect box : Rect) (first from : Pt) (points : List Pt) (i : ℕ) → i < length points
    → box ≡ box_of_segment from (get_or points i no_point) → AreApart box rect
    → (AreSegmentsApart rect (chain from (drop i points)) → AreSegmentsApart rect (chain first points))
    → AreSegmentsApart rect (chain (get_or points i no_point) (drop (i + 1) points)) → AreSegmentsApart rect (chain first points)
clear_segment rect box first from points i within e apart before rest =
    let p : Pt = get_or points i no_point in
    let has = segment_has from p in
    before (subst (λ (ps : List Pt). AreSegmentsApart rect (chain from ps)) (sym (drop_more points i no_point within)) (
      record {
        around = box;
        from = subst (λ (r : Rect). HasPoint r from) (sym e) has.0;
        to = subst (λ (r : Rect). HasPoint r p) (sym e) has.1;
        apart = apart;
      },
      rest,
    ))
