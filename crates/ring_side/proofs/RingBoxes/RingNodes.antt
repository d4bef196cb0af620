-- The nodes of a ring, one more node, and the side by them.
use Rattle.std.proofs.Common.{◌≡◌, ℕ, zero, suc, ◌+◌, ◌-◌, ◌<◌, ◌≤◌, List, [], ◌∷◌, ◌++◌, length, get_or, take, arith, refl, ap, sym, ◌∙◌, subst, inl, inr, length-append}
use Rattle.std.specs.Prelude.{◌⊎◌, Option, None, Some}
use Rattle.std.proofs.Math.Seq.{take-length}
use Rattle.std.proofs.Math.ListN.{get_or-append}
use Rattle.std.proofs.Math.Seq.{get_or-append_seam}
use Rattle.std.proofs.lemmas.List.{get_or-take, length-take}
use Rattle.plain_laws.proofs.Order.{at_or_before}
use Rattle.plane_base.specs.declared.shapes.Pt.{Pt}
use Rattle.ring_side.specs.declared.kinds.Side.{Side}
use Rattle.ring_side.specs.declared.kinds.Side.TheVariants.{Outside}
use Rattle.ring_side.specs.declared.trees.RingPart.{RingPart}
use Rattle.ring_side.specs.Rings.{chain, last_of, no_point}
use Rattle.ring_side.specs.Sides.{side_of}
use Rattle.ring_side.specs.InsideSides.{both, side_by_all}
use Rattle.ring_side.specs.InsideParts.{part_of, before_of}
use Rattle.ring_side.specs.InsideTrees.{IsAroundPart, IsNode, AreNodes, AreNodesUpTo, AreNodesOf, IsSideOfPart, node_at, no_node, end_before}
use Rattle.ring_side.proofs.PointSides.SideParts.{both_end, both_assoc, side_by_all_is}
use Rattle.ring_side.proofs.RingBoxes.RingParts.{side_upto}

-- ---- the side by nodes
pub end_at : (nodes : List RingPart) (left : ℕ) → 0 < left → end_before nodes left ≡ (node_at nodes (left - 1)).past
end_at nodes zero some = absurd (omega arith)
end_at nodes (suc k) some =
    let e : k ≡ suc k - 1 = omega arith in ap (λ (place : ℕ). (node_at nodes place).past) e

-- the side of the ring up to before a point
abbrev upto : List Pt → Pt → ℕ → Side
upto ring p past = side_by_all p (chain (last_of no_point ring) (take past ring))

pub first_side : (ring : List Pt) (nodes : List RingPart) (p : Pt) → AreNodesOf ring nodes
    → both (side_by_all p (chain (last_of no_point ring) (take (end_before nodes (length nodes)) ring))) Outside
    ≡ side_of ring p
first_side ring nodes p are = grind (arith, both_end, take-length, side_by_all_is)

pub side_before : (ring : List Pt) (nodes : List RingPart) (p : Pt) (left : ℕ) (part side next all : Side) → 0 < left
    → IsNode ring nodes (left - 1) (node_at nodes (left - 1))
    → side_by_all p (chain (before_of ring (node_at nodes (left - 1)).first) (part_of ring (node_at nodes (left - 1)).first (node_at nodes (left - 1)).past)) ≡ part
    → next ≡ both part side
    → both (side_by_all p (chain (last_of no_point ring) (take (end_before nodes left) ring))) side ≡ all
    → both (side_by_all p (chain (last_of no_point ring) (take (end_before nodes (node_at nodes (left - 1)).base) ring))) next ≡ all
side_before ring nodes p left part side next all some is told e before =
    let node : RingPart = node_at nodes (left - 1) in
    let s = is.some in
    let h : node.first ≤ node.past = omega (arith, s) in
    ap (λ (n : ℕ). both (upto ring p n) next) is.begins
    ∙ ap (both (upto ring p node.first)) e
    ∙ sym (both_assoc (upto ring p node.first) part side)
    ∙ ap (λ (t : Side). both (both (upto ring p node.first) t) side) (sym told)
    ∙ ap (λ (t : Side). both t side) (sym (side_upto p ring node.first node.past h))
    ∙ ap (λ (n : ℕ). both (upto ring p n) side) (sym (end_at nodes left some))
    ∙ before

-- ---- one more node
end_same : (nodes more : List RingPart) (k : ℕ) → k ≤ length nodes → end_before (nodes ++ more) k ≡ end_before nodes k
end_same nodes more zero h = refl
end_same nodes more (suc k) h = ap (λ (node : RingPart). node.past) (get_or-append nodes more no_node k (omega arith))

end_of_front : (olds nodes : List RingPart) (k : ℕ) → take (length olds) nodes ≡ olds → k ≤ length olds
    → end_before nodes k ≡ end_before olds k
end_of_front olds nodes zero e h = refl
end_of_front olds nodes (suc k) e h = grind (arith, get_or-take, get_or)

still_node : (ring : List Pt) (nodes more : List RingPart) (place : ℕ) (node : RingPart) → place ≤ length nodes
    → IsNode ring nodes place node → IsNode ring (nodes ++ more) place node
still_node ring nodes more place node within is = grind (arith, end_same)

pub front_shorter : (olds nodes : List RingPart) → take (length olds) nodes ≡ olds → length olds ≤ length nodes
front_shorter olds nodes e = grind (arith, length-take)

-- a node at the end of others, of a part that the last of them, as far as they are new, ends
pub record IsNext (ring : List Pt) (olds nodes : List RingPart) (node : RingPart) (first past : ℕ) : Type 0 where
  pub each : AreNodes ring nodes
  pub same : take (length olds) nodes ≡ olds
  pub begins : end_before olds (length olds) ≡ first
  pub long : length olds ≤ length nodes
  pub ends : length olds < length nodes → end_before nodes (length nodes) ≡ past
  pub some : first < past
  pub within : past ≤ length ring
  pub base : node.base ≡ length olds
  pub of_first : node.first ≡ first
  pub of_past : node.past ≡ past
  pub around : IsAroundPart node.around ring first past

last_node : (ring : List Pt) (olds nodes : List RingPart) (node : RingPart) (first past : ℕ) → IsNext ring olds nodes node first past
    → IsNode ring (nodes ++ node ∷ []) (length nodes) node
last_node ring olds nodes node first past is = grind (arith, end_same, end_of_front)

each_node : (ring : List Pt) (nodes : List RingPart) (node : RingPart) (place : ℕ) → AreNodes ring nodes
    → IsNode ring (nodes ++ node ∷ []) (length nodes) node → (place < length nodes) ⊎ (place ≡ length nodes)
    → IsNode ring (nodes ++ node ∷ []) place (node_at (nodes ++ node ∷ []) place)
each_node ring nodes node place each is (inl h) =
    subst (IsNode ring (nodes ++ node ∷ []) place) (sym (get_or-append nodes (node ∷ []) no_node place h))
    (still_node ring nodes (node ∷ []) place (node_at nodes place) (omega arith) (each place h))
each_node ring nodes node place each is (inr e) = grind (arith, get_or-append_seam)

pub one_more_node : (ring : List Pt) (olds nodes : List RingPart) (node : RingPart) (first past : ℕ)
    → IsNext ring olds nodes node first past → AreNodesUpTo ring (nodes ++ node ∷ []) past
one_more_node ring olds nodes node first past is =
    let all : List RingPart = nodes ++ node ∷ [] in
    let long : length all ≡ length nodes + 1 = length-append nodes (node ∷ []) in
    let longer : length all ≡ suc (length nodes) = omega arith in
    record {
      each = λ (place : ℕ) (h : place < length all).
          each_node ring nodes node place is.each (last_node ring olds nodes node first past is)
          (at_or_before place (length nodes) (omega arith));
      ends =
          ap (end_before all) longer ∙ ap (λ (n : RingPart). n.past) (get_or-append_seam nodes node [] no_node) ∙ is.of_past;
    }

pub told_part : (ring : List Pt) (node : RingPart) (p : Pt) (told : Option Side) (side : Side) → told ≡ Some side
    → IsSideOfPart ring node p told
    → side_by_all p (chain (before_of ring node.first) (part_of ring node.first node.past)) ≡ side
told_part ring node p None side e h = cc
told_part ring node p (Some other) side e h = let f : other ≡ side = cc in h ∙ f
