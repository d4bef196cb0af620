-- Boxes round border sides: a triangle that has no point in such a box meets the sides in it in no point.
use Rattle.std.proofs.Common.{◌≡◌, ◌≢◌, ◌⊎◌, inl, inr, ℕ, ◌+◌, ◌<◌, ◌≤◌, ℤ, pos, ◌-ℤ◌, ◌*ℤ◌, ◌≤ℤ◌, ◌<ℤ◌}
use Rattle.std.proofs.Common.{List, [], ◌∷◌, length, Bool, true, false, refl, sym, ◌∙◌, subst, arith}
use Rattle.std.specs.Prelude.{All, Contains}
use Rattle.std.proofs.lemmas.List.{get_or_default}
use Rattle.std.specs.Int.{int_min, int_max}
use Rattle.std.proofs.lemmas.Int.{ints, int_min_is, int_max_is}
use lib.Signed.{lt_z_yes}
use Rattle.integer_ring.proofs.Ring.{num, ◌⊕◌, ◌⊖◌, ◌⊗◌}
use Rattle.integer_ring.proofs.Claims.{◌≼◌, ◌≺◌, gap, over, ◌⊞◌, ◌⊠◌, ◌because◌, ◌⇒◌, follows}
use Rattle.plane_base.specs.declared.shapes.Pt.{Pt}
use Rattle.plane_base.specs.declared.shapes.Rect.{Rect}
use Rattle.plane_base.specs.declared.shapes.Tri.{Tri}
use Rattle.plane_base.specs.declared.shapes.TheConstants.{SPAN}
use Rattle.plane_base.specs.Plane.{Point, whole, turn_of, IsMix, IsNear, IsNearAll, corners_of}
use Rattle.tin_check.specs.TriangleBoxes.{IsBoxIn}
use Rattle.plane_base.specs.Boxes.{IsIn, AreIn, HasBox, AreApart, box_of_segment, box_of_boxes}
use Rattle.plane_base.proofs.Bounds.BoxLemmas.{segment_has, whole_in, mix_in, joined_has, none_in_both, three_places}
use Rattle.plane_base.proofs.Bounds.BoxLemmas.{in_larger}
use Rattle.plane_base.proofs.TriangleLaws.InTriangle.{turns_of_mix}
use Rattle.tin_base.specs.declared.frames.Frame.{Frame}
use Rattle.tin_base.specs.Triangulation.{Triangulation, place, corner_at, numbers_of, places}
use Rattle.tin_base.specs.Soundness.{has}
use Rattle.tin_base.specs.Limits.{IsWithinLimits}
use Rattle.tin_base.proofs.TriangleLemmas.Members.{one_of_three}
use Rattle.tin_base.proofs.TriangleLemmas.TriangleCorners.{near_points}
use Rattle.border_law.specs.Borders.{MeetAtCorner, BorderedTrianglesFit}
use Rattle.tin_check.proofs.PairFits.InBoxes.{places_in}
use Rattle.tin_check.specs.InsideProgress.{ArePositive, DoAllFit}
use Rattle.tin_check.specs.declared.borders.BorderSide.{BorderSide}
use Rattle.tin_check.specs.InsideBorders.{AreSides, HasMore, IsBorderOf, IsSideIn, IsSideBox, DoesMeet, no_side, side_at}
use Rattle.tin_check.specs.InsideBorders.{side_of}
use Rattle.tin_check.specs.declared.side_trees.SideTree.{SideTree}
use Rattle.tin_check.specs.declared.side_trees.SideTree.TheVariants.{Few, Parts'}
use Rattle.tin_check.specs.InsideSideTrees.{IsBoxNear, IsNearBox, IsAround, AreClear, IsRight, DoMeetFrom, IsTree, AreFar, AreTrianglesIn, DoAllMeet, DoSomeMeet, around_of}
use Rattle.tin_check.specs.InsideSideTrees.{first_of, past_of}
use Rattle.tin_check.proofs.BorderLemmas.SideMeetings.{meets_none}
use Rattle.tin_base.proofs.TriangleLemmas.NearTriangles.{corner_axis, second_axis, third_axis}
use Rattle.tin_base.proofs.TriangleLemmas.Closeness.{places_stand}

one : pos 0 <ℤ pos 1
one = lt_z_yes tt

below_or_not : (a b : ℕ) → (a < b) ⊎ (b ≤ a)
below_or_not a b = grind arith

-- ---- boxes of sides
least_near : (s a b z : ℤ) → (a -ℤ z) <ℤ s → (z -ℤ a) <ℤ s → (b -ℤ z) <ℤ s → (z -ℤ b) <ℤ s
    → ((int_min a b -ℤ z) <ℤ s) × ((z -ℤ int_min a b) <ℤ s)
least_near s a b z h i j k = (omega (arith, ints, int_min_is a b), omega (arith, ints, int_min_is a b))

greatest_near : (s a b z : ℤ) → (a -ℤ z) <ℤ s → (z -ℤ a) <ℤ s → (b -ℤ z) <ℤ s → (z -ℤ b) <ℤ s
    → ((int_max a b -ℤ z) <ℤ s) × ((z -ℤ int_max a b) <ℤ s)
greatest_near s a b z h i j k = (omega (arith, ints, int_max_is a b), omega (arith, ints, int_max_is a b))

abbrev pub pt : ℤ → ℤ → Pt
pt x y = record { x = x; y = y }

segment_near : (a b p : Pt) → IsNear a p → IsNear b p → IsBoxNear (box_of_segment a b) p
segment_near a b p h k =
    let x = least_near SPAN a.x b.x p.x h.0 h.1 k.0 k.1 in let y = least_near SPAN a.y b.y p.y h.2 h.3 k.2 k.3 in let u =
    greatest_near SPAN a.x b.x p.x h.0 h.1 k.0 k.1 in let v = greatest_near SPAN a.y b.y p.y h.2 h.3 k.2 k.3 in (
      (x.0, x.1, y.0, y.1),
      (u.0, u.1, v.0, v.1),
    )

joined_near : (a b : Rect) (p : Pt) → IsBoxNear a p → IsBoxNear b p → IsBoxNear (box_of_boxes a b) p
joined_near a b p h k =
    let x = least_near SPAN a.x0 b.x0 p.x h.0.0 h.0.1 k.0.0 k.0.1 in let y =
    least_near SPAN a.y0 b.y0 p.y h.0.2 h.0.3 k.0.2 k.0.3 in let u =
    greatest_near SPAN a.x1 b.x1 p.x h.1.0 h.1.1 k.1.0 k.1.1 in let v =
    greatest_near SPAN a.y1 b.y1 p.y h.1.2 h.1.3 k.1.2 k.1.3 in (
      (x.0, x.1, y.0, y.1),
      (u.0, u.1, v.0, v.1),
    )

pub side_around : (tin : Triangulation) (frame : Frame) (sides : List BorderSide) (first past : ℕ) (box : Rect)
    → IsWithinLimits tin → AreSides tin sides → first < length sides → past ≡ first + 1
    → IsSideBox tin frame (side_at sides first) box → IsAround tin frame sides first past box
side_around tin frame sides first past box limits all within e is = record {
  has = λ k from to. subst (λ (j : ℕ). AreIn box (places tin frame ((side_at sides j).from ∷ (side_at sides j).to ∷ [])))
      (same k from to) ends;
  near = λ n p hn at. subst (λ (b : Rect). IsBoxNear b p) (sym is.is) (segment_near is.from is.to p
      (near_points tin frame (side_at sides first).from n is.from p limits in_range.from hn is.at_from at)
      (near_points tin frame (side_at sides first).to n is.to p limits in_range.to hn is.at_to at));
}
  where
    in_range : IsSideIn tin (side_at sides first)
    in_range = all first no_side within

    same : (k : ℕ) → first ≤ k → k < past → first ≡ k
    same k from to = omega arith

    ends : AreIn box (places tin frame ((side_at sides first).from ∷ (side_at sides first).to ∷ []))
    ends = let both = segment_has is.from is.to in (
      subst (λ (x : Point). IsIn box x) is.at_from (subst (λ (r : Rect). IsIn r (whole is.from)) (sym is.is)
          (whole_in (box_of_segment is.from is.to) is.from both.0)),
      (
        subst (λ (x : Point). IsIn box x) is.at_to (subst (λ (r : Rect). IsIn r (whole is.to)) (sym is.is)
            (whole_in (box_of_segment is.from is.to) is.to both.1)),
        tt,
      ),
    )

ends_in : (tin : Triangulation) (frame : Frame) (i j : ℕ) (outer inner : Rect) → HasBox outer inner
    → AreIn inner (places tin frame (i ∷ j ∷ [])) → AreIn outer (places tin frame (i ∷ j ∷ []))
ends_in tin frame i j outer inner h a = (
  in_larger outer inner (place frame (corner_at tin i)) one h a.0,
  (in_larger outer inner (place frame (corner_at tin j)) one h a.1.0, tt),
)

pub joined_around : (tin : Triangulation) (frame : Frame) (sides : List BorderSide) (first middle past : ℕ)
    (low high : Rect) → IsAround tin frame sides first middle low → IsAround tin frame sides middle past high
    → IsAround tin frame sides first past (box_of_boxes low high)
joined_around tin frame sides first middle past low high a b = record {
  has = λ k from to. either k from to (below_or_not k middle);
  near = λ n p hn at. joined_near low high p (a.near n p hn at) (b.near n p hn at);
}
  where
    either : (k : ℕ) → first ≤ k → k < past → (k < middle) ⊎ (middle ≤ k)
        → AreIn (box_of_boxes low high) (places tin frame ((side_at sides k).from ∷ (side_at sides k).to ∷ []))
    either k from to (inl h) = ends_in tin frame (side_at sides k).from (side_at sides k).to (box_of_boxes low high) low
        (joined_has low high).0 (a.has k from h)
    either k from to (inr h) = ends_in tin frame (side_at sides k).from (side_at sides k).to (box_of_boxes low high) high
        (joined_has low high).1 (b.has k h to)

-- ---- when a triangle has no point in a box
pub apart_clear : (t : Tri) (own box : Rect) → AreIn own (corners_of t) → AreApart own box → AreClear t box
apart_clear t own box inside apart x hx mix is =
    none_in_both own box apart x hx (mix_in own (corners_of t) (three_places t) inside x hx mix) is

right_of : (px py qx qy ex ey x y w : ℤ) → pos 0 <ℤ w
    → turn_of (whole (pt px py)) (whole (pt qx qy)) (whole (pt ex ey)) <ℤ pos 0
    → ((qx -ℤ px) *ℤ y) ≤ℤ ((qx -ℤ px) *ℤ (ey *ℤ w)) → ((qy -ℤ py) *ℤ (ex *ℤ w)) ≤ℤ ((qy -ℤ py) *ℤ x)
    → turn_of (whole (pt px py)) (whole (pt qx qy)) (record { x = x; y = y; w = w }) <ℤ pos 0
right_of = follows 9 (λ px py qx qy ex ey x y w. num (pos 0) ≺ w
    ⇒ px ⊗ (qy ⊗ num (pos 1) ⊖ ey ⊗ num (pos 1)) ⊖ py ⊗ (qx ⊗ num (pos 1) ⊖ ex ⊗ num (pos 1))
    ⊕ num (pos 1) ⊗ (qx ⊗ ey ⊖ ex ⊗ qy) ≺ num (pos 0)
    ⇒ (qx ⊖ px) ⊗ y ≼ (qx ⊖ px) ⊗ (ey ⊗ w) ⇒ (qy ⊖ py) ⊗ (ex ⊗ w) ≼ (qy ⊖ py) ⊗ x
    ⇒ px ⊗ (qy ⊗ w ⊖ y ⊗ num (pos 1)) ⊖ py ⊗ (qx ⊗ w ⊖ x ⊗ num (pos 1)) ⊕ num (pos 1) ⊗ (qx ⊗ y ⊖ x ⊗ qy) ≺ num (pos 0)
    because gap 0 ⊠ over 1 ⊞ over 0 ⊞ gap 2 ⊞ gap 3) tt

up_over : (p q m y w : ℤ) → p ≤ℤ q → y ≤ℤ (m *ℤ w) → ((q -ℤ p) *ℤ y) ≤ℤ ((q -ℤ p) *ℤ (m *ℤ w))
up_over = follows 5 (λ p q m y w. p ≼ q ⇒ y ≼ m ⊗ w ⇒ (q ⊖ p) ⊗ y ≼ (q ⊖ p) ⊗ (m ⊗ w) because gap 0 ⊠ gap 1) tt

down_over : (p q m y w : ℤ) → q <ℤ p → (m *ℤ w) ≤ℤ y → ((q -ℤ p) *ℤ y) ≤ℤ ((q -ℤ p) *ℤ (m *ℤ w))
down_over = follows 5 (λ p q m y w. q ≺ p ⇒ m ⊗ w ≼ y ⇒ (q ⊖ p) ⊗ y ≼ (q ⊖ p) ⊗ (m ⊗ w) because gap 0 ⊠ gap 1) tt

up_under : (p q m x w : ℤ) → p ≤ℤ q → (m *ℤ w) ≤ℤ x → ((q -ℤ p) *ℤ (m *ℤ w)) ≤ℤ ((q -ℤ p) *ℤ x)
up_under = follows 5 (λ p q m x w. p ≼ q ⇒ m ⊗ w ≼ x ⇒ (q ⊖ p) ⊗ (m ⊗ w) ≼ (q ⊖ p) ⊗ x because gap 0 ⊠ gap 1) tt

down_under : (p q m x w : ℤ) → q <ℤ p → x ≤ℤ (m *ℤ w) → ((q -ℤ p) *ℤ (m *ℤ w)) ≤ℤ ((q -ℤ p) *ℤ x)
down_under = follows 5 (λ p q m x w. q ≺ p ⇒ x ≼ m ⊗ w ⇒ (q ⊖ p) ⊗ (m ⊗ w) ≼ (q ⊖ p) ⊗ x because gap 0 ⊠ gap 1) tt

pub corner_right : (p q : Pt) (ex ey : ℤ) (box : Rect)
    → ((p.y ≤ℤ q.y) × (ex ≡ box.x0)) ⊎ ((q.y <ℤ p.y) × (ex ≡ box.x1))
    → ((p.x ≤ℤ q.x) × (ey ≡ box.y1)) ⊎ ((q.x <ℤ p.x) × (ey ≡ box.y0))
    → turn_of (whole p) (whole q) (whole (pt ex ey)) <ℤ pos 0 → IsRight (whole p) (whole q) box
corner_right p q ex ey box hx hy turns x w is =
    right_of p.x p.y q.x q.y ex ey x.x x.y x.w w turns (above hy) (beside hx)
  where
    above : ((p.x ≤ℤ q.x) × (ey ≡ box.y1)) ⊎ ((q.x <ℤ p.x) × (ey ≡ box.y0))
        → ((q.x -ℤ p.x) *ℤ x.y) ≤ℤ ((q.x -ℤ p.x) *ℤ (ey *ℤ x.w))
    above (inl h) = subst (λ (m : ℤ). ((q.x -ℤ p.x) *ℤ x.y) ≤ℤ ((q.x -ℤ p.x) *ℤ (m *ℤ x.w))) (sym h.1)
        (up_over p.x q.x box.y1 x.y x.w h.0 is.top)
    above (inr h) = subst (λ (m : ℤ). ((q.x -ℤ p.x) *ℤ x.y) ≤ℤ ((q.x -ℤ p.x) *ℤ (m *ℤ x.w))) (sym h.1)
        (down_over p.x q.x box.y0 x.y x.w h.0 is.bottom)

    beside : ((p.y ≤ℤ q.y) × (ex ≡ box.x0)) ⊎ ((q.y <ℤ p.y) × (ex ≡ box.x1))
        → ((q.y -ℤ p.y) *ℤ (ex *ℤ x.w)) ≤ℤ ((q.y -ℤ p.y) *ℤ x.x)
    beside (inl h) = subst (λ (m : ℤ). ((q.y -ℤ p.y) *ℤ (m *ℤ x.w)) ≤ℤ ((q.y -ℤ p.y) *ℤ x.x)) (sym h.1)
        (up_under p.y q.y box.x0 x.x x.w h.0 is.left)
    beside (inr h) = subst (λ (m : ℤ). ((q.y -ℤ p.y) *ℤ (m *ℤ x.w)) ≤ℤ ((q.y -ℤ p.y) *ℤ x.x)) (sym h.1)
        (down_under p.y q.y box.x1 x.x x.w h.0 is.right)

not_below : (z : ℤ) → z <ℤ pos 0 → pos 0 ≤ℤ z → ⊥
not_below z h k = omega (arith, ints)

-- a side of the triangle has the box on its right
pub right_clear : (t : Tri) (box : Rect) → pos 0 <ℤ turn_of (whole t.a) (whole t.b) (whole t.c)
    → IsRight (whole t.a) (whole t.b) box
    ⊎ (IsRight (whole t.b) (whole t.c) box ⊎ IsRight (whole t.c) (whole t.a) box) → AreClear t box
right_clear t box d some x hx mix is =
    go (turns_of_mix (whole t.a) (whole t.b) (whole t.c) x one one one hx d mix) some
  where
    go : (pos 0 ≤ℤ turn_of (whole t.a) (whole t.b) x) × (pos 0 ≤ℤ turn_of (whole t.b) (whole t.c) x)
        × (pos 0 ≤ℤ turn_of (whole t.c) (whole t.a) x) → IsRight (whole t.a) (whole t.b) box
        ⊎ (IsRight (whole t.b) (whole t.c) box ⊎ IsRight (whole t.c) (whole t.a) box) → ⊥
    go left (inl r) = not_below (turn_of (whole t.a) (whole t.b) x) (r x hx is) left.0
    go left (inr (inl r)) = not_below (turn_of (whole t.b) (whole t.c) x) (r x hx is) left.1
    go left (inr (inr r)) = not_below (turn_of (whole t.c) (whole t.a) x) (r x hx is) left.2

-- ---- then it meets the sides in the box in no point

-- a corner of the triangle is in it
corner_mix : (tin : Triangulation) (frame : Frame) (ns : List ℕ) (k : ℕ) → length ns ≡ 3 → has ns k ≡ true
    → IsMix (place frame (corner_at tin k)) (places tin frame ns)
corner_mix tin frame [] k e h = cc
corner_mix tin frame (i ∷ []) k e h = cc
corner_mix tin frame (i ∷ j ∷ []) k e h = cc
corner_mix tin frame (i ∷ j ∷ m ∷ n ∷ ns) k e h = absurd (omega arith)
corner_mix tin frame (i ∷ j ∷ m ∷ []) k e h = go (one_of_three i j m k h)
  where
    a : Point
    a = place frame (corner_at tin i)

    b : Point
    b = place frame (corner_at tin j)

    c : Point
    c = place frame (corner_at tin m)

    mix_of : Point → Type 0
    mix_of x = IsMix x (a ∷ b ∷ c ∷ [])

    go : (i ≡ k) ⊎ ((j ≡ k) ⊎ (m ≡ k)) → IsMix (place frame (corner_at tin k)) (places tin frame (i ∷ j ∷ m ∷ []))
    go (inl f) = subst (λ (n : ℕ). mix_of (place frame (corner_at tin n))) f
        (1 ∷ 0 ∷ 0 ∷ [], refl, omega arith, (corner_axis a.x b.x c.x, corner_axis a.y b.y c.y))
    go (inr (inl f)) = subst (λ (n : ℕ). mix_of (place frame (corner_at tin n))) f
        (0 ∷ 1 ∷ 0 ∷ [], refl, omega arith, (second_axis a.x b.x c.x, second_axis a.y b.y c.y))
    go (inr (inr f)) = subst (λ (n : ℕ). mix_of (place frame (corner_at tin n))) f
        (0 ∷ 0 ∷ 1 ∷ [], refl, omega arith, (third_axis a.x b.x c.x, third_axis a.y b.y c.y))

-- a side whose ends are in a box that has no place of the triangle
one_clear : (tin : Triangulation) (frame : Frame) (side : BorderSide) (u : ℕ) (box : Rect) → IsWithinLimits tin
    → u < length tin.triangles
    → ((x : Point) → pos 0 <ℤ x.w → IsMix x (places tin frame (numbers_of tin u)) → IsIn box x → ⊥)
    → AreIn box (places tin frame (side.from ∷ side.to ∷ [])) → DoesMeet tin frame side u
one_clear tin frame side u box limits hu clear ends differ =
    meets_none tin frame side.from side.to u (lacks side.from ends.0) (lacks side.to ends.1.0)
    (λ h. clear h.0 h.1 h.3 (mix_in box (places tin frame (side.from ∷ side.to ∷ [])) (one, (one, tt)) ends h.0 h.1
    h.2))
  where
    lacks : (n : ℕ) → IsIn box (place frame (corner_at tin n)) → has (numbers_of tin u) n ≡ false
    lacks n is = go (has (numbers_of tin u) n) refl
      where
        go : (b : Bool) → has (numbers_of tin u) n ≡ b → b ≡ false
        go false e = refl
        go true e = absurd (clear (place frame (corner_at tin n)) one
            (corner_mix tin frame (numbers_of tin u) n (limits.three u hu) e) is)

pub clear_meets : (tin : Triangulation) (frame : Frame) (sides : List BorderSide) (first past u : ℕ) (t : Tri)
    (box : Rect) → IsWithinLimits tin → u < length tin.triangles → corners_of t ≡ places tin frame (numbers_of tin u)
    → AreClear t box → IsAround tin frame sides first past box → DoMeetFrom tin frame sides u first past
clear_meets tin frame sides first past u t box limits hu same clear around k from to =
    one_clear tin frame (side_at sides k) u box limits hu
    (λ x hx mix is. clear x hx (subst (λ (ps : List Point). IsMix x ps) (sym same) mix) is) (around.has k from to)

-- ---- triangles in a box that is apart from the sides
corners_in : (tin : Triangulation) (frame : Frame) (ns : List ℕ) (outer inner : Rect) → HasBox outer inner
    → AreIn inner (places tin frame ns) → AreIn outer (places tin frame ns)
corners_in tin frame [] outer inner h a = tt
corners_in tin frame (n ∷ ns) outer inner h a =
    (in_larger outer inner (place frame (corner_at tin n)) one h a.0, corners_in tin frame ns outer inner h a.1)

pub first_in : (tin : Triangulation) (frame : Frame) (n : ℕ) (box : Rect) → IsBoxIn tin frame n box
    → AreTrianglesIn tin frame n (n + 1) box
first_in tin frame n box is t from to =
    subst (λ (u : ℕ). AreIn box (places tin frame (numbers_of tin u))) (same t from to)
    (places_in tin frame n box is)
  where
    same : (k : ℕ) → n ≤ k → k < n + 1 → n ≡ k
    same k h l = omega arith

pub joined_in : (tin : Triangulation) (frame : Frame) (first n : ℕ) (around box joint : Rect)
    → AreTrianglesIn tin frame first n around → IsBoxIn tin frame n box → joint ≡ box_of_boxes around box
    → AreTrianglesIn tin frame first (n + 1) joint
joined_in tin frame first n around box joint are is e t from to = go (below_or_not t n)
  where
    go : (t < n) ⊎ (n ≤ t) → AreIn joint (places tin frame (numbers_of tin t))
    go (inl h) = subst (λ (r : Rect). AreIn r (places tin frame (numbers_of tin t))) (sym e)
        (corners_in tin frame (numbers_of tin t) (box_of_boxes around box) around (joined_has around box).0 (are t from h))
    go (inr h) = subst (λ (r : Rect). AreIn r (places tin frame (numbers_of tin t))) (sym e)
        (corners_in tin frame (numbers_of tin t) (box_of_boxes around box) box (joined_has around box).1
        (first_in tin frame n box is t h to))

pub far_meet : (tin : Triangulation) (frame : Frame) (sides : List BorderSide) (map : Rect) (first past low high : ℕ)
    → IsWithinLimits tin → high ≤ length tin.triangles → AreTrianglesIn tin frame low high map
    → AreFar tin frame sides map first past → DoSomeMeet tin frame sides first past low high
far_meet tin frame sides map first past low high limits within are far t from to k hf hp =
    let box = (far k hf hp).0 in
    one_clear tin frame (side_at sides k) t box limits (omega arith)
    (λ x hx mix is. none_in_both map box (far k hf hp).2 x hx (mix_in map (places tin frame (numbers_of tin t))
    (places_stand tin frame (numbers_of tin t)) (are t from to) x hx mix) is) (far k hf hp).1

parts_far : (tin : Triangulation) (frame : Frame) (sides : List BorderSide) (map : Rect) (first middle past : ℕ)
    → AreFar tin frame sides map first middle → AreFar tin frame sides map middle past
    → AreFar tin frame sides map first past
parts_far tin frame sides map first middle past a b k from to = go (below_or_not k middle)
  where
    go : (k < middle) ⊎ (middle ≤ k) → (box : Rect)
        × AreIn box (places tin frame ((side_at sides k).from ∷ (side_at sides k).to ∷ [])) × AreApart map box
    go (inl h) = a k from h
    go (inr h) = b k h to

-- ---- the tree
pub corner_near : (p q : Pt) (ex ey : ℤ) (box : Rect) → IsNear p q → IsBoxNear box p → IsBoxNear box q
    → ((p.y ≤ℤ q.y) × (ex ≡ box.x0)) ⊎ ((q.y <ℤ p.y) × (ex ≡ box.x1))
    → ((p.x ≤ℤ q.x) × (ey ≡ box.y1)) ⊎ ((q.x <ℤ p.x) × (ey ≡ box.y0)) → IsNearAll p q (pt ex ey)
corner_near p q ex ey box pq hp hq hx hy =
    let x = axis hx in let y = axis' hy in (pq, (x.0.1, x.0.0, y.0.1, y.0.0), (x.1.1, x.1.0, y.1.1, y.1.0))
  where
    axis : ((p.y ≤ℤ q.y) × (ex ≡ box.x0)) ⊎ ((q.y <ℤ p.y) × (ex ≡ box.x1))
        → (((ex -ℤ p.x) <ℤ SPAN) × ((p.x -ℤ ex) <ℤ SPAN)) × (((ex -ℤ q.x) <ℤ SPAN) × ((q.x -ℤ ex) <ℤ SPAN))
    axis (inl h) = subst (λ (z : ℤ). (((z -ℤ p.x) <ℤ SPAN) × ((p.x -ℤ z) <ℤ SPAN)) × (((z -ℤ q.x) <ℤ SPAN)
        × ((q.x -ℤ z) <ℤ SPAN))) (sym h.1) ((hp.0.0, hp.0.1), (hq.0.0, hq.0.1))
    axis (inr h) = subst (λ (z : ℤ). (((z -ℤ p.x) <ℤ SPAN) × ((p.x -ℤ z) <ℤ SPAN)) × (((z -ℤ q.x) <ℤ SPAN)
        × ((q.x -ℤ z) <ℤ SPAN))) (sym h.1) ((hp.1.0, hp.1.1), (hq.1.0, hq.1.1))

    axis' : ((p.x ≤ℤ q.x) × (ey ≡ box.y1)) ⊎ ((q.x <ℤ p.x) × (ey ≡ box.y0))
        → (((ey -ℤ p.y) <ℤ SPAN) × ((p.y -ℤ ey) <ℤ SPAN)) × (((ey -ℤ q.y) <ℤ SPAN) × ((q.y -ℤ ey) <ℤ SPAN))
    axis' (inl h) = subst (λ (z : ℤ). (((z -ℤ p.y) <ℤ SPAN) × ((p.y -ℤ z) <ℤ SPAN)) × (((z -ℤ q.y) <ℤ SPAN)
        × ((q.y -ℤ z) <ℤ SPAN))) (sym h.1) ((hp.1.2, hp.1.3), (hq.1.2, hq.1.3))
    axis' (inr h) = subst (λ (z : ℤ). (((z -ℤ p.y) <ℤ SPAN) × ((p.y -ℤ z) <ℤ SPAN)) × (((z -ℤ q.y) <ℤ SPAN)
        × ((q.y -ℤ z) <ℤ SPAN))) (sym h.1) ((hp.0.2, hp.0.3), (hq.0.2, hq.0.3))

-- the box of a tree is round its sides
pub tree_around : (tin : Triangulation) (frame : Frame) (sides : List BorderSide) (tree : SideTree)
    → IsTree tin frame sides tree → IsAround tin frame sides (first_of tree) (past_of tree) (around_of tree)
tree_around tin frame sides (Few around first past) is = is.1
tree_around tin frame sides (Parts' around x low y high) is = is.3

joined_meet : (tin : Triangulation) (frame : Frame) (sides : List BorderSide) (u first middle past : ℕ)
    → DoMeetFrom tin frame sides u first middle → DoMeetFrom tin frame sides u middle past
    → DoMeetFrom tin frame sides u first past
joined_meet tin frame sides u first middle past a b k from to = go (below_or_not k middle)
  where
    go : (k < middle) ⊎ (middle ≤ k) → DoesMeet tin frame (side_at sides k) u
    go (inl h) = a k from h
    go (inr h) = b k h to

pub more_meet : (tin : Triangulation) (frame : Frame) (sides : List BorderSide) (u first n : ℕ)
    → DoMeetFrom tin frame sides u first n → DoesMeet tin frame (side_at sides n) u
    → DoMeetFrom tin frame sides u first (n + 1)
more_meet tin frame sides u first n before here k from to = go (below_or_not k n)
  where
    go : (k < n) ⊎ (n ≤ k) → DoesMeet tin frame (side_at sides k) u
    go (inl h) = before k from h
    go (inr h) = subst (λ (j : ℕ). DoesMeet tin frame (side_at sides j) u) (omega arith) here

pub parts_meet : (tin : Triangulation) (frame : Frame) (sides : List BorderSide) (u : ℕ) (tree low high : SideTree)
    → first_of tree ≡ first_of low → past_of tree ≡ past_of high → past_of low ≡ first_of high
    → DoMeetFrom tin frame sides u (first_of low) (past_of low)
    → DoMeetFrom tin frame sides u (first_of high) (past_of high)
    → DoMeetFrom tin frame sides u (first_of tree) (past_of tree)
parts_meet tin frame sides u tree low high e f g a b k from to =
    joined_meet tin frame sides u (first_of low) (past_of low) (past_of high) a
    (λ n h. b n (subst (λ (m : ℕ). m ≤ n) g h)) k (subst (λ (m : ℕ). m ≤ k) e from) (subst (λ (m : ℕ). k < m) f to)

near_numbers : (tin : Triangulation) (frame : Frame) (sides : List BorderSide) (first past : ℕ) (t : Tri) (box : Rect)
    (ns : List ℕ) → IsAround tin frame sides first past box → length ns ≡ 3 → All (λ n. n < length tin.corners) ns
    → corners_of t ≡ places tin frame ns → IsNearBox t box
near_numbers tin frame sides first past t box [] around e all same = cc
near_numbers tin frame sides first past t box (i ∷ []) around e all same = cc
near_numbers tin frame sides first past t box (i ∷ j ∷ []) around e all same = cc
near_numbers tin frame sides first past t box (i ∷ j ∷ m ∷ n ∷ ns) around e all same = absurd (omega arith)
near_numbers tin frame sides first past t box (i ∷ j ∷ m ∷ []) around e all same = (
  around.near i t.a (all 0 0 (omega arith)) cc,
  around.near j t.b (all 1 0 (omega arith)) cc,
  around.near m t.c (all 2 0 (omega arith)) cc,
)

pub box_near_tri : (tin : Triangulation) (frame : Frame) (sides : List BorderSide) (first past u : ℕ) (t : Tri)
    (box : Rect) → IsWithinLimits tin → u < length tin.triangles → corners_of t ≡ places tin frame (numbers_of tin u)
    → IsAround tin frame sides first past box → IsNearBox t box
box_near_tri tin frame sides first past u t box limits hu same around =
    near_numbers tin frame sides first past t box (numbers_of tin u) around (limits.three u hu) (limits.in_range u hu) same

pub parts_tree : (tin : Triangulation) (frame : Frame) (sides : List BorderSide) (low high low' high' : SideTree)
    (box : Rect) → low' ≡ low → high' ≡ high → IsTree tin frame sides low → IsTree tin frame sides high
    → past_of low ≡ first_of high → box ≡ box_of_boxes (around_of low) (around_of high)
    → IsTree tin frame sides low' × IsTree tin frame sides high' × (past_of low' ≡ first_of high')
    × IsAround tin frame sides (first_of low') (past_of high') box
parts_tree tin frame sides low high low' high' box e f a b meet is =
    subst (λ (t : SideTree). parts t high') (sym e) (subst (λ (t : SideTree). parts low t) (sym f) (a, b, meet, around))
  where
    parts : SideTree → SideTree → Type 0
    parts t u = IsTree tin frame sides t × IsTree tin frame sides u × (past_of t ≡ first_of u)
        × IsAround tin frame sides (first_of t) (past_of u) box

    around : IsAround tin frame sides (first_of low) (past_of high) box
    around = subst (λ (r : Rect). IsAround tin frame sides (first_of low) (past_of high) r) (sym is)
        (joined_around tin frame sides (first_of low) (past_of low) (past_of high) (around_of low) (around_of high)
        (tree_around tin frame sides low a)
        (subst (λ (n : ℕ). IsAround tin frame sides n (past_of high) (around_of high)) (sym meet)
        (tree_around tin frame sides high b)))

-- all sides of the tree are far from the box
abbrev pub AreFarIn : Triangulation → Frame → List BorderSide → Rect → SideTree → Type 0
AreFarIn tin frame sides map tree = AreFar tin frame sides map (first_of tree) (past_of tree)

pub halves_far : (tin : Triangulation) (frame : Frame) (sides : List BorderSide) (map : Rect) (tree low high : SideTree)
    → first_of tree ≡ first_of low → past_of tree ≡ past_of high → past_of low ≡ first_of high
    → AreFarIn tin frame sides map low → AreFarIn tin frame sides map high
    → AreFar tin frame sides map (first_of tree) (past_of tree)
halves_far tin frame sides map tree low high e f g a b k from to =
    parts_far tin frame sides map (first_of low) (past_of low) (past_of high) a
    (λ n h. b n (subst (λ (m : ℕ). m ≤ n) g h)) k (subst (λ (m : ℕ). m ≤ k) e from) (subst (λ (m : ℕ). k < m) f to)

-- ---- all sides and all triangles
pub some_more_meet : (tin : Triangulation) (frame : Frame) (sides : List BorderSide) (first past low n high : ℕ)
    → DoSomeMeet tin frame sides first past low n → DoSomeMeet tin frame sides first past n high
    → DoSomeMeet tin frame sides first past low high
some_more_meet tin frame sides first past low n high a b t from to = go (below_or_not t n)
  where
    go : (t < n) ⊎ (n ≤ t) → DoMeetFrom tin frame sides t first past
    go (inl h) = a t from h
    go (inr h) = b t h to

pub one_more_meets : (tin : Triangulation) (frame : Frame) (sides : List BorderSide) (first past low n : ℕ)
    → DoSomeMeet tin frame sides first past low n → DoMeetFrom tin frame sides n first past
    → DoSomeMeet tin frame sides first past low (n + 1)
one_more_meets tin frame sides first past low n before here =
    some_more_meet tin frame sides first past low n (n + 1) before
    (λ t from to. subst (λ (u : ℕ). DoMeetFrom tin frame sides u first past) (omega arith) here)

pub fewer_meet : (tin : Triangulation) (frame : Frame) (sides : List BorderSide) (first past low high n : ℕ) → high ≤ n
    → DoSomeMeet tin frame sides first past low n → DoSomeMeet tin frame sides first past low high
fewer_meet tin frame sides first past low high n enough meet t from to = meet t from (omega arith)

pub all_meet : (tin : Triangulation) (frame : Frame) (sides : List BorderSide) (first past n : ℕ)
    → length tin.triangles ≤ n → DoSomeMeet tin frame sides first past 0 n → DoAllMeet tin frame sides first past
all_meet tin frame sides first past n enough meet t h = meet t (omega arith) (omega arith)

pub border_fits_all : (tin : Triangulation) (frame : Frame) (sides ordered : List BorderSide) (first past : ℕ)
    → BorderedTrianglesFit → ArePositive tin (length tin.triangles) → IsBorderOf tin sides → HasMore sides ordered
    → first ≡ 0 → past ≡ length ordered → DoAllMeet tin frame ordered first past → DoAllFit tin frame
border_fits_all tin frame sides ordered first past law positive border more from to meet t u order within =
    law tin border.mate frame (record {
      positive = positive frame;
      matching = border.matching;
      border = λ v w i j differ hw is. at v w i j differ hw (more (side_of v i j) (border.has v i j is));
    }) t u (λ e. absurd (omega arith)) (omega arith) within
  where
    at : (v w i j : ℕ) → v ≢ w → w < length tin.triangles → Contains ordered (side_of v i j)
        → MeetAtCorner tin frame i j w
    at v w i j differ hw (k, hk, is) =
        let same : side_at ordered k ≡ side_of v i j = get_or_default ordered k no_side (side_of v i j) hk ∙ is in
        subst (λ (s : BorderSide). DoesMeet tin frame s w) same (meet w hw k (omega (arith, from)) (omega (arith, to)))
        differ
