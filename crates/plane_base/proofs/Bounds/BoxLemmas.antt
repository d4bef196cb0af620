-- Boxes: mixes of places in a box are in it, the box of some points has them and is the least, and boxes that are apart
-- have no place in common.
use Rattle.std.proofs.Common.{◌≡◌, ◌⊎◌, inl, inr, ℕ, ℤ, pos, ◌+ℤ◌, ◌*ℤ◌, ◌≤ℤ◌, ◌<ℤ◌, List, [], ◌∷◌, ◌↔◌, ⊎_elim, IsTrue}
use Rattle.std.proofs.Common.{Bool, true, false, not, refl, subst, sym, ◌∙◌, ap₂, arith, to_z, of_z}
use Rattle.std.specs.Prelude.{FitsSigned}
use mir.Syntax.{w64}
use Rattle.std.proofs.lemmas.Int.{ints, int_min_is, int_max_is, to_z-of_z}
use Rattle.std.specs.Int.{int_min, int_max}
use lib.Signed.{lt_z_yes}
use Rattle.integer_ring.proofs.Ring.{num, neg, ◌⊕◌, ◌⊗◌}
use Rattle.integer_ring.proofs.Order.{nonneg_pos, ≤_or_>}
use Rattle.integer_ring.proofs.Claims.{◌≐◌, ◌≼◌, ◌≺◌, never, gap, over, eqn, ◌⊞◌, ◌⊠◌, ◌because◌, ◌otherwise◌, ◌⇒◌}
use Rattle.integer_ring.proofs.Claims.{follows}
use Rattle.plane_base.specs.declared.shapes.Pt.{Pt}
use Rattle.plane_base.specs.declared.shapes.Tri.{Tri}
use Rattle.plane_base.specs.declared.shapes.Rect.{Rect}
use Rattle.plane_base.specs.Plane.{Point, Same, weighted_sum, IsMix, whole, corners_of}
use Rattle.plane_base.specs.Laws.{ArePlaces}
use Rattle.plane_base.specs.Boxes.{HasPoint, IsIn, AreIn, HasBox, IsOrdered, ShareAPoint, AreApart, AreEither}
use Rattle.plane_base.specs.Boxes.{ShareAPointOrAreApart, box_of_point, box_of_segment, box_of_triangle, box_with_point}
use Rattle.plane_base.specs.Boxes.{box_of_boxes, common_of}
use Rattle.plane_base.proofs.MixLaws.Mixes.{weighed-place}

one : pos 0 <ℤ pos 1
one = lt_z_yes tt

-- ---- the lesser and the greater of two numbers
lesser_under : (a b : ℤ) → (int_min a b ≤ℤ a) × (int_min a b ≤ℤ b)
lesser_under a b = (omega (arith, ints, int_min_is a b), omega (arith, ints, int_min_is a b))

greater_over : (a b : ℤ) → (a ≤ℤ int_max a b) × (b ≤ℤ int_max a b)
greater_over a b = (omega (arith, ints, int_max_is a b), omega (arith, ints, int_max_is a b))

pub lesser_greatest : (m a b : ℤ) → m ≤ℤ a → m ≤ℤ b → m ≤ℤ int_min a b
lesser_greatest m a b h k = omega (arith, ints, int_min_is a b)

pub greater_least : (m a b : ℤ) → a ≤ℤ m → b ≤ℤ m → int_max a b ≤ℤ m
greater_least m a b h k = omega (arith, ints, int_max_is a b)

least_under : (a b c : ℤ) → (int_min a (int_min b c) ≤ℤ a) × (int_min a (int_min b c) ≤ℤ b)
    × (int_min a (int_min b c) ≤ℤ c)
least_under a b c = grind (arith, int_min_is)

greatest_over : (a b c : ℤ) → (a ≤ℤ int_max a (int_max b c)) × (b ≤ℤ int_max a (int_max b c))
    × (c ≤ℤ int_max a (int_max b c))
greatest_over a b c = grind (arith, int_max_is)

pub least_greatest : (m a b c : ℤ) → m ≤ℤ a → m ≤ℤ b → m ≤ℤ c → m ≤ℤ int_min a (int_min b c)
least_greatest m a b c h k l = lesser_greatest m a (int_min b c) h (lesser_greatest m b c k l)

pub greatest_least : (m a b c : ℤ) → a ≤ℤ m → b ≤ℤ m → c ≤ℤ m → int_max a (int_max b c) ≤ℤ m
greatest_least m a b c h k l = greater_least m a (int_max b c) h (greater_least m b c k l)

-- each is one of its numbers
pub lesser_is_one : (a b : ℤ) → (int_min a b ≡ a) ⊎ (int_min a b ≡ b)
lesser_is_one a b = grind (arith, ≤_or_>, int_min_is)

pub greater_is_one : (a b : ℤ) → (int_max a b ≡ a) ⊎ (int_max a b ≡ b)
greater_is_one a b = grind (arith, ≤_or_>, int_max_is)

one_of_three : (m n a b c : ℤ) → (m ≡ a) ⊎ (m ≡ n) → (n ≡ b) ⊎ (n ≡ c) → (m ≡ a) ⊎ ((m ≡ b) ⊎ (m ≡ c))
one_of_three m n a b c (inl e) k = inl e
one_of_three m n a b c (inr e) (inl f) = inr (inl (cc))
one_of_three m n a b c (inr e) (inr f) = inr (inr (cc))

pub least_is_one : (a b c : ℤ) → (int_min a (int_min b c) ≡ a)
    ⊎ ((int_min a (int_min b c) ≡ b) ⊎ (int_min a (int_min b c) ≡ c))
least_is_one a b c = one_of_three (int_min a (int_min b c)) (int_min b c) a b c (lesser_is_one a (int_min b c))
    (lesser_is_one b c)

pub greatest_is_one : (a b c : ℤ) → (int_max a (int_max b c) ≡ a)
    ⊎ ((int_max a (int_max b c) ≡ b) ⊎ (int_max a (int_max b c) ≡ c))
greatest_is_one a b c = one_of_three (int_max a (int_max b c)) (int_max b c) a b c (greater_is_one a (int_max b c))
    (greater_is_one b c)

-- ---- a mix of places in a box is in it
low_more : (m x w k y v : ℤ) → pos 0 ≤ℤ k → (m *ℤ w) ≤ℤ x → (m *ℤ v) ≤ℤ y → (m *ℤ (k *ℤ w +ℤ v)) ≤ℤ (k *ℤ x +ℤ y)
low_more = follows 6 (λ m x w k y v. num (pos 0) ≼ k ⇒ m ⊗ w ≼ x ⇒ m ⊗ v ≼ y ⇒ m ⊗ (k ⊗ w ⊕ v) ≼ k ⊗ x
    ⊕ y because gap 0 ⊠ gap 1 ⊞ gap 2) tt

high_more : (m x w k y v : ℤ) → pos 0 ≤ℤ k → x ≤ℤ (m *ℤ w) → y ≤ℤ (m *ℤ v) → (k *ℤ x +ℤ y) ≤ℤ (m *ℤ (k *ℤ w +ℤ v))
high_more = follows 6 (λ m x w k y v. num (pos 0) ≼ k ⇒ x ≼ m ⊗ w ⇒ y ≼ m ⊗ v ⇒ k ⊗ x ⊕ y ≼ m
    ⊗ (k ⊗ w ⊕ v) because gap 0 ⊠ gap 1 ⊞ gap 2) tt

low_moved : (m x w y v : ℤ) → pos 0 <ℤ w → pos 0 <ℤ v → x *ℤ v ≡ y *ℤ w → (m *ℤ v) ≤ℤ y → (m *ℤ w) ≤ℤ x
low_moved =
    follows 5 (λ m x w y v. num (pos 0) ≺ w ⇒ num (pos 0) ≺ v ⇒ x ⊗ v ≐ y ⊗ w ⇒ m ⊗ v ≼ y ⇒ m ⊗ w ≼ x
    otherwise over 4 ⊠ gap 1 ⊞ over 1 ⊞ eqn 2 (neg (num (pos 1))) ⊞ gap 0 ⊠ gap 3) tt

high_moved : (m x w y v : ℤ) → pos 0 <ℤ w → pos 0 <ℤ v → x *ℤ v ≡ y *ℤ w → y ≤ℤ (m *ℤ v) → x ≤ℤ (m *ℤ w)
high_moved =
    follows 5 (λ m x w y v. num (pos 0) ≺ w ⇒ num (pos 0) ≺ v ⇒ x ⊗ v ≐ y ⊗ w ⇒ y ≼ m ⊗ v ⇒ x ≼ m ⊗ w
    otherwise over 4 ⊠ gap 1 ⊞ over 1 ⊞ eqn 2 (num (pos 1)) ⊞ gap 0 ⊠ gap 3) tt

sum_in : (box : Rect) (ks : List ℕ) (ps : List Point) → AreIn box ps → IsIn box (weighted_sum ks ps)
sum_in box (k ∷ ks) (p ∷ ps) h =
    let here = h.0 in let rest = sum_in box ks ps h.1 in let s = weighted_sum ks ps in record {
      left = low_more box.x0 p.x p.w (pos k) s.x s.w (nonneg_pos k) here.left rest.left;
      right = high_more box.x1 p.x p.w (pos k) s.x s.w (nonneg_pos k) here.right rest.right;
      bottom = low_more box.y0 p.y p.w (pos k) s.y s.w (nonneg_pos k) here.bottom rest.bottom;
      top = high_more box.y1 p.y p.w (pos k) s.y s.w (nonneg_pos k) here.top rest.top;
    }
sum_in box ks ps h = grind arith

-- another spelling of a place in the box is in it
pub moved_in : (box : Rect) (r s : Point) → pos 0 <ℤ r.w → pos 0 <ℤ s.w → Same r s → IsIn box s → IsIn box r
moved_in box r s hr hs same h = record {
  left = low_moved box.x0 r.x r.w s.x s.w hr hs same.0 h.left;
  right = high_moved box.x1 r.x r.w s.x s.w hr hs same.0 h.right;
  bottom = low_moved box.y0 r.y r.w s.y s.w hr hs same.1 h.bottom;
  top = high_moved box.y1 r.y r.w s.y s.w hr hs same.1 h.top;
}

pub mix_in : (box : Rect) (ps : List Point) → ArePlaces ps → AreIn box ps → (r : Point) → pos 0 <ℤ r.w → IsMix r ps
    → IsIn box r
mix_in box ps are h r hr mix = moved_in box r (weighted_sum mix.0 ps) hr (weighed-place mix.0 ps mix.1 are mix.2) mix.3
    (sum_in box mix.0 ps h)

-- ---- whole points
at_once : (m x : ℤ) → m ≤ℤ x → (m *ℤ pos 1) ≤ℤ x
at_once m x h = omega (arith, ints)

at_most_once : (m x : ℤ) → x ≤ℤ m → x ≤ℤ (m *ℤ pos 1)
at_most_once m x h = omega (arith, ints)

from_once : (m x : ℤ) → (m *ℤ pos 1) ≤ℤ x → m ≤ℤ x
from_once m x h = omega (arith, ints)

from_at_most_once : (m x : ℤ) → x ≤ℤ (m *ℤ pos 1) → x ≤ℤ m
from_at_most_once m x h = omega (arith, ints)

-- a box has a whole point exactly where the point's place is in it
pub whole_in : (box : Rect) (p : Pt) → HasPoint box p → IsIn box (whole p)
whole_in box p h = grind (arith, at_once, at_most_once)

pub has_whole : (box : Rect) (p : Pt) → IsIn box (whole p) → HasPoint box p
has_whole box p h = grind (arith, from_once, from_at_most_once)

two_places : (a b : Pt) → ArePlaces (whole a ∷ whole b ∷ [])
two_places a b = (one, (one, tt))

pub three_places : (t : Tri) → ArePlaces (corners_of t)
three_places t = (one, (one, (one, tt)))

-- a box that has the ends of a segment has each of its places, and one with the corners of a triangle each of its
-- places
pub segment_in : (box : Rect) (a b : Pt) → HasPoint box a → HasPoint box b → (r : Point) → pos 0 <ℤ r.w
    → IsMix r (whole a ∷ whole b ∷ []) → IsIn box r
segment_in box a b ha hb r hr mix = mix_in box (whole a ∷ whole b ∷ []) (two_places a b)
    (whole_in box a ha, (whole_in box b hb, tt)) r hr mix

triangle_in : (box : Rect) (t : Tri) → HasPoint box t.a → HasPoint box t.b → HasPoint box t.c → (r : Point)
    → pos 0 <ℤ r.w → IsMix r (corners_of t) → IsIn box r
triangle_in box t ha hb hc r hr mix = mix_in box (corners_of t) (three_places t)
    (whole_in box t.a ha, (whole_in box t.b hb, (whole_in box t.c hc, tt))) r hr mix

-- ---- the box of one point, of two, and of a triangle has them, and each box that has them has it
pub point_has : (p : Pt) → HasPoint (box_of_point p) p
point_has p = grind arith

pub point_least : (box : Rect) (p : Pt) → HasPoint box p → HasBox box (box_of_point p)
point_least box p h = record { left = h.left; right = h.right; bottom = h.bottom; top = h.top }

pub segment_has : (a b : Pt) → HasPoint (box_of_segment a b) a × HasPoint (box_of_segment a b) b
segment_has a b = grind (arith, lesser_under, greater_over)

pub segment_least : (box : Rect) (a b : Pt) → HasPoint box a → HasPoint box b → HasBox box (box_of_segment a b)
segment_least box a b ha hb = grind (arith, lesser_greatest, greater_least)

pub record HasCorners (box : Rect) (t : Tri) : Type 0 where
  pub first : HasPoint box t.a
  pub second : HasPoint box t.b
  pub third : HasPoint box t.c

pub triangle_has : (t : Tri) → HasCorners (box_of_triangle t) t
triangle_has t =
    let x = least_under t.a.x t.b.x t.c.x in let y = least_under t.a.y t.b.y t.c.y in
    let z = greatest_over t.a.x t.b.x t.c.x in let w = greatest_over t.a.y t.b.y t.c.y in
    record {
      first = record { left = x.0; right = z.0; bottom = y.0; top = w.0 };
      second = record { left = x.1; right = z.1; bottom = y.1; top = w.1 };
      third = record { left = x.2; right = z.2; bottom = y.2; top = w.2 };
    }

-- each place of a segment is in its box, and each place of a triangle in its box
pub between_in : (a b : Pt) (r : Point) → pos 0 <ℤ r.w → IsMix r (whole a ∷ whole b ∷ []) → IsIn (box_of_segment a b) r
between_in a b r hr mix = let h = segment_has a b in segment_in (box_of_segment a b) a b h.0 h.1 r hr mix

pub inside_in : (t : Tri) (r : Point) → pos 0 <ℤ r.w → IsMix r (corners_of t) → IsIn (box_of_triangle t) r
inside_in t r hr mix = let h = triangle_has t in triangle_in (box_of_triangle t) t h.first h.second h.third r hr mix

-- ---- one more point, two boxes
pub widened_has : (rect : Rect) (p : Pt) → HasPoint (box_with_point rect p) p × HasBox (box_with_point rect p) rect
widened_has rect p = grind (arith, lesser_under, greater_over)

pub widened_least : (box rect : Rect) (p : Pt) → HasBox box rect → HasPoint box p → HasBox box (box_with_point rect p)
widened_least box rect p h k = grind (arith, lesser_greatest, greater_least)

pub joined_has : (p q : Rect) → HasBox (box_of_boxes p q) p × HasBox (box_of_boxes p q) q
joined_has p q = grind (arith, lesser_under, greater_over)

pub joined_least : (box p q : Rect) → HasBox box p → HasBox box q → HasBox box (box_of_boxes p q)
joined_least box p q h k = grind (arith, lesser_greatest, greater_least)

pub common_within : (p q : Rect) → HasBox p (common_of p q) × HasBox q (common_of p q)
common_within p q = grind (arith, greater_over, lesser_under)

low_of_one : (m a b w x : ℤ) → (m ≡ a) ⊎ (m ≡ b) → (a *ℤ w) ≤ℤ x → (b *ℤ w) ≤ℤ x → (m *ℤ w) ≤ℤ x
low_of_one m a b w x (inl e) h k = subst (λ (z : ℤ). (z *ℤ w) ≤ℤ x) (sym e) h
low_of_one m a b w x (inr e) h k = subst (λ (z : ℤ). (z *ℤ w) ≤ℤ x) (sym e) k

high_of_one : (m a b w x : ℤ) → (m ≡ a) ⊎ (m ≡ b) → x ≤ℤ (a *ℤ w) → x ≤ℤ (b *ℤ w) → x ≤ℤ (m *ℤ w)
high_of_one m a b w x (inl e) h k = subst (λ (z : ℤ). x ≤ℤ (z *ℤ w)) (sym e) h
high_of_one m a b w x (inr e) h k = subst (λ (z : ℤ). x ≤ℤ (z *ℤ w)) (sym e) k

-- a place of both is in what they have in common
pub common_has : (p q : Rect) (r : Point) → IsIn p r → IsIn q r → IsIn (common_of p q) r
common_has p q r h k = grind (arith, low_of_one, greater_is_one, high_of_one, lesser_is_one)

-- what the inner box has, the outer one has
pub outer_has : (outer inner : Rect) (p : Pt) → HasBox outer inner → HasPoint inner p → HasPoint outer p
outer_has outer inner p w h =
    record {
      left = omega (arith, ints, w.left, h.left);
      right = omega (arith, ints, w.right, h.right);
      bottom =
          omega (arith, ints, w.bottom, h.bottom);
      top = omega (arith, ints, w.top, h.top);
    }

pub outer_box : (r q p : Rect) → HasBox r q → HasBox q p → HasBox r p
outer_box r q p w h =
    record {
      left = omega (arith, ints, w.left, h.left);
      right = omega (arith, ints, w.right, h.right);
      bottom =
          omega (arith, ints, w.bottom, h.bottom);
      top = omega (arith, ints, w.top, h.top);
    }

-- ---- ordered boxes
not_past : (m n w x : ℤ) → pos 0 <ℤ w → (m *ℤ w) ≤ℤ x → x ≤ℤ (n *ℤ w) → m ≤ℤ n
not_past = follows 4 (λ m n w x. num (pos 0) ≺ w ⇒ m ⊗ w ≼ x ⇒ x ≼ n
    ⊗ w ⇒ m ≼ n otherwise over 3 ⊠ gap 0 ⊞ over 0 ⊞ gap 1 ⊞ gap 2) tt

-- a box that has a place is ordered
pub ordered_by : (box : Rect) (r : Point) → pos 0 <ℤ r.w → IsIn box r → IsOrdered box
ordered_by box r hr h = (
  not_past box.x0 box.x1 r.w r.x hr h.left h.right,
  not_past box.y0 box.y1 r.w r.y hr h.bottom
      h.top,
)

pub ordered_with : (box : Rect) (p : Pt) → HasPoint box p → IsOrdered box
ordered_with box p h = (omega (arith, ints, h.left, h.right), omega (arith, ints, h.bottom, h.top))

pub triangle_ordered : (t : Tri) → IsOrdered (box_of_triangle t)
triangle_ordered t = let h = triangle_has t in ordered_with (box_of_triangle t) t.a h.first

pub segment_ordered : (a b : Pt) → IsOrdered (box_of_segment a b)
segment_ordered a b = let h = segment_has a b in ordered_with (box_of_segment a b) a h.0

-- ---- boxes that are apart have no place in common
beyond : (m n x w : ℤ) → pos 0 <ℤ w → m <ℤ n → x ≤ℤ (m *ℤ w) → (n *ℤ w) ≤ℤ x → ⊥
beyond = follows 4 (λ m n x w. num (pos 0) ≺ w ⇒ m ≺ n ⇒ x ≼ m ⊗ w ⇒ n
    ⊗ w ≼ x ⇒ never because gap 2 ⊞ gap 3 ⊞ over 1 ⊠ gap 0 ⊞ over 0) tt

pub none_in_both : (p q : Rect) → AreApart p q → (r : Point) → pos 0 <ℤ r.w → IsIn p r → IsIn q r → ⊥
none_in_both p q (inl (inl h)) r w i j = beyond p.x1 q.x0 r.x r.w w h i.right j.left
none_in_both p q (inl (inr h)) r w i j = beyond q.x1 p.x0 r.x r.w w h j.right i.left
none_in_both p q (inr (inl h)) r w i j = beyond p.y1 q.y0 r.y r.w w h i.top j.bottom
none_in_both p q (inr (inr h)) r w i j = beyond q.y1 p.y0 r.y r.w w h j.top i.bottom

-- neither is past the other, on either axis
pub record DoMeet (p q : Rect) : Type 0 where
  pub left : p.x0 ≤ℤ q.x1
  pub right : q.x0 ≤ℤ p.x1
  pub bottom : p.y0 ≤ℤ q.y1
  pub top : q.y0 ≤ℤ p.y1

-- then the greater of both beginnings is in both
pub shared : (p q : Rect) → IsOrdered p → IsOrdered q → DoMeet p q → ShareAPoint p q
shared p q op oq meet =
    let x = greater_over p.x0 q.x0 in let y = greater_over p.y0 q.y0 in (
      record { x = int_max p.x0 q.x0; y = int_max p.y0 q.y0 },
      record {
        left = x.0;
        right = greater_least p.x1 p.x0 q.x0 op.0 meet.right;
        bottom = y.0;
        top =
            greater_least p.y1 p.y0 q.y0 op.1 meet.top;
      },
      record {
        left = x.1;
        right = greater_least q.x1 p.x0 q.x0 meet.left oq.0;
        bottom = y.1;
        top =
            greater_least q.y1 p.y0 q.y0 meet.bottom oq.1;
      },
    )

pub meeting : (p q : Rect) → ShareAPoint p q → DoMeet p q
meeting p q s = grind arith

not_apart : (p q : Rect) → DoMeet p q → AreApart p q → ⊥
not_apart p q m (inl (inl h)) = omega (arith, ints, m.right)
not_apart p q m (inl (inr h)) = omega (arith, ints, m.left)
not_apart p q m (inr (inl h)) = omega (arith, ints, m.top)
not_apart p q m (inr (inr h)) = omega (arith, ints, m.bottom)

meet_or_apart : (p q : Rect) → DoMeet p q ⊎ AreApart p q
meet_or_apart p q = grind (arith, ≤_or_>)

-- boxes are apart, or they are not
pub apart_or_not : (p q : Rect) → AreApart p q ⊎ (AreApart p q → ⊥)
apart_or_not p q = grind (arith, meet_or_apart, not_apart)

pub share_or_apart : ShareAPointOrAreApart
share_or_apart p q op oq = go (meet_or_apart p q)
  where
    go : DoMeet p q ⊎ AreApart p q → AreEither p q
    go (inl m) = grind (arith, not_apart, shared)
    go (inr a) =
        record {
          apart = (λ _. λ s. not_apart p q (meeting p q s) a, λ _. a);
          shared = (λ s. absurd (not_apart p q (meeting p q s) a), λ n. absurd (n a));
        }

-- ---- what the tests of both axes say
no_false : IsTrue false → ⊥
no_false e = cc

pub no_point : (rect : Rect) (p : Pt) → IsTrue false ↔ ((rect.x0 ≤ℤ p.x) × (p.x ≤ℤ rect.x1))
    → IsTrue false ↔ HasPoint rect p
no_point rect p told = (λ e. absurd (no_false e), λ h. told.1 (h.left, h.right))

pub point_if : (rect : Rect) (p : Pt) (y : Bool) → IsTrue true ↔ ((rect.x0 ≤ℤ p.x) × (p.x ≤ℤ rect.x1))
    → IsTrue y ↔ ((rect.y0 ≤ℤ p.y) × (p.y ≤ℤ rect.y1)) → IsTrue y ↔ HasPoint rect p
point_if rect p y first second = grind arith

apart_if : (p q : Rect) (y : Bool) → IsTrue false ↔ ((p.x1 <ℤ q.x0) ⊎ (q.x1 <ℤ p.x0))
    → IsTrue y ↔ ((p.y1 <ℤ q.y0) ⊎ (q.y1 <ℤ p.y0)) → IsTrue y ↔ AreApart p q
apart_if p q y first second = grind (arith, ⊎_elim, no_false)

pub shared_if : (p q : Rect) (b : Bool) → IsOrdered p → IsOrdered q → IsTrue b ↔ AreApart p q
    → IsTrue (not b) ↔ ShareAPoint p q
shared_if p q true op oq told = grind (arith, no_false, share_or_apart)
shared_if p q false op oq told = (λ _. (share_or_apart p q op oq).shared.1 (λ a. no_false (told.1 a)), λ _. refl)

-- ---- boxes as the code has them: each number in 64 bits
abbrev pub kept : ℤ → ℤ
kept n = to_z w64 (of_z w64 n)

pub record DoFit (rect : Rect) : Type 0 where
  pub x0 : FitsSigned w64 rect.x0
  pub y0 : FitsSigned w64 rect.y0
  pub x1 : FitsSigned w64 rect.x1
  pub y1 : FitsSigned w64 rect.y1

pub lesser_kept : (m a b : ℤ) → FitsSigned w64 m → FitsSigned w64 a → FitsSigned w64 b
    → m ≡ int_min (kept a) (kept b) → kept m ≡ int_min a b
lesser_kept m a b fm fa fb e =
    to_z-of_z w64 m fm ∙ (e ∙ ap₂ int_min (to_z-of_z w64 a fa) (to_z-of_z w64 b fb))

pub greater_kept : (m a b : ℤ) → FitsSigned w64 m → FitsSigned w64 a → FitsSigned w64 b
    → m ≡ int_max (kept a) (kept b) → kept m ≡ int_max a b
greater_kept m a b fm fa fb e =
    to_z-of_z w64 m fm ∙ (e ∙ ap₂ int_max (to_z-of_z w64 a fa) (to_z-of_z w64 b fb))

pub same_rect : (p q : Rect) → p.x0 ≡ q.x0 → p.y0 ≡ q.y0 → p.x1 ≡ q.x1 → p.y1 ≡ q.y1 → p ≡ q
same_rect p q e f g h = grind arith

pub apart_kept : (p q : Rect) → DoFit p → DoFit q → (y : Bool)
    → IsTrue false ↔ ((kept p.x1 <ℤ kept q.x0) ⊎ (kept q.x1 <ℤ kept p.x0))
    → IsTrue y ↔ ((kept p.y1 <ℤ kept q.y0) ⊎ (kept q.y1 <ℤ kept p.y0)) → IsTrue y ↔ AreApart p q
apart_kept p q f g y first second = grind (arith, apart_if, to_z-of_z)

-- ---- a point of a box is in a larger one
low_of_outer : (m n w x : ℤ) → pos 0 <ℤ w → m ≤ℤ n → (n *ℤ w) ≤ℤ x → (m *ℤ w) ≤ℤ x
low_of_outer = follows 4 (λ m n w x. num (pos 0) ≺ w ⇒ m ≼ n ⇒ n ⊗ w ≼ x ⇒ m ⊗ w ≼ x because gap 0 ⊠ gap 1 ⊞ gap 2) tt

high_of_outer : (m n w x : ℤ) → pos 0 <ℤ w → n ≤ℤ m → x ≤ℤ (n *ℤ w) → x ≤ℤ (m *ℤ w)
high_of_outer = follows 4 (λ m n w x. num (pos 0) ≺ w ⇒ n ≼ m ⇒ x ≼ n ⊗ w ⇒ x ≼ m ⊗ w because gap 0 ⊠ gap 1 ⊞ gap 2) tt

pub in_larger : (outer inner : Rect) (x : Point) → pos 0 <ℤ x.w → HasBox outer inner → IsIn inner x → IsIn outer x
in_larger outer inner x hx h i = record {
  left = low_of_outer outer.x0 inner.x0 x.w x.x hx h.left i.left;
  right = high_of_outer outer.x1 inner.x1 x.w x.x hx h.right i.right;
  bottom = low_of_outer outer.y0 inner.y0 x.w x.y hx h.bottom i.bottom;
  top = high_of_outer outer.y1 inner.y1 x.w x.y hx h.top i.top;
}
