-- The box of all corners has the points of each triangle, and each of its points is near each corner.
use Rattle.std.proofs.Common.{◌≡◌, ◌⊎◌, ⊎_elim, ℕ, ◌+◌, ◌<◌, ◌≤◌, ℤ, ◌-ℤ◌, ◌≤ℤ◌}
use Rattle.std.proofs.Common.{◌<ℤ◌, List, length, get_or, sym, ap, ◌∙◌, subst, arith}
use Rattle.std.proofs.lemmas.Bool.{cases_lt}
use Rattle.std.proofs.lemmas.Int.{ints, int_min_is, int_max_is}
use Rattle.std.specs.Int.{int_min, int_max}
use Rattle.plane_base.specs.Plane.{Point, IsMix, whole, corners_of}
use Rattle.plane_base.specs.declared.shapes.Pt.{Pt}
use Rattle.plane_base.specs.declared.shapes.Rect.{Rect}
use Rattle.plane_base.specs.declared.shapes.Tri.{Tri}
use Rattle.plane_base.specs.declared.shapes.TheConstants.{SPAN}
use Rattle.plane_base.specs.Boxes.{HasPoint}
use Rattle.tin_base.specs.declared.corners.Corner.{Corner}
use Rattle.tin_base.specs.declared.frames.Frame.TheVariants.{Source}
use Rattle.tin_base.specs.Images.{IsInSome}
use Rattle.tin_base.specs.Limits.{IsWithinLimits}
use Rattle.tin_base.specs.Triangulation.{Triangulation, place, no_corner, corner_at, numbers_of, places}
use Rattle.tin_index.specs.Boxes.{source_at, IsNearCorners, IsOfOne, IsRound}
use Rattle.tin_index.proofs.SourceBoxes.{standing, tri_of}
use Rattle.tin_index.proofs.InBox.{in_box}
use Rattle.plane_base.proofs.Bounds.BoxLemmas.{lesser_is_one, greater_is_one}

-- ---- corner by corner
-- the corner as it is read
pub at_corner : (tin : Triangulation) (corners : List Corner) (n : ℕ) (p : Pt) → corners ≡ tin.corners
    → n < length corners → whole p ≡ place Source (get_or corners n no_corner)
    → whole p ≡ place Source (corner_at tin n)
at_corner tin corners n p e h is = is ∙ ap (λ (cs : List Corner). place Source (get_or cs n no_corner)) e

pub round_none : (tin : Triangulation) (rect : Rect) → IsRound tin 0 rect
round_none tin rect = grind arith

le_same : (y z : ℤ) → y ≡ z → y ≤ℤ z
le_same y z e = omega (arith, ints)

abbrev alone : Pt → Rect
alone p = record { x0 = p.x; y0 = p.y; x1 = p.x; y1 = p.y }

abbrev widened : Rect → Pt → Rect
widened rect p = record {
  x0 = int_min rect.x0 p.x;
  y0 = int_min rect.y0 p.y;
  x1 = int_max rect.x1 p.x;
  y1 =
      int_max rect.y1 p.y;
}

pub round_first : (tin : Triangulation) (p : Pt) (rect : Rect) (n : ℕ) → n ≡ 0
    → whole p ≡ place Source (corner_at tin n) → rect ≡ alone p → IsRound tin (n + 1) rect
round_first tin p rect n e is same = grind (arith, le_same)

of_one_more : (number : Pt → ℤ) (tin : Triangulation) (n : ℕ) (w y z : ℤ) → 0 < n → (0 < n → IsOfOne number tin n y)
    → z ≡ number (source_at tin n) → (w ≡ y) ⊎ (w ≡ z) → IsOfOne number tin (n + 1) w
of_one_more number tin n w y z some of is = grind arith

wider : (rect : Rect) (p q : Pt) → HasPoint rect q → HasPoint (widened rect p) q
wider rect p q h =
    let f = int_min_is rect.x0 p.x in let g = int_max_is rect.x1 p.x in let k = int_min_is rect.y0 p.y in let l =
    int_max_is rect.y1 p.y in
    let left = h.left in let right = h.right in let bottom = h.bottom in let top = h.top in
    record {
      left = omega (arith, ints);
      right = omega (arith, ints);
      bottom = omega (arith, ints);
      top =
          omega (arith, ints);
    }

has_new : (rect : Rect) (p : Pt) → HasPoint (widened rect p) p
has_new rect p = grind (arith, int_min_is, int_max_is)

pub round_more : (tin : Triangulation) (p : Pt) (old rect : Rect) (n : ℕ) → (n ≡ 0 → ⊥)
    → whole p ≡ place Source (corner_at tin n) → IsRound tin n old → rect ≡ widened old p → IsRound tin (n + 1) rect
round_more tin p old rect n more is r same =
    subst (λ (q : Rect). IsRound tin (n + 1) q) (sym same)
    (record {
      has = λ k h. ⊎_elim (λ l. wider old p (source_at tin k) (r.has k l))
          (λ l. subst (λ (m : ℕ). HasPoint (widened old p) (source_at tin m)) (last k h l) here) (cases_lt k n);
      left = λ _. of_one_more (λ q. q.x) tin n (int_min old.x0 p.x) old.x0 p.x some r.left x (lesser_is_one old.x0 p.x);
      right = λ _. of_one_more (λ q. q.x) tin n (int_max old.x1 p.x) old.x1 p.x some r.right x
          (greater_is_one old.x1 p.x);
      bottom = λ _. of_one_more (λ q. q.y) tin n (int_min old.y0 p.y) old.y0 p.y some r.bottom y
          (lesser_is_one old.y0 p.y);
      top = λ _. of_one_more (λ q. q.y) tin n (int_max old.y1 p.y) old.y1 p.y some r.top y (greater_is_one old.y1 p.y);
    })
  where
    some : 0 < n
    some = positive n more
      where
        positive : (n : ℕ) → (n ≡ 0 → ⊥) → 0 < n
        positive n more = grind arith

    x : p.x ≡ (source_at tin n).x
    x = ap (λ (q : Point). q.x) is

    y : p.y ≡ (source_at tin n).y
    y = ap (λ (q : Point). q.y) is

    last : (k : ℕ) → k < n + 1 → n ≤ k → n ≡ k
    last k h l = omega arith

    here : HasPoint (widened old p) (source_at tin n)
    here =
        let new = has_new old p in
        record {
          left = subst (λ (z : ℤ). (widened old p).x0 ≤ℤ z) (ap (λ (q : Point). q.x) is) new.left;
          right = subst (λ (z : ℤ). z ≤ℤ (widened old p).x1) (ap (λ (q : Point). q.x) is) new.right;
          bottom = subst (λ (z : ℤ). (widened old p).y0 ≤ℤ z) (ap (λ (q : Point). q.y) is) new.bottom;
          top = subst (λ (z : ℤ). z ≤ℤ (widened old p).y1) (ap (λ (q : Point). q.y) is) new.top;
        }

-- ---- a triangle's points
low_all : (l a b c z : ℤ) → l ≤ℤ a → l ≤ℤ b → l ≤ℤ c → int_min a (int_min b c) ≤ℤ z → l ≤ℤ z
low_all l a b c z ha hb hc h = omega (arith, ints, int_min_is a (int_min b c), int_min_is b c)

high_all : (m a b c z : ℤ) → a ≤ℤ m → b ≤ℤ m → c ≤ℤ m → z ≤ℤ int_max a (int_max b c) → z ≤ℤ m
high_all m a b c z ha hb hc h = omega (arith, ints, int_max_is a (int_max b c), int_max_is b c)

at_place : (tin : Triangulation) (rect : Rect) (n : ℕ) (p : Pt) → whole p ≡ place Source (corner_at tin n)
    → HasPoint rect (source_at tin n) → HasPoint rect p
at_place tin rect n p is h = grind arith

has_triangle : (rect : Rect) (tri : Tri) (p : Pt) → HasPoint rect tri.a → HasPoint rect tri.b → HasPoint rect tri.c
    → IsMix (whole p) (corners_of tri) → HasPoint rect p
has_triangle rect tri p ha hb hc m =
    let box = in_box tri p m in
    record {
      left = low_all rect.x0 tri.a.x tri.b.x tri.c.x p.x ha.left hb.left hc.left box.0.0;
      right = high_all rect.x1 tri.a.x tri.b.x tri.c.x p.x ha.right hb.right hc.right box.1.0;
      bottom = low_all rect.y0 tri.a.y tri.b.y tri.c.y p.y ha.bottom hb.bottom hc.bottom box.0.1;
      top = high_all rect.y1 tri.a.y tri.b.y tri.c.y p.y ha.top hb.top hc.top box.1.1;
    }

pub round_has : (tin : Triangulation) (rect : Rect) (p : Pt) → IsWithinLimits tin
    → IsRound tin (length tin.corners) rect → IsInSome tin Source (whole p) → HasPoint rect p
round_has tin rect p limits round inside = go (tri_of tin (numbers_of tin inside.0) (limits.three inside.0 inside.1))
  where
    go : (tri : Tri) × (corners_of tri ≡ places tin Source (numbers_of tin inside.0)) → HasPoint rect p
    go t =
        let s = standing tin t.0 (numbers_of tin inside.0) (limits.three inside.0 inside.1)
        (limits.in_range inside.0 inside.1) t.1 in
        has_triangle rect t.0 p (at_place tin rect s.i t.0.a s.is_a (round.has s.i s.first))
        (at_place tin rect s.j t.0.b s.is_b (round.has s.j s.second))
        (at_place tin rect s.k t.0.c s.is_c (round.has s.k s.third))
        (subst (λ (cs : List Point). IsMix (whole p) cs) (sym t.1) inside.2)

-- ---- a point of the box
between : (lo hi z c k m : ℤ) → lo ≤ℤ z → z ≤ℤ hi → lo ≡ k → hi ≡ m → ((c -ℤ k) <ℤ SPAN) → ((m -ℤ c) <ℤ SPAN)
    → ((c -ℤ z) <ℤ SPAN) × ((z -ℤ c) <ℤ SPAN)
between lo hi z c k m h l e f a b = (omega (arith, ints), omega (arith, ints))

pub round_near : (tin : Triangulation) (rect : Rect) (p : Pt) → IsWithinLimits tin
    → IsRound tin (length tin.corners) rect → HasPoint rect p → IsNearCorners tin p
round_near tin rect p limits round has n h =
    let some : 0 < length tin.corners = omega arith in
    let l = round.left some in let r = round.right some in let b = round.bottom some in let t = round.top some in
    let x = between rect.x0 rect.x1 p.x (source_at tin n).x (source_at tin l.0).x (source_at tin r.0).x has.left
    has.right l.2 r.2 (limits.near Source n l.0 h l.1).0 (limits.near Source r.0 n r.1 h).0 in
    let y = between rect.y0 rect.y1 p.y (source_at tin n).y (source_at tin b.0).y (source_at tin t.0).y has.bottom
    has.top b.2 t.2 (limits.near Source n b.0 h b.1).1 (limits.near Source t.0 n t.1 h).1 in
    (x.0, x.1, y.0, y.1)
