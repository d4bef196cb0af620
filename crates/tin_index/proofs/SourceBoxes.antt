-- The boxes of the source triangles: none is empty, any two are near each other, and a triangle's has its points.
use Rattle.std.proofs.Common.{◌≡◌, ⊎_elim, ℕ, ◌+◌, ◌<◌, ◌≤◌, ℤ, pos, ◌-ℤ◌, ◌≤ℤ◌, ◌<ℤ◌, List, [], ◌∷◌, ◌++◌, length}
use Rattle.std.proofs.Common.{get_or, All, refl, sym, ap, ◌∙◌, subst, arith}
use Rattle.std.proofs.lemmas.Bool.{cases_lt}
use Rattle.std.proofs.lemmas.Int.{ints, int_min_is, int_max_is}
use Rattle.std.proofs.lemmas.List.{length_push, get_or_append_left, get_or_push, get_or_default}
use Rattle.std.specs.Int.{int_min, int_max}
use Rattle.plane_base.specs.Plane.{Point, IsMix, whole, corners_of}
use Rattle.plane_base.specs.declared.shapes.Pt.{Pt}
use Rattle.plane_base.specs.declared.shapes.Rect.{Rect}
use Rattle.plane_base.specs.declared.shapes.Tri.{Tri}
use Rattle.plane_base.specs.declared.shapes.TheConstants.{SPAN}
use Rattle.plane_base.specs.Boxes.{HasPoint, IsOrdered}
use Rattle.cell_grid.specs.Boxes.{AreOrdered, IsWithinSpan, AreWithinSpan, IsHolder, no_box}
use Rattle.tin_base.specs.declared.frames.Frame.TheVariants.{Source}
use Rattle.tin_base.specs.Triangulation.{Triangulation, place, corner_at, numbers_of, places, IsInTriangle}
use Rattle.tin_base.specs.Limits.{IsWithinLimits}
use Rattle.tin_base.proofs.TriangleLemmas.TriangleCorners.{near_points}
use Rattle.plane_base.specs.Boxes.{box_of_triangle}
use Rattle.tin_index.specs.Boxes.{source_at, AreBoxesOf}
use Rattle.tin_index.proofs.InBox.{in_box}

-- ---- one box more
pub no_boxes : (tin : Triangulation) (boxes : List Rect) → boxes ≡ [] → AreBoxesOf tin 0 boxes
no_boxes tin boxes e = record { count = ap length e; each = λ t h. absurd (omega arith) }

pub boxes_more : (tin : Triangulation) (n : ℕ) (xs ys : List Rect) (rect : Rect) (tri : Tri) → AreBoxesOf tin n xs
    → corners_of tri ≡ places tin Source (numbers_of tin n) → rect ≡ box_of_triangle tri → ys ≡ xs ++ rect ∷ []
    → AreBoxesOf tin (n + 1) ys
boxes_more tin n xs ys rect tri old stands same e =
    grind (arith, length_push, ⊎_elim, cases_lt, get_or_append_left, get_or_push)

-- ---- the box of a triangle
low_high : (a b c : ℤ) → int_min a (int_min b c) ≤ℤ int_max a (int_max b c)
low_high a b c = omega (
  arith,
  ints,
  int_min_is a (int_min b c),
  int_min_is b c,
  int_max_is a (int_max b c),
  int_max_is
      b c,
)

ordered : (tri : Tri) → IsOrdered (box_of_triangle tri)
ordered tri = (low_high tri.a.x tri.b.x tri.c.x, low_high tri.a.y tri.b.y tri.c.y)

pub all_ordered : (tin : Triangulation) (n : ℕ) (boxes : List Rect) → AreBoxesOf tin n boxes → AreOrdered boxes
all_ordered tin n boxes are k d h =
    let long = are.count in
    let one = are.each k (omega (arith, long)) in
    subst (λ (r : Rect). IsOrdered r) (sym one.same ∙ get_or_default boxes k no_box d h) (ordered one.tri)

pub holder : (tin : Triangulation) (boxes : List Rect) (t : ℕ) (p : Pt) → AreBoxesOf tin (length tin.triangles) boxes
    → t < length tin.triangles → IsInTriangle tin Source t (whole p) → IsHolder boxes p t
holder tin boxes t p are h m =
    let long = are.count in
    let one = are.each t h in
    let within = in_box one.tri p (subst (λ (cs : List Point). IsMix (whole p) cs) (sym one.stands) m) in (
      omega (arith, long),
      subst (λ (r : Rect). HasPoint r p) (sym one.same)
          (record { left = within.0.0; right = within.1.0; bottom = within.0.1; top = within.1.1 }),
    )

-- ---- boxes of near corners
spread_on : (a b c e f g : ℤ) → ((e -ℤ a) <ℤ SPAN) → ((e -ℤ b) <ℤ SPAN) → ((e -ℤ c) <ℤ SPAN) → ((f -ℤ a) <ℤ SPAN)
    → ((f -ℤ b) <ℤ SPAN) → ((f -ℤ c) <ℤ SPAN) → ((g -ℤ a) <ℤ SPAN) → ((g -ℤ b) <ℤ SPAN) → ((g -ℤ c) <ℤ SPAN)
    → (int_max e (int_max f g) -ℤ int_min a (int_min b c)) <ℤ SPAN
spread_on a b c e f g h0 h1 h2 h3 h4 h5 h6 h7 h8 =
    omega (arith, ints, int_min_is a (int_min b c), int_min_is b c, int_max_is e (int_max f g), int_max_is f g)

-- the corners of a triangle by their numbers
pub record Standing (tin : Triangulation) (tri : Tri) : Type 0 where
  pub i : ℕ
  pub j : ℕ
  pub k : ℕ
  pub first : i < length tin.corners
  pub second : j < length tin.corners
  pub third : k < length tin.corners
  pub is_a : whole tri.a ≡ place Source (corner_at tin i)
  pub is_b : whole tri.b ≡ place Source (corner_at tin j)
  pub is_c : whole tri.c ≡ place Source (corner_at tin k)

abbrev nowhere : Point
nowhere = record { x = pos 0; y = pos 0; w = pos 0 }

pub standing : (tin : Triangulation) (tri : Tri) (ns : List ℕ) → length ns ≡ 3 → All (λ n. n < length tin.corners) ns
    → corners_of tri ≡ places tin Source ns → Standing tin tri
standing tin tri (i ∷ j ∷ k ∷ []) e below is =
    record {
      i = i;
      j = j;
      k = k;
      first = below 0 0 (omega arith);
      second = below 1 0 (omega arith);
      third = below 2 0 (omega arith);
      is_a = ap (λ (ps : List Point). get_or ps 0 nowhere) is;
      is_b = ap (λ (ps : List Point). get_or ps 1 nowhere) is;
      is_c = ap (λ (ps : List Point). get_or ps 2 nowhere) is;
    }
standing tin tri ns e below is = absurd (omega arith)

-- two corners
far : (tin : Triangulation) (m n : ℕ) (p q : Pt) → IsWithinLimits tin → m < length tin.corners → n < length tin.corners
    → whole p ≡ place Source (corner_at tin m) → whole q ≡ place Source (corner_at tin n)
    → ((p.x -ℤ q.x) <ℤ SPAN) × ((p.y -ℤ q.y) <ℤ SPAN)
far tin m n p q limits hm hn e f =
    let near = near_points tin Source m n p q limits hm hn e f in (near.0, near.2)

within : (tin : Triangulation) (p q : Tri) → IsWithinLimits tin → Standing tin p → Standing tin q
    → IsWithinSpan (box_of_triangle p) (box_of_triangle q)
within tin p q limits s t =
    let aa = far tin t.i s.i q.a p.a limits t.first s.first t.is_a s.is_a in
    let ab = far tin t.i s.j q.a p.b limits t.first s.second t.is_a s.is_b in
    let ac = far tin t.i s.k q.a p.c limits t.first s.third t.is_a s.is_c in
    let ba = far tin t.j s.i q.b p.a limits t.second s.first t.is_b s.is_a in
    let bb = far tin t.j s.j q.b p.b limits t.second s.second t.is_b s.is_b in
    let bc = far tin t.j s.k q.b p.c limits t.second s.third t.is_b s.is_c in
    let ca = far tin t.k s.i q.c p.a limits t.third s.first t.is_c s.is_a in
    let cb = far tin t.k s.j q.c p.b limits t.third s.second t.is_c s.is_b in
    let cc' = far tin t.k s.k q.c p.c limits t.third s.third t.is_c s.is_c in (
      spread_on p.a.x p.b.x p.c.x q.a.x q.b.x q.c.x aa.0 ab.0 ac.0 ba.0 bb.0 bc.0 ca.0 cb.0 cc'.0,
      spread_on p.a.y p.b.y p.c.y q.a.y q.b.y q.c.y aa.1 ab.1 ac.1 ba.1 bb.1 bc.1 ca.1 cb.1 cc'.1,
    )

pub all_within : (tin : Triangulation) (boxes : List Rect) → IsWithinLimits tin
    → AreBoxesOf tin (length tin.triangles) boxes → AreWithinSpan boxes
all_within tin boxes limits are k d hk l e hl =
    let long = are.count in
    let p = are.each k (omega (arith, long)) in
    let q = are.each l (omega (arith, long)) in
    subst (λ (r : Rect). IsWithinSpan r (get_or boxes l e)) (sym p.same ∙ get_or_default boxes k no_box d hk)
    (subst (λ (r : Rect). IsWithinSpan (box_of_triangle p.tri) r) (sym q.same ∙ get_or_default boxes l no_box e hl)
    (within tin p.tri q.tri limits
    (standing tin p.tri (numbers_of tin k) (limits.three k (omega (arith, long)))
    (limits.in_range k (omega (arith, long))) p.stands)
    (standing tin q.tri (numbers_of tin l) (limits.three l (omega (arith, long)))
    (limits.in_range l (omega (arith, long))) q.stands)))

-- each triangle has a place
pub tri_of : (tin : Triangulation) (ns : List ℕ) → length ns ≡ 3 → (r : Tri) × (corners_of r ≡ places tin Source ns)
tri_of tin (i ∷ j ∷ k ∷ []) e = (record { a = source_at tin i; b = source_at tin j; c = source_at tin k }, refl)
tri_of tin ns e = absurd (omega arith)
