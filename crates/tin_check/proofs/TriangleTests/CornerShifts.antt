-- A triangle counted from another corner is the same triangle; and what marked corners are.
use Rattle.std.proofs.Common.{◌≡◌, ◌⊎◌, ◌↔◌, inl, inr, ◌≤◌, ℤ, pos, ◌<ℤ◌, Bool, true, false, IsTrue, List, [], ◌∷◌}
use Rattle.std.proofs.Common.{◌++◌, length, map, refl, sym, subst, arith}
use Rattle.plane_base.specs.Plane.{Point, IsMix, whole, corners_of}
use Rattle.plane_base.specs.declared.shapes.Pt.{Pt}
use Rattle.plane_base.specs.declared.shapes.Tri.{Tri}
use Rattle.plane_base.proofs.MixLaws.Turns.{turn_cycle}
use Rattle.plane_base.proofs.MixLaws.Mixes.{mix_swapped}
use Rattle.tin_check.specs.CommonPoints.{MeetOnlyIn}
use Rattle.tin_check.specs.Marks.{points_of, marked_of, IsAmong, HaveSamePoints, AreNearTris, next_of, IsCounted}
use Rattle.tin_check.proofs.TriangleTests.Places.{mix_next}
use Rattle.tin_check.proofs.TriangleTests.Tests.{IsPositive}

-- ---- the same corners, the same turn and the same points
pub record IsSameTriangle (t r : Tri) : Type 0 where
  pub among : (p : Pt) → IsAmong (points_of r) p → IsAmong (points_of t) p
  pub positive : IsPositive t → IsPositive r
  pub into : (p : Point) → IsMix p (corners_of t) → IsMix p (corners_of r)
  pub back : (p : Point) → IsMix p (corners_of r) → IsMix p (corners_of t)

itself : (t : Tri) → IsSameTriangle t t
itself t = record { among = λ p h. h; positive = λ h. h; into = λ p h. h; back = λ p h. h }

next_among : (t : Tri) (p : Pt) → IsAmong (points_of (next_of t)) p → IsAmong (points_of t) p
next_among t p (inl h) = inr (inl h)
next_among t p (inr (inl h)) = inr (inr (inl h))
next_among t p (inr (inr (inl h))) = inl h
next_among t p (inr (inr (inr h))) = absurd h

next_same : (t : Tri) → IsSameTriangle t (next_of t)
next_same t =
    record {
      among = next_among t;
      positive = λ h. subst (λ (z : ℤ). pos 0 <ℤ z) (turn_cycle (whole t.a) (whole t.b) (whole t.c)) h;
      into = λ p h. mix_next p (whole t.a) (whole t.b) (whole t.c) h;
      back = λ p h. mix_next p (whole t.c) (whole t.a) (whole t.b) (mix_next p (whole t.b) (whole t.c) (whole t.a) h);
    }

after : (t r s : Tri) → IsSameTriangle t r → IsSameTriangle r s → IsSameTriangle t s
after t r s f g =
    record {
      among = λ p h. f.among p (g.among p h);
      positive = λ h. g.positive (f.positive h);
      into = λ p h. g.into p (f.into p h);
      back = λ p h. f.back p (g.back p h);
    }

pub counted_same : (t r : Tri) → IsCounted t r → IsSameTriangle t r
counted_same t r (inl e) = subst (λ (s : Tri). IsSameTriangle t s) (sym e) (itself t)
counted_same t r (inr (inl e)) = subst (λ (s : Tri). IsSameTriangle t s) (sym e) (next_same t)
counted_same t r (inr (inr e)) = subst (λ (s : Tri). IsSameTriangle t s) (sym e)
    (after t (next_of t) (next_of (next_of t)) (next_same t) (next_same (next_of t)))

-- ---- what holds of two triangles, when one of them is counted from another corner
split : (ps qs : List Pt) (p : Pt) → IsAmong (ps ++ qs) p → IsAmong ps p ⊎ IsAmong qs p
split [] qs p h = inr h
split (q ∷ ps) qs p (inl h) = inl (inl h)
split (q ∷ ps) qs p (inr h) = more (split ps qs p h)
  where
    more : IsAmong ps p ⊎ IsAmong qs p → ((p ≡ q) ⊎ IsAmong ps p) ⊎ IsAmong qs p
    more (inl k) = inl (inr k)
    more (inr k) = inr k

in_left : (ps qs : List Pt) (p : Pt) → IsAmong ps p → IsAmong (ps ++ qs) p
in_left [] qs p h = absurd h
in_left (q ∷ ps) qs p (inl h) = inl h
in_left (q ∷ ps) qs p (inr h) = inr (in_left ps qs p h)

in_right : (ps qs : List Pt) (p : Pt) → IsAmong qs p → IsAmong (ps ++ qs) p
in_right [] qs p h = h
in_right (q ∷ ps) qs p h = inr (in_right ps qs p h)

still_among : (t r u s : Tri) → IsSameTriangle t r → IsSameTriangle u s → (p : Pt)
    → IsAmong (points_of r ++ points_of s) p → IsAmong (points_of t ++ points_of u) p
still_among t r u s f g p h = go (split (points_of r) (points_of s) p h)
  where
    go : IsAmong (points_of r) p ⊎ IsAmong (points_of s) p → IsAmong (points_of t ++ points_of u) p
    go (inl k) = in_left (points_of t) (points_of u) p (f.among p k)
    go (inr k) = in_right (points_of t) (points_of u) p (g.among p k)

still_near : (t r u s : Tri) → IsSameTriangle t r → IsSameTriangle u s → AreNearTris t u → AreNearTris r s
still_near t r u s f g near p q h k = near p q (still_among t r u s f g p h) (still_among t r u s f g q k)

pub first_near : (t r u : Tri) → IsCounted t r → AreNearTris t u → AreNearTris r u
first_near t r u h near = still_near t r u u (counted_same t r h) (itself u) near

pub second_near : (t u s : Tri) → IsCounted u s → AreNearTris t u → AreNearTris t s
second_near t u s h near = still_near t t u s (itself t) (counted_same u s h) near

pub first_meet : (t r u : Tri) (ps : List Point) → IsCounted t r
    → MeetOnlyIn (corners_of r) (corners_of u) ps ↔ MeetOnlyIn (corners_of t) (corners_of u) ps
first_meet t r u ps h =
    let same = counted_same t r h in (
      λ only p hp in_t in_u. only p hp (same.into p in_t) in_u,
      λ only p hp in_r in_u. only p hp (same.back p in_r) in_u,
    )

pub second_meet : (t u s : Tri) (ps : List Point) → IsCounted u s
    → MeetOnlyIn (corners_of t) (corners_of s) ps ↔ MeetOnlyIn (corners_of t) (corners_of u) ps
second_meet t u s ps h =
    let same = counted_same u s h in (
      λ only p hp in_t in_u. only p hp in_t (same.into p in_u),
      λ only p hp in_t in_s. only p hp in_t (same.back p in_s),
    )

pub through : {P Q R : Type 0} → P ↔ Q → Q ↔ R → P ↔ R
through i j = (λ p. j.0 (i.0 p), λ r. i.1 (j.1 r))

-- ---- marked corners are corners
pub marked_among : (marks : List Bool) (points : List Pt) (p : Pt) → IsAmong (marked_of marks points) p
    → IsAmong points p
marked_among [] points p h = absurd h
marked_among (m ∷ marks) [] p h = absurd h
marked_among (true ∷ marks) (q ∷ points) p (inl h) = inl h
marked_among (true ∷ marks) (q ∷ points) p (inr h) = inr (marked_among marks points p h)
marked_among (false ∷ marks) (q ∷ points) p h = inr (marked_among marks points p h)

-- a marked corner of the one triangle is a corner of the other
pub common_among : (ps : List Pt) (marks : List Bool) (u : Tri) (p : Pt)
    → HaveSamePoints ps (marked_of marks (points_of u)) → IsAmong ps p → IsAmong (points_of u) p
common_among ps marks u p same h = marked_among marks (points_of u) p ((same p).0 h)

abbrev pub IsSide : List Pt → Tri → Type 0
IsSide ps r = (ps ≡ r.a ∷ r.b ∷ []) ⊎ (ps ≡ r.b ∷ r.a ∷ [])

pub corner_among : (ps : List Pt) (p : Pt) → ps ≡ p ∷ [] → IsAmong ps p
corner_among ps p e = subst (λ (qs : List Pt). IsAmong qs p) (sym e) (inl refl)

pub side_first_among : (ps : List Pt) (r : Tri) → IsSide ps r → IsAmong ps r.a
side_first_among ps r (inl e) = subst (λ (qs : List Pt). IsAmong qs r.a) (sym e) (inl refl)
side_first_among ps r (inr e) = subst (λ (qs : List Pt). IsAmong qs r.a) (sym e) (inr (inl refl))

pub side_second_among : (ps : List Pt) (r : Tri) → IsSide ps r → IsAmong ps r.b
side_second_among ps r (inl e) = subst (λ (qs : List Pt). IsAmong qs r.b) (sym e) (inr (inl refl))
side_second_among ps r (inr e) = subst (λ (qs : List Pt). IsAmong qs r.b) (sym e) (inl refl)

-- ---- the answers, in the words of the marked corners
abbrev pub FitsIn : Tri → Tri → List Pt → Type 0
FitsIn t u ps = (length ps ≤ 2) × MeetOnlyIn (corners_of t) (corners_of u) (map whole ps)

few : (ps qs : List Pt) → ps ≡ qs → length qs ≤ 2 → length ps ≤ 2
few ps qs e h = subst (λ (xs : List Pt). length xs ≤ 2) (sym e) h

pub fits_by : (t u : Tri) (ps qs : List Pt) (found : Bool) → ps ≡ qs → length qs ≤ 2
    → IsTrue found ↔ MeetOnlyIn (corners_of t) (corners_of u) (map whole qs) → IsTrue found ↔ FitsIn t u ps
fits_by t u ps qs found e h i = (
  λ yes. (
    few ps qs e h,
    subst (λ (xs : List Pt). MeetOnlyIn (corners_of t) (corners_of u) (map whole xs)) (sym e)
        (i.0 yes),
  ),
  λ fit. i.1 (subst (λ (xs : List Pt). MeetOnlyIn (corners_of t) (corners_of u) (map whole xs)) e fit.1),
)

swapped : (t u : Tri) (p q : Pt) → MeetOnlyIn (corners_of t) (corners_of u) (whole p ∷ whole q ∷ [])
    ↔ MeetOnlyIn (corners_of t) (corners_of u) (whole q ∷ whole p ∷ [])
swapped t u p q = (
  λ only x hx in_t in_u. mix_swapped x (whole p) (whole q) (only x hx in_t in_u),
  λ only x hx in_t in_u. mix_swapped x (whole q) (whole p) (only x hx in_t in_u),
)

pub fits_at_side : (t u r : Tri) (ps : List Pt) (found : Bool) → IsSide ps r
    → IsTrue found ↔ MeetOnlyIn (corners_of t) (corners_of u) (whole r.a ∷ whole r.b ∷ [])
    → IsTrue found ↔ FitsIn t u ps
fits_at_side t u r ps found (inl e) i = fits_by t u ps (r.a ∷ r.b ∷ []) found e (omega arith) i
fits_at_side t u r ps found (inr e) i = fits_by t u ps (r.b ∷ r.a ∷ []) found e (omega arith)
    (through i (swapped t u r.a r.b))
