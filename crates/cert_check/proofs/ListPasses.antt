-- A list of triangles, number by number: whether it is right so far.
use Rattle.std.proofs.Common.{◌≡◌, ◌≢◌, ℕ, suc, ◌+◌, ◌<◌, ℤ, ◌-ℤ◌, ◌<ℤ◌, Bool, false, List, []}
use Rattle.std.proofs.Common.{◌∷◌, length, drop, get_or, sym, subst, arith}
use Rattle.std.specs.Prelude.{◌↔◌, IsTrue, Option, Some, None, IfSome, IfNone}
use Rattle.std.proofs.Math.Seq.{drop-cons}
use Rattle.frac128.specs.declared.frac.Frac.{Frac}
use Rattle.plane_base.specs.Plane.{IsNear}
use Rattle.plane_base.specs.declared.shapes.TheConstants.{SPAN}
use Rattle.plane_base.specs.declared.shapes.Pt.{Pt}
use Rattle.plane_base.specs.declared.stretches.Stretch.{Stretch}
use Rattle.tin_base.specs.Triangulation.{Triangulation}
use Rattle.tin_base.specs.Soundness.{IsSound}
use Rattle.tin_base.specs.Segments.{Spot, at_a, at_b, IsSameSpot, IsInside, IsPart}
use Rattle.tin_base.proofs.SegmentSpots.Ends.{IsSpot, no_later_trans, up_to_same, from_same, same_of}
use Rattle.cert_check.specs.RightLists.{AreFollowing, IsOneWith, IsRightList}
use Rattle.tin_base.specs.Slices.{spot_of}
use Rattle.cert_check.specs.InsideSlices.{spot_behind, IsPartAt, HasNoPartAt, EndsAtParam}
use Rattle.cert_check.proofs.ListPoints.{following_inside}

-- ---- one spot in place of another
pub same_trans : (s t u : Spot) → IsSpot t → IsSameSpot s t → IsSameSpot t u → IsSameSpot s u
same_trans s t u some h k = grind (arith, same_of, no_later_trans, up_to_same, from_same)

pub following_moved : (tin : Triangulation) (a b : Pt) (x y : Spot) (numbers : List ℕ) → IsSpot x → IsSameSpot x y
    → AreFollowing tin a b x numbers → AreFollowing tin a b y numbers
following_moved tin a b x y [] some same ends = same_trans y x at_b some (sym same) ends
following_moved tin a b x y (t ∷ ts) some same (first, last, part, begins, follow) =
    (first, last, part, same_trans first x y some begins same, follow)

-- ---- the list is right exactly where the rest of it is right after the part before
pub record IsFollowedTo (tin : Triangulation) (a b : Pt) (numbers : List ℕ) (i : ℕ) (before : Option Stretch) : Type 0
  where
    pub param : EndsAtParam before
    pub to : AreFollowing tin a b (spot_behind before) (drop i numbers) → AreFollowing tin a b at_a numbers
    pub from : IsInside tin a b → AreFollowing tin a b at_a numbers
        → AreFollowing tin a b (spot_behind before) (drop i numbers)

pub followed_start : (tin : Triangulation) (a b : Pt) (numbers : List ℕ) → IsFollowedTo tin a b numbers 0 None
followed_start tin a b numbers = record { param = tt; to = λ h. h; from = λ inside h. h }

pub followed_more : (tin : Triangulation) (a b : Pt) (numbers : List ℕ) (i : ℕ) (before : Option Stretch) (s : Stretch)
    → i < length numbers → IsFollowedTo tin a b numbers i before
    → IsPartAt tin a b (get_or numbers i 0) (spot_behind before) s → IsFollowedTo tin a b numbers (i + 1) (Some s)
followed_more tin a b numbers i before s h far here = go here.part
  where
    next : i + 1 ≡ suc i
    next = omega arith

    split : drop i numbers ≡ get_or numbers i 0 ∷ drop (suc i) numbers
    split = drop-cons numbers i 0 h

    behind : IsPart tin a b (get_or numbers i 0) (spot_of s.lo) (spot_of s.hi)
        → AreFollowing tin a b (spot_behind before) (get_or numbers i 0 ∷ drop (suc i) numbers)
        → AreFollowing tin a b (spot_of s.hi) (drop (suc i) numbers)
    behind part (first, last, also, begins, follow) =
        let has = also.has_last in
        following_moved tin a b last (spot_of s.hi) (drop (suc i) numbers) has.some
        (same_of last (spot_of s.hi) (part.none_after last also.has_last)
        (also.none_after (spot_of s.hi) part.has_last)) follow

    go : IsPart tin a b (get_or numbers i 0) (spot_of s.lo) (spot_of s.hi)
        → IsFollowedTo tin a b numbers (i + 1) (Some s)
    go part = subst (λ (n : ℕ). IsFollowedTo tin a b numbers n (Some s)) (sym next) (grind (arith, split, behind))

pub followed_none : (tin : Triangulation) (a b : Pt) (numbers : List ℕ) (i : ℕ) (before : Option Stretch) → IsSound tin
    → i < length numbers → IsFollowedTo tin a b numbers i before
    → (IsInside tin a b → HasNoPartAt tin a b (get_or numbers i 0) (spot_behind before))
    → AreFollowing tin a b at_a numbers → ⊥
followed_none tin a b numbers i before sound h far none follow = grind (arith, following_inside, drop-cons)

pub followed_all : (tin : Triangulation) (a b : Pt) (numbers : List ℕ) (i : ℕ) (before : Option Stretch) (test : Bool)
    → IsSound tin → drop i numbers ≡ [] → IsFollowedTo tin a b numbers i before
    → (IsTrue test ↔ IsSameSpot (spot_behind before) at_b) → IsTrue test ↔ AreFollowing tin a b at_a numbers
followed_all tin a b numbers i before test sound none far ends = grind (arith, following_inside)

-- ---- the end

pub at_last : (at : Frac) (x : Spot) (test : Bool) → spot_of at ≡ x → (IsTrue test ↔ (at.num ≡ at.den))
    → IsTrue test ↔ IsSameSpot x at_b
at_last at x test e is = grind arith

pub behind_some : (tin : Triangulation) (a b : Pt) (t : ℕ) (x y : Spot) (answer : Option Stretch) → x ≡ y
    → IfSome answer (λ s. IsPartAt tin a b t x s) → IfSome answer (λ s. IsPartAt tin a b t y s)
behind_some tin a b t x y answer e h = subst (λ (z : Spot). IfSome answer (λ s. IsPartAt tin a b t z s)) e h

pub behind_none : (tin : Triangulation) (a b : Pt) (t : ℕ) (x y : Spot) (answer : Option Stretch) → x ≡ y
    → IfNone answer (IsInside tin a b → HasNoPartAt tin a b t x)
    → IfNone answer (IsInside tin a b → HasNoPartAt tin a b t y)
behind_none tin a b t x y answer e h = subst (λ (z : Spot). IfNone answer (IsInside tin a b → HasNoPartAt tin a b t z))
    e h

-- ---- nearness
pub short_near : (p q : Pt) (test : Bool) (left right down up : ℤ) → left ≡ p.x -ℤ q.x → right ≡ q.x -ℤ p.x
    → down ≡ p.y -ℤ q.y → up ≡ q.y -ℤ p.y
    → (IsTrue test ↔ ((left <ℤ SPAN) × (right <ℤ SPAN) × (down <ℤ SPAN) × (up <ℤ SPAN))) → IsTrue test ↔ IsNear p q
short_near p q test left right down up el er ed eu is = grind arith

-- ---- a segment of one point, and one of two
pub right_same : (tin : Triangulation) (a b : Pt) (numbers : List ℕ) (test : Bool) → a ≡ b
    → (IsTrue test ↔ IsOneWith tin a numbers) → IsTrue test ↔ IsRightList tin a b numbers
right_same tin a b numbers test e is = (λ h. (λ _. is.0 h, λ differ. absurd (differ e)), λ right. is.1 (right.0 e))

pub right_differ : (tin : Triangulation) (a b : Pt) (numbers : List ℕ) (test : Bool) → a ≢ b
    → (IsTrue test ↔ AreFollowing tin a b at_a numbers) → IsTrue test ↔ IsRightList tin a b numbers
right_differ tin a b numbers test differ is =
    (λ h. (λ e. absurd (differ e), λ _. is.0 h), λ right. is.1 (right.1 differ))

-- ---- tests
pub refused : (test : Bool) (P : Type 0) → test ≡ false → (IsTrue test ↔ P) → P → ⊥
refused test P e is p = let h = is.1 p in cc

pub never : (P : Type 0) → (P → ⊥) → IsTrue false ↔ P
never P none = grind arith
