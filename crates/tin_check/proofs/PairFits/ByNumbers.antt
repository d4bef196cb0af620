-- Two triangles without a common number fit together where they have no common point.
use Rattle.std.proofs.Common.{◌≡◌, ℕ, Bool, false, List, [], ◌∷◌, length, map, refl, subst, arith}
use Rattle.plane_base.specs.declared.shapes.Pt.{Pt}
use Rattle.plane_base.specs.declared.shapes.Tri.{Tri}
use Rattle.tin_base.specs.Triangulation.{Triangulation, numbers_of}
use Rattle.tin_base.specs.Soundness.{has}
use Rattle.tin_check.specs.Marks.{points_of, marked_of}
use Rattle.tin_check.specs.InsideNumbers.{AreUnmarked}

none_of : (a b c : Bool) (p q r : Pt) → a ≡ false → b ≡ false → c ≡ false
    → marked_of (a ∷ b ∷ c ∷ []) (p ∷ q ∷ r ∷ []) ≡ []
none_of a b c p q r e f g = rw (e, f, g) refl

none_marked : (ns us : List ℕ) (t : Tri) → length ns ≡ 3 → AreUnmarked (map (has us) ns)
    → marked_of (map (has us) ns) (points_of t) ≡ []
none_marked [] us t three none = absurd (omega (arith, three))
none_marked (a ∷ []) us t three none = absurd (omega (arith, three))
none_marked (a ∷ b ∷ []) us t three none = absurd (omega (arith, three))
none_marked (a ∷ b ∷ c ∷ d ∷ ns) us t three none = absurd (omega (arith, three))
none_marked (a ∷ b ∷ c ∷ []) us t three none = none_of (has us a) (has us b) (has us c) t.a t.b t.c none.0 none.1 none.2

-- the marks, as they were read
pub none_read : (tin : Triangulation) (t u : ℕ) (marks : List Bool) (r : Tri) → length (numbers_of tin t) ≡ 3
    → marks ≡ map (has (numbers_of tin u)) (numbers_of tin t) → AreUnmarked marks → marked_of marks (points_of r) ≡ []
none_read tin t u marks r three same none =
    rw same (none_marked (numbers_of tin t) (numbers_of tin u) r three
    (subst (λ (ms : List Bool). AreUnmarked ms) same none))
