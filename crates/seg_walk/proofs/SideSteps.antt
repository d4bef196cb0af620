-- The step after a triangle that is left by a side, in each of its cases.
use Rattle.std.proofs.Common.{◌≡◌, ℕ, ◌<◌, List, length, get_or, All, Contains, Option, IfSome, IfNone, sym, subst}
use Rattle.std.proofs.lemmas.List.Elements.{Contains-get_or}
use Rattle.plane_base.specs.declared.shapes.Pt.{Pt}
use Rattle.tin_base.specs.Triangulation.{Triangulation}
use Rattle.tin_base.specs.Soundness.{IsSound}
use Rattle.tin_base.specs.Limits.{IsWithinLimits}
use Rattle.tin_base.specs.Segments.{Spot, IsSameSpot, IsPart}
use Rattle.tin_index.specs.Sides.{HasCorner, corner_of, next_of, IsAcross, IsStar}
use Rattle.seg_walk.specs.declared.steps.Step.{Step}
use Rattle.seg_walk.specs.InsideStarts.{HasNoPartFrom, HasNoneFrom, IsPartFrom, IsLeastAmong, GoesOn}
use Rattle.seg_walk.specs.InsideExits.{IsOnLine, IsLeftAt}
use Rattle.seg_walk.proofs.CommonCorners.{shares_first, shares_second, shares_side}
use Rattle.tin_base.proofs.PieceChains.Apart.{begun}
use Rattle.seg_walk.proofs.NextTriangles.{another, goes_around, goes_nowhere, goes_across}

pub around_first : (tin : Triangulation) (a b : Pt) (t k c : ℕ) (x : Spot) (star : List ℕ) (next : Option Step)
    → IsWithinLimits tin → IsSound tin → IsLeftAt tin a b t k x → c ≡ corner_of tin t k → IsOnLine tin a b c
    → IsStar tin c star
    → IfSome next (λ step. IsLeastAmong tin a b x star step)
    → IfNone next ((u : ℕ) → Contains star u → HasNoPartFrom tin a b x u) → GoesOn tin a b x next
around_first tin a b t k c x star next limits sound left e on s some none =
    let has_x = left.has in
    goes_around tin a b x c star next s
    (λ u f l p same. subst (λ (n : ℕ). HasCorner tin u n) (sym e)
    (shares_first tin a b t k u x limits sound left (subst (λ (n : ℕ). IsOnLine tin a b n) e on)
    (another tin a b t k u x f l left p same) p.in_range (begun tin a b u x f l sound has_x.some p same)))
    some none

pub around_second : (tin : Triangulation) (a b : Pt) (t k c d : ℕ) (x : Spot) (star : List ℕ) (next : Option Step)
    → IsWithinLimits tin → IsSound tin → IsLeftAt tin a b t k x → c ≡ corner_of tin t k
    → d ≡ corner_of tin t (next_of k) → (IsOnLine tin a b c → ⊥) → IsStar tin d star
    → IfSome next (λ step. IsLeastAmong tin a b x star step)
    → IfNone next ((u : ℕ) → Contains star u → HasNoPartFrom tin a b x u) → GoesOn tin a b x next
around_second tin a b t k c d x star next limits sound left e f off s some none =
    let has_x = left.has in
    goes_around tin a b x d star next s
    (λ u g l p same. subst (λ (n : ℕ). HasCorner tin u n) (sym f)
    (shares_second tin a b t k u x limits sound left (subst (λ (n : ℕ). IsOnLine tin a b n → ⊥) e off)
    (another tin a b t k u x g l left p same) p.in_range (begun tin a b u x g l sound has_x.some p same)))
    some none

-- each triangle that goes on is across
each_across : (tin : Triangulation) (a b : Pt) (t k c d : ℕ) (x : Spot) → IsWithinLimits tin → IsSound tin
    → IsLeftAt tin a b t k x → c ≡ corner_of tin t k → d ≡ corner_of tin t (next_of k) → (IsOnLine tin a b c → ⊥)
    → (IsOnLine tin a b d → ⊥)
    → (u : ℕ) (f l : Spot) → IsPart tin a b u f l → IsSameSpot f x → IsAcross tin t k u
each_across tin a b t k c d x limits sound left e f off off' u g l p same =
    let has_x = left.has in
    shares_side tin a b t k u x limits sound left (subst (λ (n : ℕ). IsOnLine tin a b n → ⊥) e off)
    (subst (λ (n : ℕ). IsOnLine tin a b n → ⊥) f off') (another tin a b t k u x g l left p same) p.in_range
    (begun tin a b u x g l sound has_x.some p same)

pub across_none : (tin : Triangulation) (a b : Pt) (t k c d : ℕ) (x : Spot) → IsWithinLimits tin → IsSound tin
    → IsLeftAt tin a b t k x → c ≡ corner_of tin t k → d ≡ corner_of tin t (next_of k) → (IsOnLine tin a b c → ⊥)
    → (IsOnLine tin a b d → ⊥)
    → ((u : ℕ) → IsAcross tin t k u → ⊥) → HasNoneFrom tin a b x (length tin.triangles)
across_none tin a b t k c d x limits sound left e f off off' none =
    goes_nowhere tin a b t k x (each_across tin a b t k c d x limits sound left e f off off') none

pub across_some : (tin : Triangulation) (a b : Pt) (t k c d other : ℕ) (x : Spot) (next : Option Step)
    → IsWithinLimits tin → IsSound tin → IsLeftAt tin a b t k x → c ≡ corner_of tin t k
    → d ≡ corner_of tin t (next_of k) → (IsOnLine tin a b c → ⊥) → (IsOnLine tin a b d → ⊥)
    → ((u : ℕ) → IsAcross tin t k u → u ≡ other) → IfSome next (λ step. step.tri ≡ other)
    → IfSome next (λ step. IsPartFrom tin a b x step) → IfNone next (HasNoPartFrom tin a b x other)
    → GoesOn tin a b x next
across_some tin a b t k c d other x next limits sound left e f off off' only is some none =
    goes_across tin a b t k other x next (each_across tin a b t k c d x limits sound left e f off off') only is some
    none

-- the numbers of a corner's triangles are those of triangles
pub star_below : (tin : Triangulation) (corner : ℕ) (star : List ℕ) → IsStar tin corner star
    → All (λ n. n < length tin.triangles) star
star_below tin corner star s k d h = ((s.exact (get_or star k d)).0 (Contains-get_or star k d h)).0
