-- Which triangles may go on from the spot where a segment leaves one.
use Rattle.std.proofs.Common.{◌≡◌, ◌≢◌, ⊎_elim, ℕ, ◌<◌, ◌≤◌, List, length, get_or, Contains, Option, Some, None, IfSome}
use Rattle.std.proofs.Common.{IfNone, sym, ◌∙◌, subst, arith}
use Rattle.std.proofs.lemmas.Bool.{cases_lt}
use Rattle.std.proofs.lemmas.Grind.{get_or_default_zero}
use Rattle.std.proofs.lemmas.List.Kept.{AllPairs-from_increasing}
use Rattle.std.specs.List.Sorted.{IsStrictlyIncreasing}
use Rattle.plane_base.specs.declared.shapes.Pt.{Pt}
use Rattle.tin_base.specs.Triangulation.{Triangulation}
use Rattle.tin_base.specs.Segments.{Spot, IsSameSpot, IsPart}
use Rattle.tin_base.proofs.SegmentSpots.Ends.{not_both, before_trans_left, from_same}
use Rattle.tin_index.specs.Sides.{HasCorner, IsAcross, IsStar}
use Rattle.seg_walk.specs.declared.steps.Step.{Step}
use Rattle.seg_walk.specs.InsideStarts.{HasNoPartFrom, HasNoneFrom, IsPartFrom, IsLeastAmong, GoesOn}
use Rattle.seg_walk.specs.InsideExits.{IsLeftAt}

-- it is not the one that is left there
pub another : (tin : Triangulation) (a b : Pt) (t k u : ℕ) (x f l : Spot) → IsLeftAt tin a b t k x
    → IsPart tin a b u f l → IsSameSpot f x → t ≢ u
another tin a b t k u x f l left p same e = grind (arith, not_both, before_trans_left, from_same)

-- ---- where each that goes on has a corner: the least of the corner's
pub goes_around : (tin : Triangulation) (a b : Pt) (x : Spot) (corner : ℕ) (star : List ℕ) (next : Option Step)
    → IsStar tin corner star
    → ((u : ℕ) (f l : Spot) → IsPart tin a b u f l → IsSameSpot f x → HasCorner tin u corner)
    → IfSome next (λ step. IsLeastAmong tin a b x star step)
    → IfNone next ((u : ℕ) → Contains star u → HasNoPartFrom tin a b x u) → GoesOn tin a b x next
goes_around tin a b x corner star None s each some none =
    λ u h f l p same. none u ((s.exact u).1 (h, each u f l p same)) f l p same
goes_around tin a b x corner star (Some step) s each some none =
    record {
      from = some.from;
      least = λ u h f l p same. some.least u h
          ((s.exact u).1 ((let q = p.in_range in q), each u f l p same)) f l p same;
    }

-- ---- where each that goes on is across a side: the one that is
pub goes_nowhere : (tin : Triangulation) (a b : Pt) (t k : ℕ) (x : Spot)
    → ((u : ℕ) (f l : Spot) → IsPart tin a b u f l → IsSameSpot f x → IsAcross tin t k u)
    → ((u : ℕ) → IsAcross tin t k u → ⊥) → HasNoneFrom tin a b x (length tin.triangles)
goes_nowhere tin a b t k x each none = λ u h f l p same. none u (each u f l p same)

pub goes_across : (tin : Triangulation) (a b : Pt) (t k other : ℕ) (x : Spot) (next : Option Step)
    → ((u : ℕ) (f l : Spot) → IsPart tin a b u f l → IsSameSpot f x → IsAcross tin t k u)
    → ((u : ℕ) → IsAcross tin t k u → u ≡ other)
    → IfSome next (λ step. step.tri ≡ other) → IfSome next (λ step. IsPartFrom tin a b x step)
    → IfNone next (HasNoPartFrom tin a b x other) → GoesOn tin a b x next
goes_across tin a b t k other x None each only is some none =
    λ u h f l p same. none f l (subst (λ (v : ℕ). IsPart tin a b v f l) (only u (each u f l p same)) p) same
goes_across tin a b t k other x (Some step) each only is some none =
    record { from = some; least = λ u h f l p same. let e = only u (each u f l p same) in absurd (omega (arith, e)) }

-- ---- the spot may be stated otherwise
pub goes_same : (tin : Triangulation) (a b : Pt) (x y : Spot) (next : Option Step)
    → ((f : Spot) → IsSameSpot f x → IsSameSpot f y) → ((f : Spot) → IsSameSpot f y → IsSameSpot f x)
    → GoesOn tin a b x next → GoesOn tin a b y next
goes_same tin a b x y None to from goes = λ u h f l p same. goes u h f l p (from f same)
goes_same tin a b x y (Some step) to from goes =
    let first = goes.from in
    record {
      from = record { slice = first.slice; part = first.part; begins = to _ first.begins };
      least =
          λ u h f l p same. goes.least u h f l p (from f same);
    }

-- ---- ascending numbers, where the first ones are known
pub known_before : (P : ℕ → Type 0) (numbers : List ℕ) (i u : ℕ) → IsStrictlyIncreasing numbers → i < length numbers
    → ((k : ℕ) → k < i → P (get_or numbers k 0)) → Contains numbers u → u < get_or numbers i 0 → P u
known_before P numbers i u up h known c below =
    grind (arith, get_or, get_or_default_zero, ⊎_elim, AllPairs-from_increasing, cases_lt)

pub known_all : (P : ℕ → Type 0) (numbers : List ℕ) (i u : ℕ) → length numbers ≤ i
    → ((k : ℕ) → k < i → P (get_or numbers k 0)) → Contains numbers u → P u
known_all P numbers i u h known c = subst P (sym (get_or_default_zero numbers c.0 u c.1) ∙ c.2)
    (known c.0 (let l = c.1 in omega (arith, l)))
