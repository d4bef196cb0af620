-- A right list has no more numbers than the triangulation has triangles: no triangle has two parts of one segment.
use Rattle.std.proofs.Common.{◌≡◌, ◌≢◌, ◌⊎◌, inl, inr, ℕ, ◌+◌, ◌<◌, ◌≤◌, true, false, List, [], ◌∷◌, ◌++◌, length}
use Rattle.std.proofs.Common.{◌∙◌, ap, arith}
use Rattle.std.specs.List.{AllByRecursion, IsDistinct, list_any}
use Rattle.std.proofs.Math.Dec.{eqb}
use Rattle.std.proofs.lemmas.Bool.{ne_eqb}
use Rattle.std.proofs.lemmas.Bool.Decides.{eqb_tells}
use Rattle.std.proofs.lemmas.List.{length-append}
use Rattle.std.proofs.lemmas.Map.Steps.{length-le_from_distinct_below}
use Rattle.plane_base.specs.declared.shapes.Pt.{Pt}
use Rattle.tin_base.specs.Triangulation.{Triangulation}
use Rattle.tin_base.specs.Segments.{Spot, at_a, IsNotAfter, IsPart}
use Rattle.tin_base.proofs.SegmentSpots.Ends.{IsSpot, not_both, no_later, no_later_trans, from_same}
use Rattle.sheet_pieces.proofs.PartSequences.{same_or}
use Rattle.cert_check.specs.Lines.{IsLine, HasNoLine}
use Rattle.cert_check.specs.RightLists.{AreFollowing, IsOneWith, IsRightList}
use Rattle.cert_check.specs.InsideSheetLists.{HasNoLineWithin, HasWrongLine}
use Rattle.cert_check.proofs.LineLaws.{one_line}
use Rattle.cert_check.proofs.LineNumbers.{IsReadTo}

-- ---- no triangle twice
-- the triangle has a part that begins at the spot or after it
record HasPartFrom (tin : Triangulation) (a b : Pt) (x : Spot) (t : ℕ) : Type 0 where
  first : Spot
  last : Spot
  part : IsPart tin a b t first last
  from : IsNotAfter x first

earlier : (tin : Triangulation) (a b : Pt) (x y : Spot) (ts : List ℕ) → IsSpot y → IsNotAfter x y
    → AllByRecursion (λ t. HasPartFrom tin a b y t) ts → AllByRecursion (λ t. HasPartFrom tin a b x t) ts
earlier tin a b x y [] some less all = tt
earlier tin a b x y (t ∷ ts) some less (has, others) =
    grind (arith, no_later_trans, earlier tin a b x y ts some less others)

parts_from : (tin : Triangulation) (a b : Pt) (x : Spot) (ts : List ℕ) → AreFollowing tin a b x ts
    → AllByRecursion (λ t. HasPartFrom tin a b x t) ts
parts_from tin a b x [] follow = tt
parts_from tin a b x (t ∷ ts) (first, last, part, same, follow) =
    grind (arith, from_same, no_later_trans, no_later, earlier, parts_from tin a b last ts follow)

-- a triangle with a part up to a spot has none from it on
not_from : (tin : Triangulation) (a b : Pt) (t u : ℕ) (first last : Spot) → IsPart tin a b t first last
    → HasPartFrom tin a b last u → t ≡ u → ⊥
not_from tin a b t u first last part has e = grind (arith, not_both, no_later_trans)

others_differ : (tin : Triangulation) (a b : Pt) (t : ℕ) (first last : Spot) (ts : List ℕ)
    → IsPart tin a b t first last → AllByRecursion (λ u. HasPartFrom tin a b last u) ts
    → AllByRecursion (λ u. eqb t u ≡ false) ts
others_differ tin a b t first last [] part all = tt
others_differ tin a b t first last (u ∷ us) part (has, others) = (
  ne_eqb t u (not_from tin a b t u first last part has),
  others_differ tin a b t first last us part others,
)

distinct : (tin : Triangulation) (a b : Pt) (x : Spot) (ts : List ℕ) → AreFollowing tin a b x ts → IsDistinct eqb ts
unfolding IsDistinct
distinct tin a b x [] follow = tt
distinct tin a b x (t ∷ ts) (first, last, part, same, follow) = (
  others_differ tin a b t first last ts part (parts_from tin a b last ts follow),
  distinct tin a b last ts follow,
)

-- ---- and each number is that of a triangle
in_range : (tin : Triangulation) (a b : Pt) (x : Spot) (ts : List ℕ) (q : ℕ) → AreFollowing tin a b x ts
    → list_any (eqb q) ts ≡ true → q < length tin.triangles
in_range tin a b x [] q follow found = cc
in_range tin a b x (t ∷ ts) q (first, last, part, begins, follow) found =
    grind (arith, eqb_tells, in_range tin a b last ts q follow)

one_few : (tin : Triangulation) (a : Pt) (numbers : List ℕ) → IsOneWith tin a numbers
    → length numbers ≤ length tin.triangles
one_few tin a numbers h = grind arith

right_few : (tin : Triangulation) (a b : Pt) (numbers : List ℕ) → IsRightList tin a b numbers
    → length numbers ≤ length tin.triangles
right_few tin a b numbers right = go (same_or a b)
  where
    go : (a ≡ b) ⊎ (a ≢ b) → length numbers ≤ length tin.triangles
    go (inl e) = one_few tin a numbers (right.0 e)
    go (inr differ) =
        let follow = right.1 differ in
        length-le_from_distinct_below numbers (length tin.triangles) (distinct tin a b at_a numbers follow)
        (λ q found. in_range tin a b at_a numbers q follow found)

-- ---- a line of more numbers
pub none_within : (text : List ℕ) (most : ℕ) → HasNoLine text → HasNoLineWithin text most
none_within text most none numbers rest few line = none rest (numbers, line)

-- there is a further number after as many as may be
pub too_many : (text rest numbers : List ℕ) (most : ℕ) → IsReadTo text rest numbers → most ≤ length numbers
    → HasNoLineWithin text most
too_many text rest numbers most so_far full ns more few line =
    let on = so_far.on in go (on.from more (ns, line))
  where
    sum : (k l m : ℕ) → k ≡ l + m → 0 < m → most ≤ l → k ≤ most → ⊥
    sum k l m e some over upto = absurd (omega arith)

    go : (ms : List ℕ) × IsLine rest ms more → ⊥
    go (ms, behind) =
        let same = one_line text ns (numbers ++ ms) more more line (so_far.read ms more behind) in
        let list = behind.list in
        sum (length ns) (length numbers) (length ms)
        (ap (λ (xs : List ℕ). length xs) same.numbers ∙ length-append numbers ms) list.some full few

-- a segment whose line has more numbers than there are triangles
pub wrong_within : (tin : Triangulation) (a b : Pt) (text : List ℕ) (most : ℕ) (rest numbers : List ℕ)
    → most ≡ length tin.triangles → IsLine text numbers rest → HasNoLineWithin text most → HasWrongLine tin a b text
wrong_within tin a b text most rest numbers count line none = grind (arith, right_few)
