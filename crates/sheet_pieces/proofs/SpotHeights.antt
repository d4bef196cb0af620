-- The heights of the crossings of a segment: each has one exactly where both ends have one.
use Rattle.std.proofs.Common.{◌≡◌, ◌≢◌, ℕ, zero, suc, ◌+◌, ◌*◌, ◌-◌, ◌<◌, Bool, true, false, List}
use Rattle.std.proofs.Common.{[]}
use Rattle.std.proofs.Common.{◌∷◌, length, ap, refl, ◌∙◌, arith, Some, None}
use Rattle.std.specs.Option.{is_some}
use Rattle.std.specs.Prelude.{◌&&◌, if◌then◌else◌}
use Rattle.std.proofs.lemmas.Bool.Decides.{Decides-int_eq}
use Rattle.std.proofs.lemmas.Bool.{and_parts}
use Rattle.std.proofs.Math.Nat.{mul-pos}
use Rattle.plane_base.specs.declared.shapes.Pt.{Pt}
use Rattle.sheet_base.specs.PointHeights.{Height, height_in}
use Rattle.sheet_base.specs.ReadBack.{Ends}
use Rattle.sheet_base.specs.Rings.{is_same}
use Rattle.tin_base.specs.Triangulation.{Triangulation}
use Rattle.tin_base.specs.Soundness.{IsSound}
use Rattle.tin_base.specs.Segments.{Spot, Part, part_at, IsInside, ArePieces}
use Rattle.tin_base.specs.Segments.{ArePiecesOf}
use Rattle.tin_base.proofs.PieceChains.Chain.{chain}
use Rattle.sheet_pieces.specs.SpotHeights.{mixed_height, spot_height, crossing_heights}
use Rattle.sheet_pieces.proofs.PartSequences.{same_or}

-- ---- a spot between the ends
same_points : (p q : Pt) → is_same p q ≡ true → p ≡ q
same_points p q is = grind (arith, and_parts, Decides-int_eq)

not_same : (b : Bool) (a c : Pt) → a ≢ c → is_same a c ≡ b → b ≡ false
not_same true a c differ is = absurd (differ (same_points a c is))
not_same false a c differ is = refl

-- the spot is no end of the segment
pub record IsInner (a b : Pt) (s : Spot) : Type 0 where
  pub differ : a ≢ b
  pub of_a : 0 < s.of_a
  pub of_b : 0 < s.of_b

pub inner_height : (a b : Pt) (ends : Ends Height) (s : Spot) → IsInner a b s
    → spot_height a b ends s ≡ mixed_height s.of_a s.of_b ends.from ends.to
inner_height a b ends s inner = grind (arith, not_same)

mixed_some : (u v : ℕ) (p q : Height) → is_some (mixed_height u v p q) ≡ (is_some p && is_some q)
mixed_some u v None q = refl
mixed_some u v (Some a) None = refl
mixed_some u v (Some a) (Some b) = refl

-- ---- the last spots of all parts but the last
some_factor : (m n : ℕ) → 0 < m * n → 0 < m
some_factor zero n h = absurd (omega (arith, h))
some_factor (suc m) n h = omega arith

first_factor : (m n : ℕ) → 0 < m * n → 0 < n
first_factor m zero h = absurd (omega (arith, h))
first_factor m (suc n) h = omega arith

more_than : {m n : ℕ} → m < n → 0 < n
more_than {m = m} {n = n} h = omega arith

inner_spot : (tin : Triangulation) (a b : Pt) (parts : List Part) (i : ℕ) → IsSound tin → a ≢ b → IsInside tin a b
    → ArePieces tin a b parts → i + 1 < length parts → IsInner a b (part_at parts i).last
inner_spot tin a b parts i sound differ inside pieces h =
    grind (arith, chain, some_factor, more_than, first_factor, mul-pos)

pub cut_inner : (tin : Triangulation) (a b : Pt) (parts : List Part) (i : ℕ) → IsSound tin → IsInside tin a b
    → ArePiecesOf tin a b parts → i + 1 < length parts → IsInner a b (part_at parts i).last
cut_inner tin a b parts i sound inside cut h = grind (arith, same_or, inner_spot)

-- ---- the heights of crossings, one by one
pub crossing_count : (a b : Pt) (ends : Ends Height) (parts : List Part)
    → length (crossing_heights a b ends parts) ≡ length parts - 1
crossing_count a b ends (part ∷ next ∷ parts) = let e = crossing_count a b ends (next ∷ parts) in omega (arith, e)
crossing_count a b ends parts = refl

crossing_at : (a b : Pt) (ends : Ends Height) (parts : List Part) (i : ℕ) → i + 1 < length parts
    → height_in (crossing_heights a b ends parts) i ≡ spot_height a b ends (part_at parts i).last
crossing_at a b ends (part ∷ next ∷ parts) zero h = refl
crossing_at a b ends (part ∷ next ∷ parts) (suc i) h = crossing_at a b ends (next ∷ parts) i (omega (arith, h))
crossing_at a b ends parts i h = absurd (omega (arith, h))

-- each has one exactly where both ends have one
pub crossing_some : (tin : Triangulation) (a b : Pt) (ends : Ends Height) (parts : List Part) (i : ℕ) → IsSound tin
    → IsInside tin a b → ArePiecesOf tin a b parts → i < length (crossing_heights a b ends parts)
    → is_some (height_in (crossing_heights a b ends parts) i) ≡ (is_some ends.from && is_some ends.to)
crossing_some tin a b ends parts i sound inside cut h =
    let below : i + 1 < length parts = let e = crossing_count a b ends parts in omega (arith, e, h) in
    let last = (part_at parts i).last in
    ap (λ (z : Height). is_some z) (crossing_at a b ends parts i below
    ∙ inner_height a b ends last (cut_inner tin a b parts i sound inside cut below))
    ∙ mixed_some last.of_a last.of_b ends.from ends.to
