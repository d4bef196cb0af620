-- The text of a list of points with other numbers.
use Rattle.std.specs.Prelude.{ℕ, ◌≤◌, List, [], ◌∷◌, ◌++◌, drop, slice_range}
use Rattle.mm_decimal.specs.MetresTexts.{mm_text}
use Rattle.plane_base.specs.declared.shapes.Pt.{Pt}
use Rattle.tin_height.specs.declared.points.PointRow.{PointRow}
use Rattle.tin_height.specs.declared.raises.Raised.{Raised}

-- two numbers with a space (32) between them
abbrev pub point_text : Pt → List ℕ
point_text p = mm_text p.x ++ (32 ∷ mm_text p.y)

-- a point, a space and its height
abbrev pub raised_text : Raised → List ℕ
raised_text raised = point_text raised.p ++ (32 ∷ mm_text raised.z)

-- the bytes from this place on, with the numbers of each of these rows replaced; the others are kept
abbrev pub text_with_heights : List ℕ → ℕ → List PointRow → List Raised → List ℕ
text_with_heights bytes from [] raised = drop from bytes
text_with_heights bytes from (row ∷ rows) [] = drop from bytes
text_with_heights bytes from (row ∷ rows) (one ∷ raised) =
    slice_range bytes from row.start ++ (raised_text one ++ text_with_heights bytes row.end rows raised)

-- the rows are in order and apart, from the first place to the second
abbrev pub ArePlaced : ℕ → ℕ → List PointRow → Type 0
ArePlaced from past [] = from ≤ past
ArePlaced from past (row ∷ rows) = (from ≤ row.start) × (row.start ≤ row.end) × ArePlaced row.end past rows
