-- Numbers and points of well-known text, and their millimetres.
use Rattle.std.specs.Prelude.{ℕ, ◌+◌, ◌≡◌, Bool, true, false, Result, Ok, Err, ℤ, pos, length}
use Rattle.std.specs.Prelude.{Option, Some, None}
use Rattle.mm_decimal.specs.AnswerValues.{millimetres_of}
use Rattle.mm_decimal.specs.Answers.{loss_of}
use Rattle.mm_decimal.specs.declared.numerals.MmRead.{MmRead}
use Rattle.mm_decimal.specs.declared.numerals.NumFault.{NumFault}
use Rattle.plane_base.specs.declared.shapes.Pt.{Pt}
use Rattle.sheet_base.specs.PointHeights.{Height, Position}
use Rattle.wkt_layer.specs.Tokens.{Number}

-- the numbers of a point: its coordinates, and its height where the geometry has Z
pub record Point : Type 0 where
  pub x : Number
  pub y : Number
  pub z : Option Number

-- the answer to a number's text fits: it is read, and where exact numbers are wanted it is exact
abbrev pub does_fit : Bool → Result MmRead NumFault → Bool
does_fit exact (Err fault) = false
does_fit true (Ok read) = read.exact
does_fit false (Ok read) = true

abbrev pub IsNumber : Bool → Number → Type 0
IsNumber exact number = does_fit exact (millimetres_of number.text) ≡ true

-- a height is in a geometry with Z, and in no other
abbrev pub IsThird : Bool → Bool → Option Number → Type 0
IsThird exact true (Some z) = IsNumber exact z
IsThird exact false None = Unit {0}
IsThird exact raised third = ⊥

-- a point of a geometry with Z, or without
abbrev pub IsPoint : Bool → Bool → Point → Type 0
IsPoint exact raised point = IsNumber exact point.x × IsNumber exact point.y × IsThird exact raised point.z

-- the number that is last in a point, and the place after it
abbrev pub last_number : Number → Option Number → Number
last_number y None = y
last_number y (Some z) = z

abbrev pub past_of : Point → ℕ
past_of point = (last_number point.y point.z).start + length (last_number point.y point.z).text

abbrev pub mm_in : Result MmRead NumFault → ℤ
mm_in (Ok read) = read.mm
mm_in (Err fault) = pos 0

-- the point in millimetres
abbrev pub place_of : Point → Pt
place_of point = record { x = mm_in (millimetres_of point.x.text); y = mm_in (millimetres_of point.y.text) }

abbrev pub height_in_third : Option Number → Height
height_in_third None = None
height_in_third (Some z) = Some (mm_in (millimetres_of z.text))

-- its height in millimetres, where it has one
abbrev pub height_of : Point → Height
height_of point = height_in_third point.z

abbrev pub position_of : Point → Position
position_of point = record { point = place_of point; height = height_of point }

-- 1 where the number lost digits
abbrev pub lost_in : Result MmRead NumFault → ℕ
lost_in (Ok read) = loss_of read
lost_in (Err fault) = 0

abbrev pub lost_in_third : Option Number → ℕ
lost_in_third None = 0
lost_in_third (Some z) = lost_in (millimetres_of z.text)

-- how many of the point's numbers lost digits
abbrev pub lost_of : Point → ℕ
lost_of point = lost_in (millimetres_of point.x.text) + lost_in (millimetres_of point.y.text) + lost_in_third point.z
