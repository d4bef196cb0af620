-- Edits that lie apart, and shapes with theirs.
use Rattle.std.proofs.Common.{ℕ, ◌≤◌, ◌<◌, List, [], ◌∷◌, ◌++◌, arith, inl, ◌≡◌, ◌+◌, length, refl, sym, subst}
use Rattle.std.proofs.Common.{inr, Option, None, Some}
use Rattle.std.specs.Prelude.{◌⊎◌, ⊤, unsigned_abs}
use Rattle.std.proofs.lemmas.List.{append-nil, append_assoc, length-append}
use Rattle.mm_decimal.specs.declared.limits.TheConstants.{LIMIT}
use Rattle.sheet_base.specs.declared.edits.Edit.{Edit}
use Rattle.sheet_base.specs.declared.paths.PathKind.{PathKind}
use Rattle.sheet_base.specs.declared.paths.PathKind.TheVariants.{Dot, Line, Loop}
use Rattle.sheet_base.specs.declared.paths.PathRow.{PathRow}
use Rattle.sheet_base.specs.Sheets.{Contents, AreTiled}
use Rattle.dxf_entities.specs.declared.drawing.Rise.{Rise}
use Rattle.dxf_entities.specs.Shapes.{Shape, rows_of, with_shape, with_shapes}

-- ---- edits that are apart from each other, in whatever order
-- the first of two edits ends before the other starts, or is whole after it and starts later
abbrev pub IsApart : Edit → Edit → Type 0
IsApart edit other = (edit.end ≤ other.start) ⊎ ((other.end ≤ edit.start) × (other.start < edit.start))

abbrev pub IsApartFromAll : Edit → List Edit → Type 0
IsApartFromAll edit [] = ⊤
IsApartFromAll edit (other ∷ edits) = IsApart edit other × IsApartFromAll edit edits

abbrev pub AreApart : List Edit → Type 0
AreApart [] = ⊤
AreApart (edit ∷ edits) = IsApartFromAll edit edits × AreApart edits

-- all lie between two places
abbrev pub AreWithin : ℕ → List Edit → ℕ → Type 0
AreWithin low [] high = ⊤
AreWithin low (edit ∷ edits) high = (low ≤ edit.start) × (edit.start ≤ edit.end) × (edit.end ≤ high)
    × AreWithin low edits high

pub record StandApart (low : ℕ) (edits : List Edit) (high : ℕ) : Type 0 where
  pub within : AreWithin low edits high
  pub apart : AreApart edits

within_wider : (low high less more : ℕ) (edits : List Edit) → AreWithin low edits high → less ≤ low → high ≤ more
    → AreWithin less edits more
within_wider low high less more [] all below above = tt
within_wider low high less more (edit ∷ edits) all below above =
    (omega (arith, all.0), all.1, omega (arith, all.2), within_wider low high less more edits all.3 below above)

pub wider : (low high less more : ℕ) (edits : List Edit) → StandApart low edits high → less ≤ low → high ≤ more
    → StandApart less edits more
wider low high less more edits all below above =
    record { within = within_wider low high less more edits all.within below above; apart = all.apart }

pub no_edits : (low high : ℕ) → StandApart low [] high
no_edits low high = record { within = tt; apart = tt }

within_both : (low high : ℕ) (edits more : List Edit) → AreWithin low edits high → AreWithin low more high
    → AreWithin low (edits ++ more) high
within_both low high [] more all rest = rest
within_both low high (edit ∷ edits) more all rest = (all.0, all.1, all.2, within_both low high edits more all.3 rest)

before_all : (edit : Edit) (middle high : ℕ) (edits : List Edit) → edit.end ≤ middle → AreWithin middle edits high
    → IsApartFromAll edit edits
before_all edit middle high [] ends all = tt
before_all edit middle high (other ∷ edits) ends all =
    (inl (omega (arith, all.0)), before_all edit middle high edits ends all.3)

from_both : (edit : Edit) (edits more : List Edit) → IsApartFromAll edit edits → IsApartFromAll edit more
    → IsApartFromAll edit (edits ++ more)
from_both edit [] more all rest = rest
from_both edit (other ∷ edits) more all rest = (all.0, from_both edit edits more all.1 rest)

apart_both : (low middle high : ℕ) (edits more : List Edit) → AreWithin low edits middle → AreApart edits
    → AreWithin middle more high → AreApart more → AreApart (edits ++ more)
apart_both low middle high [] more within all behind rest = rest
apart_both low middle high (edit ∷ edits) more within all behind rest =
    grind (arith, from_both, before_all, (apart_both low middle high edits more within.3 all.1 behind rest))

-- edits up to a place, and others from there on
pub both_apart : (low middle high : ℕ) (edits more : List Edit) → low ≤ middle → middle ≤ high
    → StandApart low edits middle → StandApart middle more high → StandApart low (edits ++ more) high
both_apart low middle high edits more below above first second = grind (arith, within_both, within_wider, apart_both)

-- ---- shapes whose paths are whole, and whose edits lie between two places, apart from each other and clear of a span
-- a path of this many points is whole
abbrev pub IsWholeBy : Option PathKind → ℕ → Type 0
IsWholeBy None count = count ≡ 0
IsWholeBy (Some Dot) count = count ≡ 1
IsWholeBy (Some Line) count = 0 < count
IsWholeBy (Some Loop) count = 0 < count

abbrev pub AreWhole : List Shape → Type 0
AreWhole [] = ⊤
AreWhole (shape ∷ shapes) = IsWholeBy shape.kind (length shape.points) × AreWhole shapes

-- the heights of a line's two ends are within reach
abbrev pub IsRiseWithin : Option Rise → Type 0
IsRiseWithin None = ⊤
IsRiseWithin (Some rise) = (unsigned_abs rise.begin.mm ≤ LIMIT) × (unsigned_abs rise.end.mm ≤ LIMIT)

abbrev pub AreRisesWithin : List Shape → Type 0
AreRisesWithin [] = ⊤
AreRisesWithin (shape ∷ shapes) = IsRiseWithin shape.rise × AreRisesWithin shapes

tiles_on : (paths more : List PathRow) (first middle past : ℕ) → AreTiled paths first middle → AreTiled more middle past
    → AreTiled (paths ++ more) first past
tiles_on [] more first middle past tiles rest = subst (λ n. AreTiled more n past) (sym tiles) rest
tiles_on (path ∷ paths) more first middle past tiles rest = (tiles.0, tiles_on paths more _ middle past tiles.1 rest)

row_tiles : (kind : Option PathKind) (first count : ℕ) → IsWholeBy kind count
    → AreTiled (rows_of kind first (first + count)) first (first + count)
row_tiles None first count whole = omega (arith, whole)
row_tiles (Some Dot) first count whole =
    (record { begins = refl; some = omega (arith, whole); dot = λ is. omega (arith, whole) }, refl)
row_tiles (Some Line) first count whole =
    (record { begins = refl; some = omega (arith, whole); dot = λ is. absurd (cc) }, refl)
row_tiles (Some Loop) first count whole =
    (record { begins = refl; some = omega (arith, whole); dot = λ is. absurd (cc) }, refl)

abbrev pub IsTiled : Contents → Type 0
IsTiled contents = AreTiled contents.paths 0 (length contents.points)

pub whole_tiles : (before : Contents) (shapes : List Shape) → IsTiled before → AreWhole shapes
    → IsTiled (with_shapes before shapes)
whole_tiles before [] tiled whole = tiled
whole_tiles before (shape ∷ shapes) tiled whole =
    grind (arith, length-append, tiles_on, row_tiles, (whole_tiles (with_shape before shape) shapes))

-- the edits of shapes after this many paths and points
abbrev pub path_behind : ℕ → ℕ → Shape → ℕ
path_behind path first shape = path + length (rows_of shape.kind first (first + length shape.points))

abbrev pub edits_with : ℕ → ℕ → List Shape → List Edit
edits_with path first [] = []
edits_with path first (shape ∷ shapes) = shape.edits path first
    ++ edits_with (path_behind path first shape) (first + length shape.points) shapes

pub edits_are : (before : Contents) (shapes : List Shape)
    → (with_shapes before shapes).edits ≡ before.edits ++ edits_with (length before.paths) (length before.points) shapes
edits_are before [] = sym (append-nil before.edits)
edits_are before (shape ∷ shapes) =
    grind (arith, length-append, append_assoc, (edits_are (with_shape before shape) shapes))

abbrev pub paths_past : ℕ → ℕ → List Shape → ℕ
paths_past path first [] = path
paths_past path first (shape ∷ shapes) = paths_past (path_behind path first shape) (first + length shape.points) shapes

abbrev pub points_past : ℕ → List Shape → ℕ
points_past first [] = first
points_past first (shape ∷ shapes) = points_past (first + length shape.points) shapes

pub edits_both : (path first : ℕ) (shapes more : List Shape)
    → edits_with path first (shapes ++ more) ≡ edits_with path first shapes
    ++ edits_with (paths_past path first shapes) (points_past first shapes) more
edits_both path first [] more = refl
edits_both path first (shape ∷ shapes) more =
    grind (arith, append_assoc, (edits_both (path_behind path first shape) (first + length shape.points) shapes more))

-- a span ends before another, or begins after it
abbrev pub IsClear : ℕ → ℕ → ℕ → ℕ → Type 0
IsClear low high start end = (end ≤ low) ⊎ (high ≤ start)

abbrev pub AreClear : ℕ → ℕ → List Edit → Type 0
AreClear low high [] = ⊤
AreClear low high (edit ∷ edits) = IsClear low high edit.start edit.end × AreClear low high edits

inner_clear : (low high start end from past : ℕ) → IsClear low high start end → start ≤ from → past ≤ end
    → IsClear low high from past
inner_clear low high start end from past (inl before) begins ends = inl (omega arith)
inner_clear low high start end from past (inr behind) begins ends = inr (omega arith)

pub within_clear : (low high start end : ℕ) (edits : List Edit) → IsClear low high start end → AreWithin start edits end
    → AreClear low high edits
within_clear low high start end [] clear within = tt
within_clear low high start end (edit ∷ edits) clear within =
    grind (arith, inner_clear, (within_clear low high start end edits clear within.3))

pub clear_both : (low high : ℕ) (edits more : List Edit) → AreClear low high edits → AreClear low high more
    → AreClear low high (edits ++ more)
clear_both low high [] more first second = second
clear_both low high (edit ∷ edits) more first second = (first.0, clear_both low high edits more first.1 second)

-- the shapes are whole, and their edits lie between the last two places, apart, and clear of the span of the first two
pub record AreGood (low high from : ℕ) (shapes : List Shape) (past : ℕ) : Type 0 where
  pub order : from ≤ past
  pub whole : AreWhole shapes
  pub rises : AreRisesWithin shapes
  pub apart : (path first : ℕ) → StandApart from (edits_with path first shapes) past
  pub clear : (path first : ℕ) → AreClear low high (edits_with path first shapes)

pub none_good : (low high from past : ℕ) → from ≤ past → AreGood low high from [] past
none_good low high from past order = grind (arith, no_edits)

pub all_good : (low high from past : ℕ) (shapes : List Shape) → from ≤ past → IsClear low high from past
    → AreWhole shapes → AreRisesWithin shapes → ((path first : ℕ) → StandApart from (edits_with path first shapes) past)
    → AreGood low high from shapes past
all_good low high from past shapes order clear whole rises apart = grind (arith, within_clear)

-- one shape, by its edits
pub one_good : (low high from past : ℕ) (shape : Shape) → from ≤ past → IsWholeBy shape.kind (length shape.points)
    → IsRiseWithin shape.rise → ((path first : ℕ) → StandApart from (shape.edits path first) past)
    → ((path first : ℕ) → AreClear low high (shape.edits path first)) → AreGood low high from (shape ∷ []) past
one_good low high from past shape order whole rise apart clear = grind (arith, append-nil)

whole_both : (shapes more : List Shape) → AreWhole shapes → AreWhole more → AreWhole (shapes ++ more)
whole_both [] more first second = second
whole_both (shape ∷ shapes) more first second = (first.0, whole_both shapes more first.1 second)

rises_both : (shapes more : List Shape) → AreRisesWithin shapes → AreRisesWithin more → AreRisesWithin (shapes ++ more)
rises_both [] more first second = second
rises_both (shape ∷ shapes) more first second = (first.0, rises_both shapes more first.1 second)

pub good_both : (low high from middle past : ℕ) (shapes more : List Shape) → AreGood low high from shapes middle
    → AreGood low high middle more past → AreGood low high from (shapes ++ more) past
good_both low high from middle past shapes more first second = record {
  order = omega (arith, first.order, second.order);
  whole = whole_both shapes more first.whole second.whole;
  rises = rises_both shapes more first.rises second.rises;
  apart = λ path point. subst (λ edits. StandApart from edits past) (sym (edits_both path point shapes more))
      (both_apart from middle past _ _ first.order second.order (first.apart path point) (second.apart (paths_past path
      point shapes) (points_past point shapes)));
  clear = grind (arith, edits_both, clear_both);
}

pub good_wider : (low high from past less more : ℕ) (shapes : List Shape) → AreGood low high from shapes past
    → less ≤ from → past ≤ more → AreGood low high less shapes more
good_wider low high from past less more shapes good below above = grind (arith, wider)
