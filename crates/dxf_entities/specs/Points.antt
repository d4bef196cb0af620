-- Points, inserts, texts and lines of a drawing (AutoCAD DXF reference, entities).
use Rattle.std.specs.Prelude.{ℕ, ℤ, pos, ◌+◌, Bool, false, ◌||◌, if◌then◌else◌, List, [], ◌∷◌, Option, None, Some}
use Rattle.std.specs.Prelude.{Result, Ok, Err}
use Rattle.std.specs.Ordering.{int_eq}
use Rattle.mm_decimal.specs.AnswerValues.{millimetres_of}
use Rattle.mm_decimal.specs.declared.numerals.MmRead.{MmRead}
use Rattle.mm_decimal.specs.declared.numerals.NumFault.{NumFault}
use Rattle.sheet_base.specs.declared.edits.What.TheVariants.{Lines}
use Rattle.sheet_base.specs.declared.paths.PathKind.TheVariants as paths
use Rattle.sheet_base.specs.declared.faults.LayerFault.{LayerFault}
use Rattle.sheet_base.specs.declared.faults.LayerFault.TheVariants.{Attribs}
use Rattle.dxf_pairs.specs.declared.pairs.Pair.{Pair}
use Rattle.dxf_pairs.specs.Groups.{value_in}
use Rattle.dxf_entities.specs.Entities.{Entity, entity_end}
use Rattle.dxf_entities.specs.Fields.{once, field_at, is_there, coordinate_of, coordinate_from, not_zero, zero_at}
use Rattle.dxf_entities.specs.Handles.{handle}
use Rattle.dxf_entities.specs.declared.drawing.PointFields.{PointFields}
use Rattle.dxf_entities.specs.declared.drawing.Rise.{Rise}
use Rattle.dxf_entities.specs.declared.points.LineFields.{LineFields}
use Rattle.dxf_entities.specs.Shapes.{Shape, point_of, lost_of, lost_by, spot_edits}

-- the point of the wanted fields of two codes, the first read before the second
abbrev pub spot_at : List ℕ → Bool → ℤ → ℤ → Entity → Result PointFields LayerFault
spot_at bytes exact x y entity =
    once (coordinate_from bytes exact x entity) (λ east.
    once (coordinate_from bytes exact y entity) (λ north.
    Ok (record { x = east; y = north })))

-- a dot, whose values are replaced
abbrev pub dot_of : PointFields → Shape
dot_of spot = record {
  kind = Some paths.Dot;
  points = point_of spot ∷ [];
  rise = None;
  lost = lost_of spot;
  dropped = 0;
  edits =
      λ path first. spot_edits first spot;
}

-- a point
abbrev pub point_shapes : List ℕ → Bool → Entity → Result (List Shape) LayerFault
point_shapes bytes exact entity = once (spot_at bytes exact (pos 10) (pos 20) entity) (λ spot. Ok (dot_of spot ∷ []))

-- an insert, which has no attributes
abbrev pub insert_shapes : List ℕ → Bool → Entity → Result (List Shape) LayerFault
insert_shapes bytes exact entity = once (zero_at bytes Attribs (pos 66) entity)
    (λ none. point_shapes bytes exact entity)

-- the second point of a text, where its first or its second justification is not zero
abbrev pub second_by : List ℕ → Bool → Entity → Option Pair → Option Pair → Result (Option PointFields) LayerFault
second_by bytes exact entity across along =
    if not_zero bytes across || not_zero bytes along
    then once (spot_at bytes exact (pos 11) (pos 21) entity) (λ spot. Ok (Some spot))
    else Ok None

abbrev pub second_spot : List ℕ → Bool → Entity → Result (Option PointFields) LayerFault
second_spot bytes exact entity =
    once (field_at (pos 72) entity) (λ across.
    once (field_at (pos 73) entity) (λ along.
    second_by bytes exact entity across along))

abbrev pub dots_of : Option PointFields → List Shape
dots_of None = []
dots_of (Some spot) = dot_of spot ∷ []

-- a text
abbrev pub text_shapes : List ℕ → Bool → Entity → Result (List Shape) LayerFault
text_shapes bytes exact entity =
    once (spot_at bytes exact (pos 10) (pos 20) entity) (λ spot.
    once (second_spot bytes exact entity) (λ second.
    Ok (dot_of spot ∷ dots_of second)))

-- the millimetres of a height: a missing one has 0, and one that is no numeral has none
abbrev pub height_of : Result MmRead NumFault → Option ℤ
height_of (Ok read) = Some read.mm
height_of (Err fault) = None

abbrev pub height : List ℕ → Option Pair → Option ℤ
height bytes None = Some (pos 0)
height bytes (Some pair) = height_of (millimetres_of (value_in bytes pair))

abbrev pub are_level : Option ℤ → Option ℤ → Bool
are_level (Some first) (Some second) = int_eq first second
are_level first second = false

-- the heights of a line's two ends, whose fields both have to be there
abbrev pub both_heights : List ℕ → Bool → Entity → Option Pair → Option Pair → Result Rise LayerFault
both_heights bytes exact entity first second =
    once (is_there entity first) (λ low.
    once (is_there entity second) (λ high.
    once (coordinate_of bytes exact low) (λ begin.
    once (coordinate_of bytes exact high) (λ end.
    Ok (record { begin = begin; end = end })))))

-- where both ends of a line have one height, it has none to carry
abbrev pub unless_level : List ℕ → Bool → Entity → Option Pair → Option Pair → Result (Option Rise) LayerFault
unless_level bytes exact entity first second =
    if are_level (height bytes first) (height bytes second) then Ok None
    else once (both_heights bytes exact entity first second) (λ rise. Ok (Some rise))

-- the heights of a line's two ends, where they differ
abbrev pub rise_of : List ℕ → Bool → Entity → Result (Option Rise) LayerFault
rise_of bytes exact entity =
    once (field_at (pos 30) entity) (λ first.
    once (field_at (pos 31) entity) (λ second.
    unless_level bytes exact entity first second))

-- a line between two points; copies of the entity take its place
abbrev pub line_of : Entity → PointFields → PointFields → Option Rise → Shape
line_of entity begin end rise = record {
  kind = Some paths.Line;
  points = point_of begin ∷ point_of end ∷ [];
  rise = rise;
  lost = lost_of begin + lost_of end + lost_by rise;
  dropped = 0;
  edits = λ path first. record { start = entity.head.start; end = entity_end entity; what = Lines path } ∷ [];
}

-- the ends of a line, and their heights, where it has some
abbrev pub line_ends : List ℕ → Bool → Option Pair → Entity → Result LineFields LayerFault
line_ends bytes exact seed entity =
    once (handle seed entity) (λ own.
    once (spot_at bytes exact (pos 10) (pos 20) entity) (λ begin.
    once (spot_at bytes exact (pos 11) (pos 21) entity) (λ end.
    once (rise_of bytes exact entity) (λ rise.
    Ok (record { begin = begin; end = end; rise = rise })))))

-- a line
abbrev pub line_shapes : List ℕ → Bool → Option Pair → Entity → Result (List Shape) LayerFault
line_shapes bytes exact seed entity =
    once (line_ends bytes exact seed entity) (λ ends.
    Ok (line_of entity ends.begin ends.end ends.rise ∷ []))
