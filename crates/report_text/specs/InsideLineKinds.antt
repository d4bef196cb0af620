-- What each kind of line is read as. Only private functions speak of it.
use Rattle.std.specs.Prelude.{ℕ, ◌==◌, Bool, false, ◌&&◌, ◌||◌, not, if◌then◌else◌, List, [], length, codes, Option}
use Rattle.std.specs.Prelude.{None, Some}
use Rattle.std.specs.Str.{bytes_eq}
use Rattle.tin_base.specs.declared.pieces.Change.{Change}
use Rattle.tin_base.specs.declared.pieces.Place.{Place}
use Rattle.tin_base.specs.declared.relations.Rel.{Rel}
use Rattle.tin_base.specs.declared.relations.Rel.TheVariants.{Apart, Touching, Crossing, Overlapping}
use Rattle.report_text.specs.declared.drafts.TinRow.{TinRow}
use Rattle.report_text.specs.declared.line_kinds.TinCounts.{TinCounts}
use Rattle.report_text.specs.declared.line_kinds.LayerCounts.{LayerCounts}
use Rattle.report_text.specs.declared.rows.LayerRow.{LayerRow}
use Rattle.text_fields.specs.Fields.{◌>>=◌, after_word, long_field, short_field}
use Rattle.report_text.specs.InsideFields.{name_behind}

abbrev pub tin_named : Bool → TinCounts → List ℕ → TinRow
tin_named sided counts name = record {
  sided = sided;
  corners = counts.corners;
  triangles = counts.triangles;
  inexact =
      counts.inexact;
  name = name;
}

abbrev pub layer_named : LayerCounts → List ℕ → LayerRow
layer_named counts name = record {
  paths = counts.paths;
  segments = counts.segments;
  pieces = counts.pieces;
  inexact = counts.inexact;
  dropped = counts.dropped;
  drawing = false;
  name = name;
}

-- the line of a triangulation, in a report that states sides or does not
unfoldable pub tin_of : Bool → List ℕ → Option TinRow
tin_of sided line = do
  corners ← short_field (codes "triangulation corners ") line
  triangles ← short_field (codes " triangles ") corners.1
  inexact ← long_field (codes " inexact ") triangles.1
  name ← name_behind inexact.1
  Some (record { sided = sided; corners = corners.0; triangles = triangles.0; inexact = inexact.0; name = name })

-- the numbers and the name on a layer's line after its number
unfoldable pub row_front : List ℕ → Option LayerRow
row_front text = do
  paths ← short_field (codes " paths ") text
  segments ← short_field (codes " segments ") paths.1
  pieces ← short_field (codes " pieces ") segments.1
  inexact ← long_field (codes " inexact ") pieces.1
  dropped ← long_field (codes " dropped ") inexact.1
  name ← name_behind dropped.1
  Some (record {
    paths = paths.0;
    segments = segments.0;
    pieces = pieces.0;
    inexact = inexact.0;
    dropped =
        dropped.0;
    drawing = false;
    name = name;
  })

-- the line of the layer of this number
unfoldable pub layer_of : ℕ → List ℕ → Option LayerRow
layer_of number line = do
  found ← long_field (codes "layer ") line
  if found.0 == number then row_front found.1 else None

-- the line on the extents of the layer of this number
abbrev pub is_end_of_extents : ℕ → Option (ℕ × List ℕ) → Bool
is_end_of_extents number None = false
is_end_of_extents number (Some found) = (found.0 == number) && bytes_eq found.1 (codes " as they were")

unfoldable pub is_line_of_extents : ℕ → List ℕ → Bool
is_line_of_extents number line = is_end_of_extents number (long_field (codes "extents ") line)

-- the line of the number of changes
unfoldable pub count_of : List ℕ → Option ℕ
count_of line = do
  count ← long_field (codes "changes ") line
  if length count.1 == 0 then Some count.0 else None

-- a place at the start of a text
unfoldable pub place_front : List ℕ → Option (Place × List ℕ)
place_front text = do
  layer ← short_field [] text
  path ← short_field (codes "/") layer.1
  segment ← short_field (codes "/") path.1
  piece ← short_field (codes "/") segment.1
  Some (record { layer = layer.0; path = path.0; segment = segment.0; piece = piece.0 }, piece.1)

-- the first that is there, or what comes then
abbrev pub found_or : {A : Type 0} → Option A → Option A → Option A
found_or None other = other
found_or (Some found) other = Some found

abbrev pub as_kind : {A : Type 0} → A → Option (List ℕ) → Option (A × List ℕ)
as_kind kind None = None
as_kind kind (Some rest) = Some (kind, rest)

-- a relation's word after a space
unfoldable pub relation_front : List ℕ → Option (Rel × List ℕ)
relation_front text =
    found_or (as_kind Apart (after_word (codes " apart") text))
    (found_or (as_kind Touching (after_word (codes " touching") text))
    (found_or (as_kind Crossing (after_word (codes " crossing") text))
    (as_kind Overlapping (after_word (codes " overlapping") text))))

abbrev pub number_of_relation : Rel → ℕ
number_of_relation Apart = 0
number_of_relation Touching = 1
number_of_relation Crossing = 2
number_of_relation Overlapping = 3

abbrev pub is_same : Rel → Rel → Bool
is_same was now = number_of_relation was == number_of_relation now

-- the line of a change
unfoldable pub change_of : List ℕ → Option Change
change_of line = do
  front ← after_word (codes "change ") line
  first ← place_front front
  between ← after_word (codes " ") first.1
  second ← place_front between
  was ← relation_front second.1
  now ← relation_front was.1
  if is_same was.0 now.0 || not (length now.1 == 0) then None else Some
      (record { first = first.0; second = second.0; was = was.0; now = now.0 })
