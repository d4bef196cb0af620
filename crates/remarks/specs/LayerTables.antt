-- What a layer's fault is and what helps, as tables: own words, in line with docs/messages.md.
use Rattle.std.specs.Prelude.{ℕ, List, Option, Some, None, codes}
use Rattle.mm_decimal.specs.declared.numerals.NumFault.{NumFault}
use Rattle.mm_decimal.specs.declared.numerals.NumFault.TheVariants.{Form, Long, Range}
use Rattle.sheet_base.specs.declared.faults.LayerFault.{LayerFault}
use Rattle.sheet_base.specs.declared.faults.LayerFault.TheVariants as faults

-- ---- a number text
abbrev pub number_finding_of : NumFault → List ℕ
number_finding_of (Form at) = codes "a number that is no numeral"
number_finding_of Long = codes "a number of more than 64 bytes"
number_finding_of Range = codes "a number past 10^12 metres, or with a power of ten past 99"

abbrev pub number_cure_of : NumFault → Option (List ℕ)
number_cure_of (Form at) = None
number_cure_of Long = Some (codes "write fewer digits: three behind the point are kept")
number_cure_of Range = None

-- ---- a layer
-- what is at the place of the fault, for any text that has it
abbrev pub finding_of : LayerFault → List ℕ
finding_of (faults.Bad at) = codes "text that may not stand here"
finding_of (faults.Deep at) = codes "nested more than 64 deep"
finding_of (faults.Repeat at) = codes "a member that stands twice"
finding_of (faults.Shape at) = codes "a member or a position that is missing or of another type"
finding_of (faults.Kind at) = codes "a geometry of another kind"
finding_of (faults.Height at) = codes "a measure, or the mark of one"
finding_of (faults.Number at fault) = number_finding_of fault
finding_of (faults.Inexact at) = codes "a number with digits past the millimetre"
finding_of (faults.Ring at) = codes "a ring that is not closed, or has fewer than four points"
finding_of faults.Binary = codes "a drawing in binary form"
finding_of faults.NoEof = codes "a drawing without its end (0, EOF): it is cut off"
finding_of (faults.Code line) = codes "a line that is no group code"
finding_of (faults.Odd line) = codes "a group code without a value: the drawing is cut off"
finding_of (faults.Entity line) = codes "an entity of a kind that is not carried"
finding_of (faults.Extrusion line) = codes "an entity in another plane than that of the map"
finding_of (faults.Flags line) = codes "a polyline in space, a mesh, or one fitted to a curve"
finding_of (faults.Count line) = codes "a group that is missing, stands twice, or counts other vertices than there are"
finding_of (faults.Bulge line) = codes "a segment of a polyline that is an arc"
finding_of (faults.Width line) = codes "a vertex with a width of its own"
finding_of (faults.Attribs line) = codes "an insert with attributes"
finding_of (faults.Seed line) = codes "an entity with a handle in a drawing without a next handle ($HANDSEED)"
finding_of faults.NoMemory = codes "memory ran out"

-- what helps, where something is known that does
abbrev pub cure_of : LayerFault → Option (List ℕ)
cure_of (faults.Bad at) = Some (codes "a WKT file has one geometry a line, a GeoJSON file one object, a list of points three numbers a line")
cure_of (faults.Deep at) = Some (codes "take it apart")
cure_of (faults.Repeat at) = Some (codes "remove one of the two")
cure_of (faults.Shape at) = None
cure_of (faults.Kind at) = Some (codes "curves are made straight by: ogr2ogr -nlt CONVERT_TO_LINEAR")
cure_of (faults.Height at) = Some (codes "heights are marked and measures left out by: ogr2ogr -dim XYZ")
cure_of (faults.Number at fault) = number_cure_of fault
cure_of (faults.Inexact at) = Some (codes "without --exact such a number is rounded")
cure_of (faults.Ring at) = Some (codes "close it; or try: ogr2ogr -makevalid")
cure_of faults.Binary = Some (codes "save it as ASCII DXF")
cure_of faults.NoEof = Some (codes "save the drawing again")
cure_of (faults.Code line) = Some (codes "save the drawing again")
cure_of (faults.Odd line) = Some (codes "save the drawing again")
cure_of (faults.Entity line) = Some (codes
    "see recipes/readable_drawing.py, or leave such entities out by: --drop-other")
cure_of (faults.Extrusion line) = Some (codes "flatten it in the drawing")
cure_of (faults.Flags line) = Some (codes "see recipes/readable_drawing.py")
cure_of (faults.Count line) = Some (codes "save the drawing again")
cure_of (faults.Bulge line) = Some (codes "see recipes/readable_drawing.py")
cure_of (faults.Width line) = Some (codes "set the width to 0")
cure_of (faults.Attribs line) = Some (codes "recipes/readable_drawing.py makes texts of them")
cure_of (faults.Seed line) = Some (codes "save the drawing again")
cure_of faults.NoMemory = Some (codes "carry smaller layers, or one a run")
