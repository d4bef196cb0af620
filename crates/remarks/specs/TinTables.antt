-- What the fault of a triangulation is and what helps, as tables: own words, in line with docs/messages.md.
use Rattle.std.specs.Prelude.{ℕ, List, Option, Some, None, codes}
use Rattle.tin_base.specs.declared.frames.Axis.{Axis}
use Rattle.tin_base.specs.declared.frames.Axis.TheVariants.{X, Y}
use Rattle.tin_base.specs.declared.frames.Frame.{Frame}
use Rattle.tin_base.specs.declared.frames.Frame.TheVariants.{Source, Target}
use Rattle.tin_check.specs.declared.faults.CheckFault.{CheckFault}
use Rattle.tin_check.specs.declared.faults.CheckFault.TheVariants as checks
use Rattle.tin_file.specs.declared.faults.Nearest.TheVariants.{Side, Centroid}
use Rattle.tin_file.specs.declared.faults.Rows.TheVariants.{Vertices, Triangles}
use Rattle.tin_file.specs.declared.faults.TinFault.{TinFault}
use Rattle.tin_file.specs.declared.faults.TinFault.TheVariants as faults
use Rattle.tin_file.specs.declared.faults.Top.{Top}
use Rattle.tin_file.specs.declared.faults.Top.TheVariants as tops
use Rattle.remarks.specs.LayerTables.{number_finding_of, number_cure_of}
use Rattle.remarks.specs.Sights.{sight_of_text}
use Rattle.remarks.specs.declared.sights.Sight.{Sight}
use Rattle.remarks.specs.declared.sights.Sight.TheVariants.{Plain, ByteOrderMark, FileEnd, Packed, TwoByteText}

-- ---- the text
abbrev pub member_finding_of : Top → List ℕ
member_finding_of tops.Whole = codes "the text is no JSON object"
member_finding_of tops.FileType = codes "the member file_type is missing, stands twice, or is not triangulation_file"
member_finding_of tops.FormatVersion = codes "the member format_version is missing, stands twice, or is no text"
member_finding_of tops.Strategy = codes "the member fallback_strategy stands twice, or is none of the known words"
member_finding_of tops.Components =
    codes "the member transformed_components is missing, stands twice, or is no list of horizontal and vertical"
member_finding_of tops.VerticesColumns = codes
    "the member vertices_columns is missing, stands twice, or does not have each column once"
member_finding_of tops.TrianglesColumns = codes
    "the member triangles_columns is missing, stands twice, or does not have each column once"
member_finding_of tops.Vertices = codes "the member vertices is missing, stands twice, or is no list"
member_finding_of tops.Triangles = codes "the member triangles is missing, stands twice, or is no list"

abbrev pub span_finding_of : Frame → Axis → List ℕ
span_finding_of Source X = codes "the source corners span 2,147.483648 km or more from west to east"
span_finding_of Source Y = codes "the source corners span 2,147.483648 km or more from south to north"
span_finding_of Target X = codes "the target corners span 2,147.483648 km or more from west to east"
span_finding_of Target Y = codes "the target corners span 2,147.483648 km or more from south to north"

abbrev pub tin_finding_of : TinFault → List ℕ
tin_finding_of (faults.Json at) = codes "text that may not stand here"
tin_finding_of (faults.Deep at) = codes "nested more than 64 deep"
tin_finding_of (faults.Key which) = member_finding_of which
tin_finding_of faults.Version = codes "the version of the format is neither 1.0 nor 1.1"
tin_finding_of (faults.Fallback Side) = codes "points outside are to take the nearest side's triangle"
tin_finding_of (faults.Fallback Centroid) = codes "points outside are to take the triangle of the nearest centroid"
tin_finding_of faults.NoHorizontal = codes "the file moves heights alone"
tin_finding_of faults.NoVertical = codes "the file moves no heights"
tin_finding_of (faults.Offset row) = codes "an earlier row is the same corner with another offset"
tin_finding_of (faults.TooMany Vertices) = codes "more than 1,048,576 rows of vertices"
tin_finding_of (faults.TooMany Triangles) = codes "more than 2,097,152 rows of triangles"
tin_finding_of (faults.Row Vertices row) = codes "not as many values as columns, or one that is no number"
tin_finding_of (faults.Row Triangles row) = codes "not as many values as columns, or one that is not digits alone"
tin_finding_of (faults.Number row fault) = number_finding_of fault
tin_finding_of (faults.Inexact row) = codes "a number with digits past the millimetre"
tin_finding_of (faults.Index triangle) = codes "the number of a corner is not below the number of rows of vertices"
tin_finding_of (faults.Span frame axis) = span_finding_of frame axis
tin_finding_of faults.NoMemory = codes "memory ran out"

abbrev pub tin_cure_of : TinFault → Option (List ℕ)
tin_cure_of (faults.Json at) = Some (codes "recipes/triangulate.py makes a triangulation of a table")
tin_cure_of (faults.Deep at) = None
tin_cure_of (faults.Key which) = None
tin_cure_of faults.Version = Some (codes "ask for a file of version 1.0 or 1.1")
tin_cure_of (faults.Fallback Side) = Some (codes "--inside-only takes the file, and does not apply that")
tin_cure_of (faults.Fallback Centroid) = Some (codes "--inside-only takes the file, and does not apply that")
tin_cure_of faults.NoHorizontal = Some (codes "'tinmove heights' moves points with heights by it")
tin_cure_of faults.NoVertical = Some (codes "'tinmove migrate' carries layers by it")
tin_cure_of (faults.Offset row) = Some (codes "ask for a file in which each corner has one offset")
tin_cure_of (faults.TooMany Vertices) = Some (codes "cut the triangulation in parts")
tin_cure_of (faults.TooMany Triangles) = Some (codes "cut the triangulation in parts")
tin_cure_of (faults.Row Vertices row) = None
tin_cure_of (faults.Row Triangles row) = None
tin_cure_of (faults.Number row fault) = number_cure_of fault
tin_cure_of (faults.Inexact row) = Some (codes "without --exact such a number is rounded")
tin_cure_of (faults.Index triangle) = Some (codes "rows are counted from 0")
tin_cure_of (faults.Span frame axis) = Some (codes "cut the triangulation in parts")
tin_cure_of faults.NoMemory = Some (codes "carry with a smaller triangulation")

-- ---- what the bytes show where the text is refused
abbrev pub tin_sight_of : TinFault → Option (List ℕ) → Sight
tin_sight_of (faults.Json at) (Some bytes) = sight_of_text bytes at
tin_sight_of fault bytes = Plain

abbrev pub tin_seen_finding_of : TinFault → Sight → List ℕ
tin_seen_finding_of fault FileEnd = codes "the file ends here"
tin_seen_finding_of fault ByteOrderMark = codes "a byte order mark"
tin_seen_finding_of fault Packed = codes "a packed file"
tin_seen_finding_of fault TwoByteText = codes "a text in UTF-16"
tin_seen_finding_of fault sight = tin_finding_of fault

abbrev pub tin_seen_cure_of : TinFault → Sight → Option (List ℕ)
tin_seen_cure_of fault FileEnd = Some (codes "it is empty or cut off: write it again")
tin_seen_cure_of fault ByteOrderMark = Some (codes "save the file without it")
tin_seen_cure_of fault Packed = Some (codes "unpack it by: gunzip")
tin_seen_cure_of fault TwoByteText = Some (codes "save it as UTF-8")
tin_seen_cure_of fault sight = tin_cure_of fault

-- ---- the triangles
abbrev pub check_finding_of : CheckFault → List ℕ
check_finding_of (checks.Flat triangle Source) = codes "its corners are on one line in the source frame"
check_finding_of (checks.Flat triangle Target) = codes "its corners are on one line in the target frame"
check_finding_of (checks.TurnsOver triangle) = codes "it is turned over in the target frame"
check_finding_of (checks.Meets first second Source) =
    codes "they overlap in the source frame, or a corner of one is on a side of the other"
check_finding_of (checks.Meets first second Target) =
    codes "they overlap in the target frame, or a corner of one is on a side of the other"
check_finding_of checks.NoMemory = codes "memory ran out"

abbrev pub check_cure_of : CheckFault → Option (List ℕ)
check_cure_of (checks.Flat triangle Source) = Some (codes "remove the triangle")
check_cure_of (checks.Flat triangle Target) = Some (codes "look for a wrong target place")
check_cure_of (checks.TurnsOver triangle) = Some (codes "look for a wrong target place, or for two that are exchanged")
check_cure_of (checks.Meets first second Source) = Some (codes "split the triangle at that corner")
check_cure_of (checks.Meets first second Target) = Some (codes "look for a wrong target place")
check_cure_of checks.NoMemory = Some (codes "carry with a smaller triangulation")
