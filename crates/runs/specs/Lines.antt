-- The lines that say why words, a triangulation or a layer are refused. Places are bytes, rows and triangles are
-- counted from 0, lines from 1.
use Rattle.std.specs.Prelude.{ℕ, List, ◌++◌, codes, decimal}
use Rattle.mm_decimal.specs.declared.numerals.NumFault.{NumFault}
use Rattle.mm_decimal.specs.declared.numerals.NumFault.TheVariants.{Form, Long, Range}
use Rattle.sheet_base.specs.declared.faults.LayerFault.{LayerFault}
use Rattle.sheet_base.specs.declared.faults.LayerFault.TheVariants as layers
use Rattle.job_words.specs.declared.faults.Which.{Which}
use Rattle.job_words.specs.declared.faults.Which.TheVariants.{Tin as WhichTin, Out as WhichOut, Layer as WhichLayer}
use Rattle.job_words.specs.declared.faults.Which.TheVariants.{Source as WhichSource, Written as WhichWritten}
use Rattle.job_words.specs.declared.faults.Which.TheVariants.{Certificate as WhichCertificate}
use Rattle.job_words.specs.declared.faults.WordsFault.{WordsFault}
use Rattle.job_words.specs.declared.faults.WordsFault.TheVariants.{NoMode, Parse, Size, Many, Name, Suffix, SameName}
use Rattle.job_words.specs.declared.faults.WordsFault.TheVariants.{NoMemory as WordsMemory}
use Rattle.tin_base.specs.declared.frames.Axis.{Axis}
use Rattle.tin_base.specs.declared.frames.Axis.TheVariants.{X, Y}
use Rattle.tin_base.specs.declared.frames.Frame.{Frame}
use Rattle.tin_base.specs.declared.frames.Frame.TheVariants.{Source, Target}
use Rattle.cert_check.specs.declared.faults.CertFault.{CertFault}
use Rattle.cert_check.specs.declared.faults.CertFault.TheVariants as certs
use Rattle.tin_check.specs.declared.faults.CheckFault.{CheckFault}
use Rattle.tin_check.specs.declared.faults.CheckFault.TheVariants.{Flat, TurnsOver, Meets, NoMemory as CheckMemory}
use Rattle.tin_file.specs.Keys.{key_of}
use Rattle.tin_file.specs.declared.faults.Nearest.{Nearest}
use Rattle.tin_file.specs.declared.faults.Nearest.TheVariants.{Side, Centroid}
use Rattle.tin_file.specs.declared.faults.Rows.{Rows}
use Rattle.tin_file.specs.declared.faults.Rows.TheVariants.{Vertices, Triangles}
use Rattle.tin_file.specs.declared.faults.TinFault.{TinFault}
use Rattle.tin_file.specs.declared.faults.TinFault.TheVariants.{Json, Deep, Key, Version, Fallback, NoHorizontal, NoVertical, Offset}
use Rattle.tin_file.specs.declared.faults.TinFault.TheVariants.{TooMany, Row, Number, Inexact, Index, Span, NoMemory}

abbrev pub frame_end_of : Frame → List ℕ
frame_end_of Source = codes " source\n"
frame_end_of Target = codes " target\n"

abbrev pub axis_end : Axis → List ℕ
axis_end X = codes " x\n"
axis_end Y = codes " y\n"

abbrev pub rows_end_of : Rows → List ℕ
rows_end_of Vertices = codes " of vertices\n"
rows_end_of Triangles = codes " of triangles\n"

abbrev pub span_front : Frame → List ℕ
span_front Source = codes "triangulation: span source"
span_front Target = codes "triangulation: span target"

abbrev pub fallback_line : Nearest → List ℕ
fallback_line Side = codes "triangulation: fallback nearest_side\n"
fallback_line Centroid = codes "triangulation: fallback nearest_centroid\n"

abbrev pub limit_line : Rows → List ℕ
limit_line Vertices = codes "limit: vertices\n"
limit_line Triangles = codes "limit: triangles\n"

-- a number text of a vertex row
abbrev pub number_line_of : ℕ → NumFault → List ℕ
number_line_of row (Form at) = codes "triangulation: number form in row " ++ decimal row ++ codes " place "
    ++ decimal at
    ++ codes "\n"
number_line_of row Long = codes "triangulation: number long in row " ++ decimal row ++ codes "\n"
number_line_of row Range = codes "triangulation: number range in row " ++ decimal row ++ codes "\n"

-- a text that is not read
abbrev pub tin_line_of : TinFault → List ℕ
tin_line_of (Json at) = codes "triangulation: json at " ++ decimal at ++ codes "\n"
tin_line_of (Deep at) = codes "triangulation: deep at " ++ decimal at ++ codes "\n"
tin_line_of (Key which) = codes "triangulation: key " ++ key_of which ++ codes "\n"
tin_line_of Version = codes "triangulation: version\n"
tin_line_of (Fallback which) = fallback_line which
tin_line_of NoHorizontal = codes "triangulation: no horizontal\n"
tin_line_of NoVertical = codes "triangulation: no vertical\n"
tin_line_of (Offset row) = codes "triangulation: offset in row " ++ decimal row ++ codes "\n"
tin_line_of (TooMany list) = limit_line list
tin_line_of (Row list row) = codes "triangulation: row " ++ decimal row ++ rows_end_of list
tin_line_of (Number row fault) = number_line_of row fault
tin_line_of (Inexact row) = codes "triangulation: inexact in row " ++ decimal row ++ codes "\n"
tin_line_of (Index triangle) = codes "triangulation: index in triangle " ++ decimal triangle ++ codes "\n"
tin_line_of (Span frame axis) = span_front frame ++ axis_end axis
tin_line_of NoMemory = codes "no memory\n"

-- a triangulation that is not sound
abbrev pub check_line_of : CheckFault → List ℕ
check_line_of (Flat triangle frame) = codes "triangulation: flat " ++ decimal triangle ++ frame_end_of frame
check_line_of (TurnsOver triangle) = codes "triangulation: turns over " ++ decimal triangle ++ codes "\n"
check_line_of (Meets first second frame) = codes "triangulation: meets " ++ decimal first ++ codes " " ++ decimal second
    ++ frame_end_of frame
check_line_of CheckMemory = codes "no memory\n"

-- a number text of the layer of this number
abbrev pub layer_number_line_of : ℕ → ℕ → NumFault → List ℕ
layer_number_line_of layer at (Form place) = codes "layer " ++ decimal layer ++ codes ": number form at " ++ decimal at
    ++ codes " place " ++ decimal place ++ codes "\n"
layer_number_line_of layer at Long = codes "layer " ++ decimal layer ++ codes ": number long at " ++ decimal at
    ++ codes "\n"
layer_number_line_of layer at Range = codes "layer " ++ decimal layer ++ codes ": number range at " ++ decimal at
    ++ codes "\n"

-- a fault with a word of its own, at a place of the layer's bytes, or at one of its lines
abbrev pub at_place : ℕ → List ℕ → ℕ → List ℕ
at_place layer word at = codes "layer " ++ decimal layer ++ codes ": " ++ word ++ codes " at " ++ decimal at
    ++ codes "\n"

abbrev pub at_line : ℕ → List ℕ → ℕ → List ℕ
at_line layer word line = codes "layer " ++ decimal layer ++ codes ": " ++ word ++ codes " at line " ++ decimal line
    ++ codes "\n"

-- a layer that is not read
abbrev pub layer_line_of : ℕ → LayerFault → List ℕ
layer_line_of layer (layers.Bad at) = at_place layer (codes "bad") at
layer_line_of layer (layers.Deep at) = at_place layer (codes "deep") at
layer_line_of layer (layers.Repeat at) = at_place layer (codes "repeat") at
layer_line_of layer (layers.Shape at) = at_place layer (codes "shape") at
layer_line_of layer (layers.Kind at) = at_place layer (codes "kind") at
layer_line_of layer (layers.Height at) = at_place layer (codes "height") at
layer_line_of layer (layers.Inexact at) = at_place layer (codes "inexact") at
layer_line_of layer (layers.Ring at) = at_place layer (codes "ring") at
layer_line_of layer (layers.Number at fault) = layer_number_line_of layer at fault
layer_line_of layer layers.Binary = codes "layer " ++ decimal layer ++ codes ": binary\n"
layer_line_of layer layers.NoEof = codes "layer " ++ decimal layer ++ codes ": no eof\n"
layer_line_of layer (layers.Code line) = at_line layer (codes "code") line
layer_line_of layer (layers.Odd line) = at_line layer (codes "odd") line
layer_line_of layer (layers.Entity line) = at_line layer (codes "entity") line
layer_line_of layer (layers.Extrusion line) = at_line layer (codes "extrusion") line
layer_line_of layer (layers.Flags line) = at_line layer (codes "flags") line
layer_line_of layer (layers.Count line) = at_line layer (codes "count") line
layer_line_of layer (layers.Bulge line) = at_line layer (codes "bulge") line
layer_line_of layer (layers.Width line) = at_line layer (codes "width") line
layer_line_of layer (layers.Attribs line) = at_line layer (codes "attribs") line
layer_line_of layer (layers.Seed line) = at_line layer (codes "seed") line
layer_line_of layer layers.NoMemory = codes "no memory\n"

-- a certificate by which a written layer is not verified; its source is layer 0
abbrev pub cert_line_of : CertFault → List ℕ
cert_line_of (certs.Layer fault) = layer_line_of 0 fault
cert_line_of (certs.Form line) = codes "certificate: form at line " ++ decimal line ++ codes "\n"
cert_line_of (certs.Count segments lines) = codes "certificate: count\n"
cert_line_of (certs.Segment path segment) =
    codes "certificate: segment " ++ decimal path ++ codes "/" ++ decimal segment
    ++ codes "\n"
cert_line_of (certs.Differs at) = codes "certificate: differs at " ++ decimal at ++ codes "\n"
cert_line_of certs.NoMemory = codes "no memory\n"

-- a name of a job
abbrev pub which_line_of : Which → List ℕ
which_line_of WhichTin = codes "words: name of triangulation\n"
which_line_of WhichOut = codes "words: name of folder\n"
which_line_of (WhichLayer layer) = codes "words: name of layer " ++ decimal layer ++ codes "\n"
which_line_of WhichSource = codes "words: name of source\n"
which_line_of WhichWritten = codes "words: name of written\n"
which_line_of WhichCertificate = codes "words: name of certificate\n"

-- words that are not understood
abbrev pub words_line_of : WordsFault → List ℕ
words_line_of NoMode = codes "words: no mode\n"
words_line_of Parse = codes "words: not understood\n"
words_line_of Size = codes "words: size\n"
words_line_of Many = codes "words: too many layers\n"
words_line_of (Name which) = which_line_of which
words_line_of (Suffix layer) = codes "words: suffix of layer " ++ decimal layer ++ codes "\n"
words_line_of (SameName layer) = codes "words: same name at layer " ++ decimal layer ++ codes "\n"
words_line_of WordsMemory = codes "no memory\n"
