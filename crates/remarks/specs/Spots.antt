-- Where a refusal comes from, and how that is said in front of what was found.
use Rattle.std.specs.Prelude.{ℕ, eqb, if◌then◌else◌, List, [], ◌++◌, length, Option, None, Some, codes, decimal}
use Rattle.job_words.specs.declared.faults.Which.TheVariants.{Layer as WhichLayer}
use Rattle.job_words.specs.declared.faults.WordsFault.{WordsFault}
use Rattle.job_words.specs.declared.faults.WordsFault.TheVariants as words
use Rattle.cert_check.specs.declared.faults.CertFault.{CertFault}
use Rattle.cert_check.specs.declared.faults.CertFault.TheVariants as certs
use Rattle.sheet_base.specs.declared.faults.LayerFault.{LayerFault}
use Rattle.sheet_base.specs.declared.faults.LayerFault.TheVariants as layers
use Rattle.tin_check.specs.declared.faults.CheckFault.{CheckFault}
use Rattle.tin_check.specs.declared.faults.CheckFault.TheVariants as checks
use Rattle.tin_file.specs.declared.faults.Rows.{Rows}
use Rattle.tin_file.specs.declared.faults.Rows.TheVariants.{Vertices, Triangles as TriangleRows}
use Rattle.tin_file.specs.declared.faults.TinFault.{TinFault}
use Rattle.tin_file.specs.declared.faults.TinFault.TheVariants as tins
use Rattle.runs.specs.declared.refusal.Refusal.{Refusal}
use Rattle.runs.specs.declared.refusal.Refusal.TheVariants.{Words, TinUnread, TinLong, Tin, Check, LayerUnread}
use Rattle.runs.specs.declared.refusal.Refusal.TheVariants.{LayersLong, Layer, Outside, TooManyPieces, TooManyChanges}
use Rattle.runs.specs.declared.refusal.Refusal.TheVariants.{TooManySides}
use Rattle.runs.specs.declared.refusal.Refusal.TheVariants.{WrittenUnread, WrittenLong, CertUnread, CertLong}
use Rattle.runs.specs.declared.refusal.Refusal.TheVariants.{Certificate, NoMemory}
use Rattle.shown_text.specs.Texts.{shown_of}
use Rattle.remarks.specs.LineColumns.{line_at, column_at, behind_lines}
use Rattle.remarks.specs.Excerpts.{excerpt_of}
use Rattle.remarks.specs.declared.spots.FilePlace.{FilePlace}
use Rattle.remarks.specs.declared.spots.FilePlace.TheVariants.{Run, LayerWord, File, Byte, Line, Row, Triangle, TrianglePair}
use Rattle.remarks.specs.declared.spots.FilePlace.TheVariants.{Segment, Entity}

-- ---- where a refusal comes from
abbrev pub spot_of_words : WordsFault → FilePlace
spot_of_words (words.Name (WhichLayer layer)) = LayerWord layer
spot_of_words (words.Suffix layer) = LayerWord layer
spot_of_words (words.SameName layer) = LayerWord layer
spot_of_words fault = Run

abbrev pub spot_of_tin : TinFault → FilePlace
spot_of_tin (tins.Json at) = Byte at
spot_of_tin (tins.Deep at) = Byte at
spot_of_tin (tins.Row list row) = Row list row
spot_of_tin (tins.Number row fault) = Row Vertices row
spot_of_tin (tins.Inexact row) = Row Vertices row
spot_of_tin (tins.Offset row) = Row Vertices row
spot_of_tin (tins.Index triangle) = Row TriangleRows triangle
spot_of_tin fault = File

abbrev pub spot_of_check : CheckFault → FilePlace
spot_of_check (checks.Flat triangle frame) = Triangle triangle
spot_of_check (checks.TurnsOver triangle) = Triangle triangle
spot_of_check (checks.Meets first second frame) = TrianglePair first second
spot_of_check checks.NoMemory = File

abbrev pub spot_of_layer : LayerFault → FilePlace
spot_of_layer (layers.Bad at) = Byte at
spot_of_layer (layers.Deep at) = Byte at
spot_of_layer (layers.Repeat at) = Byte at
spot_of_layer (layers.Shape at) = Byte at
spot_of_layer (layers.Kind at) = Byte at
spot_of_layer (layers.Height at) = Byte at
spot_of_layer (layers.Number at fault) = Byte at
spot_of_layer (layers.Inexact at) = Byte at
spot_of_layer (layers.Ring at) = Byte at
spot_of_layer layers.Binary = File
spot_of_layer layers.NoEof = File
spot_of_layer (layers.Code line) = Line line
spot_of_layer (layers.Odd line) = Line line
spot_of_layer (layers.Entity line) = Entity line
spot_of_layer (layers.Extrusion line) = Line line
spot_of_layer (layers.Flags line) = Line line
spot_of_layer (layers.Count line) = Line line
spot_of_layer (layers.Bulge line) = Line line
spot_of_layer (layers.Width line) = Line line
spot_of_layer (layers.Attribs line) = Line line
spot_of_layer (layers.Seed line) = Line line
spot_of_layer layers.NoMemory = File

abbrev pub spot_of_cert : CertFault → FilePlace
spot_of_cert (certs.Layer fault) = spot_of_layer fault
spot_of_cert (certs.Form line) = Line line
spot_of_cert (certs.Count segments lines) = File
spot_of_cert (certs.Segment path segment) = Segment path segment
spot_of_cert (certs.Differs at) = Byte at
spot_of_cert certs.NoMemory = File

abbrev pub spot_of : Refusal → FilePlace
spot_of (Words fault) = spot_of_words fault
spot_of TinUnread = File
spot_of TinLong = File
spot_of (Tin fault) = spot_of_tin fault
spot_of (Check fault) = spot_of_check fault
spot_of (LayerUnread layer) = File
spot_of LayersLong = Run
spot_of (Layer layer fault) = spot_of_layer fault
spot_of (Outside layer path segment) = Segment path segment
spot_of TooManyPieces = Run
spot_of TooManyChanges = Run
spot_of TooManySides = Run
spot_of WrittenUnread = File
spot_of WrittenLong = File
spot_of CertUnread = File
spot_of CertLong = File
spot_of (Certificate fault) = spot_of_cert fault
spot_of NoMemory = Run

-- ---- in words
-- line and column where the bytes are known, and else the number of the byte, counted from 0
abbrev pub byte_words : Option (List ℕ) → ℕ → List ℕ
byte_words None at = codes ": at byte " ++ decimal at
byte_words (Some bytes) at = codes ":" ++ decimal (line_at bytes at) ++ codes ":" ++ decimal (column_at bytes at)

abbrev pub rows_end_of : Rows → List ℕ
rows_end_of Vertices = codes " of vertices"
rows_end_of TriangleRows = codes " of triangles"

abbrev pub row_words : Rows → ℕ → List ℕ
row_words list row = codes ": row " ++ decimal row ++ rows_end_of list

-- what is between the name of the file and the colon
abbrev pub within_words : Option (List ℕ) → FilePlace → List ℕ
within_words bytes (Byte at) = byte_words bytes at
within_words bytes (Line line) = codes ":" ++ decimal line
within_words bytes (Entity line) = codes ":" ++ decimal line
within_words bytes (Row list row) = row_words list row
within_words bytes (Triangle triangle) = codes ": triangle " ++ decimal triangle
within_words bytes (TrianglePair first second) =
    codes ": triangles " ++ decimal first ++ codes " and " ++ decimal second
within_words bytes (Segment path segment) = codes ": path " ++ decimal path ++ codes " segment " ++ decimal segment
within_words bytes spot = []

-- a file as a whole, by its name; what is made in memory has an empty one, and is not named
abbrev pub file_words : List ℕ → List ℕ
file_words name = if eqb (length name) 0 then [] else shown_of name ++ codes ": "

-- the place in a file of this name, as it is shown, with these bytes
abbrev pub spot_words : List ℕ → Option (List ℕ) → FilePlace → List ℕ
spot_words name bytes Run = []
spot_words name bytes File = file_words name
spot_words name bytes (LayerWord layer) = codes "layer " ++ decimal layer ++ codes ": "
spot_words name bytes spot = shown_of name ++ within_words bytes spot ++ codes ": "

-- what is there, after what was found; the kind of an entity is on the line after its first one
abbrev pub behind_colon : List ℕ → List ℕ
behind_colon shown = if eqb (length shown) 0 then [] else codes ": " ++ shown

abbrev pub shown_words : Option (List ℕ) → FilePlace → List ℕ
shown_words (Some bytes) (Byte at) = behind_colon (excerpt_of bytes at)
shown_words (Some bytes) (Entity line) = behind_colon (excerpt_of (behind_lines line bytes) 0)
shown_words bytes spot = []
