-- A triangulation file with its vertical component (PROJ tinshift, formats 1.0 and 1.1, in the order of refusals that
-- is this project's own).
use Rattle.std.specs.Prelude.{ℕ, ◌*◌, ◌≤◌, List, length, Result, Ok, Err, ℤ, unsigned_abs}
use Rattle.jtext.specs.Values.{Json, Members, object}
use Rattle.mm_decimal.specs.declared.limits.TheConstants.{LIMIT}
use Rattle.sheet_base.specs.declared.flags.How.{How}
use Rattle.tin_file.specs.Keys.{and_then}
use Rattle.tin_file.specs.TallHeadings.{tall_heading}
use Rattle.tin_file.specs.TallVertices.{tall_vertices, vertices_in, offsets_of}
use Rattle.tin_file.specs.Triangles.{triangles}
use Rattle.tin_file.specs.TinFiles.{within_spans, IsReadBy, AnswersBy}
use Rattle.tin_file.specs.declared.tall_headings.TallHeading.{TallHeading}
use Rattle.tin_file.specs.declared.tall_vertices.TallVertex.{TallVertex}
use Rattle.tin_file.specs.declared.tall_files.Tall.{Tall}
use Rattle.tin_file.specs.declared.faults.Top.TheVariants as tops
use Rattle.tin_file.specs.declared.faults.TinFault.{TinFault}
use Rattle.tin_file.specs.declared.faults.TinFault.TheVariants.{Key}

-- the triangulation of the rows, with the offsets of its corners
abbrev pub tall_within_spans : List TallVertex → List (List ℕ) → Result Tall TinFault
tall_within_spans rows faces =
    and_then (λ tin. Ok (record { tin = tin; offsets = offsets_of rows })) (within_spans (vertices_in rows) faces)

abbrev pub tall_rows_of : How → Members → TallHeading → Result Tall TinFault
tall_rows_of how members columns =
    and_then (λ rows. and_then (tall_within_spans rows) (triangles columns.triangles (length rows) members))
    (tall_vertices how columns.vertices members)

-- the triangulation and the offsets that a value is, or its first fault
abbrev pub tall_reading : How → Json → Result Tall TinFault
tall_reading how (object blank members) = and_then (tall_rows_of how members) (tall_heading how members)
tall_reading how value = Err (Key tops.Whole)

abbrev pub IsTallReading : How → List ℕ → Result Tall TinFault → Type 0
IsTallReading how bytes answer = IsReadBy (tall_reading how) bytes answer

abbrev pub TallAnswers : How → List ℕ → Result Tall TinFault → Type 0
TallAnswers how bytes answer = AnswersBy (tall_reading how) bytes answer

-- no greater than the difference of two heights can be
abbrev pub IsSmallOffset : ℤ → Type 0
IsSmallOffset offset = unsigned_abs offset ≤ 2 * LIMIT
