-- A triangulation file (PROJ tinshift, formats 1.0 and 1.1, in the order of refusals that is this project's own).
use Rattle.std.specs.Prelude.{◌≡◌, ℕ, List, map, length, sum_by, Result, Ok, Err}
use Rattle.jtext.specs.Values.{Json, Members, object}
use Rattle.jtext.specs.Texts.{Whole, IsWhole, IsBad, IsDeep}
use Rattle.jtext.specs.declared.json_texts.TheConstants.{DEEPEST}
use Rattle.sheet_base.specs.declared.flags.How.{How}
use Rattle.tin_base.specs.Triangulation.{Triangulation, triangulation}
use Rattle.tin_file.specs.Keys.{when_passed, and_then}
use Rattle.tin_file.specs.Headings.{heading}
use Rattle.tin_file.specs.Vertices.{vertices}
use Rattle.tin_file.specs.Triangles.{triangles}
use Rattle.tin_file.specs.Corners.{corners_of, number_of_row, counterclockwise_face, spans}
use Rattle.tin_file.specs.declared.headings.Heading.{Heading}
use Rattle.tin_file.specs.declared.vertices.VertexRow.{VertexRow}
use Rattle.tin_file.specs.declared.faults.Top.TheVariants as tops
use Rattle.tin_file.specs.declared.faults.TinFault.{TinFault}
use Rattle.tin_file.specs.declared.faults.TinFault.TheVariants.{Json as JsonFault, Deep, Key, NoMemory}

-- the triangulation of vertex rows and triangles of them
abbrev pub made_of : List VertexRow → List (List ℕ) → Triangulation
made_of rows faces =
    let corners = map (λ (row : VertexRow). row.corner) rows in
    triangulation (corners_of corners) (map (λ face. counterclockwise_face (corners_of corners) (map (number_of_row corners) face))
    faces) (sum_by (λ (row : VertexRow). row.inexact) rows)

abbrev pub within_spans : List VertexRow → List (List ℕ) → Result Triangulation TinFault
within_spans rows faces = when_passed (spans (corners_of (map (λ (row : VertexRow). row.corner) rows)))
    (Ok (made_of rows faces))

abbrev pub rows_of : How → Members → Heading → Result Triangulation TinFault
rows_of how members columns =
    and_then (λ rows. and_then (within_spans rows) (triangles columns.triangles (length rows) members))
    (vertices how columns.vertices members)

-- the triangulation that a value is, or its first fault
abbrev pub reading : How → Json → Result Triangulation TinFault
reading how (object blank members) = and_then (rows_of how members) (heading how members)
reading how value = Err (Key tops.Whole)

-- the bytes are a JSON text, and this is read of its value
abbrev pub IsReadBy : {A : Type 0} → (Json → Result A TinFault) → List ℕ → Result A TinFault → Type 0
IsReadBy of_value bytes answer = (whole : Whole) × IsWhole DEEPEST whole bytes × (of_value whole.value ≡ answer)

-- the answer is the one to the bytes, where values are read so; memory may run out at any growth
abbrev pub AnswersBy : {A : Type 0} → (Json → Result A TinFault) → List ℕ → Result A TinFault → Type 0
AnswersBy of_value bytes (Err (JsonFault at)) = IsBad bytes at
AnswersBy of_value bytes (Err (Deep at)) = IsDeep bytes at
AnswersBy of_value bytes (Err NoMemory) = Unit {0}
AnswersBy of_value bytes answer = IsReadBy of_value bytes answer

abbrev pub IsReading : How → List ℕ → Result Triangulation TinFault → Type 0
IsReading how bytes answer = IsReadBy (reading how) bytes answer

abbrev pub Answers : How → List ℕ → Result Triangulation TinFault → Type 0
Answers how bytes answer = AnswersBy (reading how) bytes answer
