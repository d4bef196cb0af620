-- Numbers of rows, by the texts of their values.
use Rattle.std.proofs.Common.{◌≡◌, ℕ, List, length, true, false, refl, arith}
use Rattle.std.specs.Prelude.{None, Err}
use Rattle.jtext.specs.Values.{Json, spelling}
use Rattle.mm_decimal.specs.AnswerValues.{millimetres_of}
use Rattle.sheet_base.specs.declared.flags.How.{How}
use Rattle.tin_file.specs.Keys.{is_number}
use Rattle.std.proofs.lemmas.Bool.{eqb-true, eq-eqb}
use Rattle.tin_file.specs.Vertices.{number_or_fault, number_in, number_at, vertex_from, vertex_in}
use Rattle.tin_file.specs.Triangles.{whole_number, row_number, row_number_at, triangle_from, triangle_in}
use Rattle.tin_file.specs.declared.columns.VertexColumns.{VertexColumns}
use Rattle.tin_file.specs.declared.columns.TriangleColumns.{TriangleColumns}
use Rattle.tin_file.specs.declared.faults.Rows.TheVariants as lists
use Rattle.tin_file.specs.declared.faults.TinFault.TheVariants.{Row}
use Rattle.tin_file.proofs.DocumentValues.SpelledTexts.{numeral_of}

pub number_so : (how : How) (row : ℕ) (value : Json) (text : List ℕ) → text ≡ spelling value → true ≡ is_number value
    → number_or_fault how row (millimetres_of text) ≡ number_in how row value
number_so how row value text spelled is = grind (arith, numeral_of)

pub not_number_so : (how : How) (row : ℕ) (value : Json) → false ≡ is_number value
    → Err (Row lists.Vertices row) ≡ number_in how row value
not_number_so how row value is = grind arith

pub row_number_so : (value : Json) (text : List ℕ) → text ≡ spelling value → true ≡ is_number value
    → whole_number text ≡ row_number value
row_number_so value text spelled is = grind (arith, numeral_of)

pub not_row_number_so : (value : Json) → false ≡ is_number value → None ≡ row_number value
not_row_number_so value is = grind arith

module _ (how : How) (columns : VertexColumns) (row : ℕ) (all : List Json) where
  pub vertex_in_so : length all ≡ columns.count
      → vertex_from (number_at how row all columns.source_x) (number_at how row all columns.source_y)
      (number_at how row all columns.target_x) (number_at how row all columns.target_y)
      ≡ vertex_in how columns row all
  vertex_in_so many = rw (eq-eqb (length all) columns.count many) refl

  pub not_vertex_in_so : (length all ≡ columns.count → ⊥) → Err (Row lists.Vertices row) ≡ vertex_in how columns row all
  not_vertex_in_so other = grind (arith, eqb-true)

module _ (columns : TriangleColumns) (rows triangle : ℕ) (all : List Json) where
  pub triangle_in_so : length all ≡ columns.count
      → triangle_from rows triangle (row_number_at all columns.first) (row_number_at all columns.second)
      (row_number_at all columns.third) ≡ triangle_in columns rows triangle all
  triangle_in_so many = rw (eq-eqb (length all) columns.count many) refl

  pub not_triangle_in_so : (length all ≡ columns.count → ⊥)
      → Err (Row lists.Triangles triangle) ≡ triangle_in columns rows triangle all
  not_triangle_in_so other = grind (arith, eqb-true)
