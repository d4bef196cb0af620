-- A row's elements.
use Rattle.std.proofs.Common.{◌≡◌, ℕ, ◌+◌, List, true, false, sym, ap, ◌∙◌, subst, arith}
use Rattle.std.specs.Prelude.{Result, Err}
use Rattle.jtext.specs.Values.{Json, Elements, array}
use Rattle.jtext.specs.Nodes.{inner_place}
use Rattle.jtext.specs.declared.document.Node.{Node}
use Rattle.sheet_base.specs.declared.flags.How.{How}
use Rattle.tin_file.specs.Keys.{is_array, values_in}
use Rattle.tin_file.specs.InsideNodes.{IsThere, AreThere, IsNode, AreNodes, IsArray, element_numbers}
use Rattle.tin_file.specs.Vertices.{vertex_of}
use Rattle.tin_file.specs.Triangles.{triangle_of}
use Rattle.tin_file.specs.declared.columns.VertexColumns.{VertexColumns}
use Rattle.tin_file.specs.declared.columns.TriangleColumns.{TriangleColumns}
use Rattle.tin_file.specs.declared.faults.Rows.TheVariants as lists
use Rattle.tin_file.specs.declared.faults.TinFault.{TinFault}
use Rattle.tin_file.specs.declared.faults.TinFault.TheVariants.{Row}
use Rattle.jtext.proofs.CallerLemmas.NodePlaces.{array_stands}
use Rattle.tin_file.proofs.DocumentValues.There.{elements_there}

array_of : (value : Json) → true ≡ is_array value
    → (blank : List ℕ) × (elements : Elements) × (value ≡ array blank elements)
array_of value h = grind arith

module _ (nodes : List Node) (bytes : List ℕ) (number : ℕ) where
  pub is_array_there : IsNode nodes bytes number
      → ((value : Json) → IsThere nodes bytes number value → true ≡ is_array value) → IsArray nodes bytes number
  is_array_there (value, there) is = grind (arith, array_of value (is value there))

  -- the elements are at the numbers that were listed
  elements_listed : (blank : List ℕ) (elements : Elements) (numbers : List ℕ)
      → IsThere nodes bytes number (array blank elements)
      → numbers ≡ element_numbers (number + 1) elements → AreThere nodes bytes numbers (values_in elements)
  elements_listed blank elements numbers there is =
      subst (λ ns. AreThere nodes bytes ns (values_in elements)) (sym is)
      (elements_there nodes bytes (number + 1) (inner_place there.0 blank) elements
      (array_stands nodes bytes number there.0 blank elements there.1))

  pub nodes_listed : IsArray nodes bytes number → (numbers : List ℕ)
      → ((bytes : List ℕ) (blank : List ℕ) (elements : Elements) → IsThere nodes bytes number (array blank elements)
      → numbers ≡ element_numbers (number + 1) elements)
      → AreNodes nodes bytes numbers
  nodes_listed (blank, elements, there) numbers is =
      (values_in elements, elements_listed blank elements numbers there (is bytes blank elements there))

  -- what is made of the elements of a row is made of the row
  pub of_elements : {A : Type 0} (of_row : Json → Result A TinFault) (of_all : List Json → Result A TinFault)
      → ((blank : List ℕ) (elements : Elements) → of_row (array blank elements) ≡ of_all (values_in elements))
      → (value : Json) → IsThere nodes bytes number value → true ≡ is_array value → (numbers : List ℕ)
      → ((bytes : List ℕ) (blank : List ℕ) (elements : Elements) → IsThere nodes bytes number (array blank elements)
      → numbers ≡ element_numbers (number + 1) elements)
      → (result : Result A TinFault) → ((all : List Json) → AreThere nodes bytes numbers all → result ≡ of_all all)
      → result ≡ of_row value
  of_elements of_row of_all same value there is numbers listed_so result made =
      let (blank, elements, value_is) = array_of value is in
      let here : IsThere nodes bytes number (array blank elements) =
      subst (IsThere nodes bytes number) value_is there in
      made (values_in elements) (elements_listed blank elements numbers here (listed_so bytes blank elements here))
      ∙ sym (same blank elements) ∙ ap of_row (sym value_is)

pub no_vertex_row : (how : How) (columns : VertexColumns) (row : ℕ) (value : Json) → false ≡ is_array value
    → Err (Row lists.Vertices row) ≡ vertex_of how columns row value
no_vertex_row how columns row value h = grind arith

pub no_triangle_row : (columns : TriangleColumns) (rows triangle : ℕ) (value : Json) → false ≡ is_array value
    → Err (Row lists.Triangles triangle) ≡ triangle_of columns rows triangle value
no_triangle_row columns rows triangle value h = grind arith
