-- What is in the document, by the numbers of nodes.
use Rattle.std.proofs.Common.{◌≡◌, ℕ, zero, suc, ◌+◌, ◌<◌, List, [], ◌∷◌, length, get_or, refl, sym, ap, ◌∙◌, arith}
use Rattle.std.specs.Prelude.{slice_get, Some}
use Rattle.std.proofs.lemmas.Option.{same_Some, slice_get_within}
use Rattle.jtext.specs.Values.{Json, Elements, Members, null, no_element, element}
use Rattle.jtext.specs.Nodes.{node_count, first_node, element_start, next_place}
use Rattle.jtext.specs.Places.{IsReadFrom, HasKind, whole_start}
use Rattle.jtext.specs.declared.document.Doc.{Doc}
use Rattle.jtext.specs.declared.document.Kind.TheVariants as kinds
use Rattle.jtext.specs.declared.document.Node.{Node}
use Rattle.tin_file.specs.Keys.{values_in}
use Rattle.tin_file.specs.InsideNodes.{IsThere, AreThere, IsNode, AreNodes, HasMembers, element_numbers}
use Rattle.jtext.proofs.CallerLemmas.MemberLoops.{object_of}
use Rattle.jtext.proofs.CallerLemmas.NodePlaces.{ElementsStand, reading_stands, first_there, element_stands, rest_stands}

module _ (nodes : List Node) (bytes : List ℕ) where
  pub there_within : (number : ℕ) (value : Json) → IsThere nodes bytes number value → number < length nodes
  there_within number value (start, h) = slice_get_within nodes number (first_node number start value)
      (first_there nodes bytes number start value h)

  pub node_within : (number : ℕ) → IsNode nodes bytes number → number < length nodes
  node_within number (value, h) = there_within number value h

  -- the node is the first of the value
  pub first_node_is : (number : ℕ) (value : Json) (node : Node) → (h : IsThere nodes bytes number value)
      → slice_get nodes number ≡ Some node
      → node ≡ first_node number h.0 value
  first_node_is number value node (start, h) got =
      same_Some node (first_node number start value) (sym got ∙ first_there nodes bytes number start value h)

  -- the elements of an array, by the numbers of their first nodes
  pub elements_there : (number place : ℕ) (elements : Elements) → ElementsStand nodes bytes number place elements
      → AreThere nodes bytes (element_numbers number elements) (values_in elements)
  elements_there number place no_element h = tt
  elements_there number place (element before value after rest) h = (
    (element_start place before, element_stands nodes bytes number place before value after rest h),
    elements_there (number + node_count value) (next_place (element_start place before) value after) rest
        (rest_stands nodes bytes number place before value after rest h),
  )

  -- as many of the one as of the other
  pub as_many : (numbers : List ℕ) (values : List Json) → AreThere nodes bytes numbers values
      → length numbers ≡ length values
  as_many [] [] h = refl
  as_many (number ∷ numbers) (value ∷ values) h = ap suc (as_many numbers values h.1)
  as_many [] (value ∷ values) h = absurd h
  as_many (number ∷ numbers) [] h = absurd h

  -- the value of a place
  pub there_at : (numbers : List ℕ) (values : List Json) (i d : ℕ) (other : Json) → AreThere nodes bytes numbers values
      → i < length numbers
      → IsThere nodes bytes (get_or numbers i d) (get_or values i other)
  there_at [] values i d other h within = absurd (omega (arith, within))
  there_at (number ∷ numbers) [] i d other h within = absurd h
  there_at (number ∷ numbers) (value ∷ values) zero d other h within = h.0
  there_at (number ∷ numbers) (value ∷ values) (suc i) d other h within =
      there_at numbers values i d other h.1 (omega (arith, within))

  pub node_at_place : (numbers : List ℕ) (i d : ℕ) → AreNodes nodes bytes numbers → i < length numbers
      → IsNode nodes bytes (get_or numbers i d)
  node_at_place numbers i d (values, h) within = (get_or values i null, there_at numbers values i d null h within)

pub members_there : (doc : Doc) (bytes : List ℕ) → IsReadFrom doc bytes → HasKind doc.nodes 0 kinds.Object
    → (members : Members) × HasMembers doc.nodes bytes members
members_there doc bytes (whole, reading) (node, got, kind) =
    let stands = reading_stands whole doc bytes reading in
    let is = first_node_is doc.nodes bytes 0 whole.value node (whole_start whole, stands) got in
    grind (arith, object_of)
