-- How many nodes a value has, and lengths of texts in parts.
use Rattle.std.proofs.Common.{◌≡◌, ℕ, ◌+◌, List, ◌++◌, length, refl, ◌∙◌, arith}
use Rattle.std.proofs.lemmas.List.{length-append}
use Rattle.jtext.specs.Values.{Json, Elements, Members, null, truth, numeral, quoted, array, object, no_element}
use Rattle.jtext.specs.Values.{element, no_member, member}
use Rattle.jtext.specs.Nodes.{node_count, element_count, member_count, nodes_of, element_nodes, member_nodes}
use Rattle.jtext.specs.Nodes.{element_start, member_start, next_place, inner_place}
use Rattle.jtext.specs.declared.document.Node.{Node}

join_lengths : (xs ys : List Node) (a b : ℕ) → length xs ≡ a → length ys ≡ b → length (xs ++ ys) ≡ a + b
join_lengths xs ys a b h k = length-append xs ys ∙ omega arith

mutual
  pub length-nodes_of : (value : Json) (number start : ℕ) → length (nodes_of number start value) ≡ node_count value
  length-nodes_of null number start = refl
  length-nodes_of (truth is) number start = refl
  length-nodes_of (numeral text) number start = refl
  length-nodes_of (quoted chars) number start = refl
  length-nodes_of (array blank elements) number start =
      let inner = length-element_nodes elements (number + 1) (inner_place start blank) in omega (arith, inner)
  length-nodes_of (object blank members) number start =
      let inner = length-member_nodes members (number + 1) (inner_place start blank) in omega (arith, inner)

  pub length-element_nodes : (elements : Elements) (number place : ℕ)
      → length (element_nodes number place elements) ≡ element_count elements
  length-element_nodes no_element number place = refl
  length-element_nodes (element before value after rest) number place =
      join_lengths (nodes_of number (element_start place before) value)
      (element_nodes (number + node_count value) (next_place (element_start place before) value after) rest)
      (node_count value) (element_count rest)
      (length-nodes_of value number (element_start place before))
      (length-element_nodes rest (number + node_count value) (next_place (element_start place before) value after))

  pub length-member_nodes : (members : Members) (number place : ℕ)
      → length (member_nodes number place members) ≡ member_count members
  length-member_nodes no_member number place = refl
  length-member_nodes (member before key behind ahead value after rest) number place =
      let inner = join_lengths (nodes_of (number + 1) (member_start place before key behind ahead) value)
      (member_nodes (number + 1 + node_count value)
      (next_place (member_start place before key behind ahead) value after) rest) (node_count value)
      (member_count rest)
      (length-nodes_of value (number + 1) (member_start place before key behind ahead))
      (length-member_nodes rest (number + 1 + node_count value)
      (next_place (member_start place before key behind ahead) value after)) in
      omega (arith, inner)

-- the length of a text in parts
pub length_two : (a b : List ℕ) → length (a ++ b) ≡ length a + length b
length_two a b = length-append a b

pub length_three : (a b c : List ℕ) → length (a ++ (b ++ c)) ≡ length a + (length b + length c)
length_three a b c = simp length-append

pub length_four : (a b c d : List ℕ) → length (a ++ (b ++ (c ++ d))) ≡ length a + (length b + (length c + length d))
length_four a b c d = simp length-append
