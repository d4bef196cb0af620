-- The nodes of a value: what is where, in order of the text.
use Rattle.std.specs.Prelude.{ℕ, ◌+◌, Bool, true, false, List, [], ◌∷◌, ◌++◌, length}
use Rattle.jtext.specs.Characters.{Char}
use Rattle.jtext.specs.Values.{Json, Elements, Members, null, truth, numeral, quoted, array, object, no_element}
use Rattle.jtext.specs.Values.{element, no_member, member, quoted_text, spelling}
use Rattle.jtext.specs.declared.document.Kind.{Kind}
use Rattle.jtext.specs.declared.document.Kind.TheVariants as kinds
use Rattle.jtext.specs.declared.document.Node.{Node}

abbrev pub truth_kind : Bool → Kind
truth_kind true = kinds.True
truth_kind false = kinds.False

abbrev pub kind_of : Json → Kind
kind_of null = kinds.Null
kind_of (truth is) = truth_kind is
kind_of (numeral text) = kinds.Number
kind_of (quoted chars) = kinds.Text
kind_of (array blank elements) = kinds.Array
kind_of (object blank members) = kinds.Object

-- how many nodes a value has, with all inside it; a key is a node
abbrev mutual
  pub node_count : Json → ℕ
  node_count null = 1
  node_count (truth is) = 1
  node_count (numeral text) = 1
  node_count (quoted chars) = 1
  node_count (array blank elements) = 1 + element_count elements
  node_count (object blank members) = 1 + member_count members

  pub element_count : Elements → ℕ
  element_count no_element = 0
  element_count (element before value after rest) = node_count value + element_count rest

  pub member_count : Members → ℕ
  member_count no_member = 0
  member_count (member before key behind ahead value after rest) = 1 + (node_count value + member_count rest)

-- from the first byte to after the last, and the number of the first node after
abbrev pub node : Kind → ℕ → ℕ → ℕ → Node
node kind start end next = record { kind = kind; start = start; end = end; next = next }

-- the first node of the value whose text begins at this place, where its number is this
abbrev pub first_node : ℕ → ℕ → Json → Node
first_node number start value = node (kind_of value) start (start + length (spelling value)) (number + node_count value)

abbrev pub key_node : ℕ → ℕ → List Char → Node
key_node number start key = node kinds.Text start (start + length (quoted_text key)) (number + 1)

-- where the value of an element or member begins, whose text begins at this place
abbrev pub element_start : ℕ → List ℕ → ℕ
element_start place before = place + length before

abbrev pub member_start : ℕ → List ℕ → List Char → List ℕ → List ℕ → ℕ
member_start place before key behind ahead =
    place + length before + length (quoted_text key) + length behind + 1 + length ahead

-- where the next element or member begins: after the value, what follows it, and a comma
abbrev pub next_place : ℕ → Json → List ℕ → ℕ
next_place start value after = start + length (spelling value) + length after + 1

-- where the elements or members of an array or object that begins at this place begin
abbrev pub inner_place : ℕ → List ℕ → ℕ
inner_place start blank = start + 1 + length blank

-- the nodes of a value whose text begins at start, where the first of them has this number
abbrev mutual
  pub nodes_of : ℕ → ℕ → Json → List Node
  nodes_of number start null = first_node number start null ∷ []
  nodes_of number start (truth is) = first_node number start (truth is) ∷ []
  nodes_of number start (numeral text) = first_node number start (numeral text) ∷ []
  nodes_of number start (quoted chars) = first_node number start (quoted chars) ∷ []
  nodes_of number start (array blank elements) =
      first_node number start (array blank elements) ∷ element_nodes (number + 1) (inner_place start blank) elements
  nodes_of number start (object blank members) =
      first_node number start (object blank members) ∷ member_nodes (number + 1) (inner_place start blank) members

  pub element_nodes : ℕ → ℕ → Elements → List Node
  element_nodes number place no_element = []
  element_nodes number place (element before value after rest) =
      nodes_of number (element_start place before) value
      ++ element_nodes (number + node_count value) (next_place (element_start place before) value after) rest

  pub member_nodes : ℕ → ℕ → Members → List Node
  member_nodes number place no_member = []
  member_nodes number place (member before key behind ahead value after rest) =
      key_node number (element_start place before) key
      ∷ (nodes_of (number + 1) (member_start place before key behind ahead) value
      ++ member_nodes (number + 1 + node_count value)
      (next_place (member_start place before key behind ahead) value after) rest)
