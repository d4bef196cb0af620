-- What is where in a text that was read.
use Rattle.std.specs.Prelude.{◌≡◌, ℕ, ◌+◌, List, [], ◌∷◌, ◌++◌, length, slice_get, Some}
use Rattle.jtext.specs.Characters.{Char}
use Rattle.jtext.specs.Values.{Json, Members, no_member, member, spelling, IsValue}
use Rattle.jtext.specs.Nodes.{node_count, nodes_of, element_start, member_start, next_place}
use Rattle.jtext.specs.Texts.{Whole, mark_text, IsWhole}
use Rattle.jtext.specs.declared.document.Kind.{Kind}
use Rattle.jtext.specs.declared.document.Node.{Node}
use Rattle.jtext.specs.declared.document.Doc.{Doc}
use Rattle.jtext.specs.declared.json_texts.TheConstants.{DEEPEST}

abbrev pub whole_start : Whole → ℕ
whole_start whole = length (mark_text whole.marked) + length whole.before

abbrev pub whole_nodes : Whole → List Node
whole_nodes whole = nodes_of 0 (whole_start whole) whole.value

-- the bytes are this text, and the document has its nodes
pub record IsDocOf (whole : Whole) (doc : Doc) (bytes : List ℕ) : Type 0 where
  pub text : IsWhole DEEPEST whole bytes
  pub nodes : doc.nodes ≡ whole_nodes whole

-- the document was read from these bytes
abbrev pub IsReadFrom : Doc → List ℕ → Type 0
IsReadFrom doc bytes = (whole : Whole) × IsDocOf whole doc bytes

-- the part is in the whole at this place
pub record IsPartAt {A : Type 0} (whole : List A) (place : ℕ) (part : List A) : Type 0 where
  pub front : List A
  pub back : List A
  pub all : whole ≡ front ++ (part ++ back)
  pub place_is : length front ≡ place

-- the value has its nodes from this number on and its text from this place on
pub record HasNodesAt (nodes : List Node) (bytes : List ℕ) (number start : ℕ) (value : Json) : Type 0 where
  pub depth : ℕ
  pub value_is : IsValue depth value
  pub nodes_there : IsPartAt nodes number (nodes_of number start value)
  pub text_there : IsPartAt bytes start (spelling value)

-- a member: its key's node and place, its key, its value's first node and place, and its value
pub record Entry : Type 0 where
  pub key_number : ℕ
  pub key_start : ℕ
  pub key : List Char
  pub number : ℕ
  pub start : ℕ
  pub value : Json

abbrev pub entries_at : ℕ → ℕ → Members → List Entry
entries_at number place no_member = []
entries_at number place (member before key behind ahead value after rest) =
    record {
      key_number = number;
      key_start = element_start place before;
      key = key;
      number = number + 1;
      start = member_start place before key behind ahead;
      value = value;
    }
    ∷ entries_at (number + 1 + node_count value) (next_place (member_start place before key behind ahead) value after)
    rest

-- a node of this kind has this number
abbrev pub HasKind : List Node → ℕ → Kind → Type 0
HasKind nodes number kind = (node : Node) × (slice_get nodes number ≡ Some node) × (node.kind ≡ kind)
