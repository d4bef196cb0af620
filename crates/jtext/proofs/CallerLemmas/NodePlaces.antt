-- What is in a text that was read: the value, then what is inside it, one after the other.
use Rattle.std.proofs.Common.{◌≡◌, ℕ, zero, suc, ◌+◌, ◌<◌, ◌≤◌, ◌⊎◌, inl, inr, List, [], ◌∷◌, ◌++◌, length, take, drop}
use Rattle.std.proofs.Common.{refl, sym, ap, ◌∙◌, arith, subst, append_assoc, append-nil}
use Rattle.std.specs.Prelude.{Some, slice_get}
use Rattle.std.proofs.lemmas.List.{length-append, take_at, drop_at}
use Rattle.jtext.specs.Characters.{Char}
use Rattle.jtext.specs.Values.{Json, Elements, Members, null, truth, numeral, quoted, array, object, no_element}
use Rattle.jtext.specs.Values.{element, no_member, member, quoted_text, spelling, elements_text, elements_behind}
use Rattle.jtext.specs.Values.{members_text, members_behind, IsValue, AreElements, AreMembers}
use Rattle.jtext.specs.Nodes.{node_count, element_count, member_count, first_node, key_node, nodes_of, element_nodes}
use Rattle.jtext.specs.Nodes.{member_nodes, element_start, member_start, next_place, inner_place}
use Rattle.jtext.specs.Texts.{Whole, mark_text}
use Rattle.jtext.specs.Places.{whole_start, whole_nodes, IsDocOf, IsPartAt, HasNodesAt, IsReadFrom}
use Rattle.jtext.specs.declared.document.Node.{Node}
use Rattle.jtext.specs.declared.document.Doc.{Doc}
use Rattle.jtext.specs.declared.json_texts.TheConstants.{DEEPEST}
use Rattle.jtext.proofs.Grammar.NodeLists.{length-nodes_of}

-- Parts of parts.
module _ {A : Type 0} (whole : List A) where
  pub part_left : (place : ℕ) (a b : List A) → IsPartAt whole place (a ++ b) → IsPartAt whole place a
  part_left place a b p = grind (arith, append_assoc)

  pub part_right : (place next : ℕ) (a b : List A) → next ≡ place + length a → IsPartAt whole place (a ++ b)
      → IsPartAt whole next b
  part_right place next a b here p = record {
    front = p.front ++ a;
    back = p.back;
    all = p.all ∙ ap (λ (t : List A). p.front ++ t) (append_assoc a b p.back)
        ∙ sym (append_assoc p.front a (b ++ p.back));
    place_is = length-append p.front a ∙ omega (arith, p.place_is);
  }

  part_same : (place : ℕ) (a b : List A) → a ≡ b → IsPartAt whole place a → IsPartAt whole place b
  part_same place a b same p = subst (IsPartAt whole place) same p

  part_within : (place : ℕ) (part : List A) → IsPartAt whole place part → place + length part ≤ length whole
  part_within place part p = omega (
    arith,
    ap length p.all,
    length-append p.front (part ++ p.back),
    length-append part
        p.back,
    p.place_is,
  )

  pub part_at : (place : ℕ) (part : List A) → IsPartAt whole place part → take (length part) (drop place whole) ≡ part
  part_at place part p = grind (arith, drop_at, take_at)

  first_of : (front : List A) (x : A) (back : List A) (place : ℕ) → length front ≡ place
      → slice_get (front ++ x ∷ back) place ≡ Some x
  first_of [] x back place here = ap (λ (n : ℕ). slice_get (x ∷ back) n) (sym here)
  first_of (y ∷ front) x back place here = ap (λ (n : ℕ). slice_get (y ∷ (front ++ x ∷ back)) n) (sym here)
      ∙ first_of front x back (length front) refl

  part_first : (place : ℕ) (x : A) (part : List A) → IsPartAt whole place (x ∷ part)
      → slice_get whole place ≡ Some x
  part_first place x part p = ap (λ (t : List A). slice_get t place) p.all
      ∙ first_of p.front x (part ++ p.back) place p.place_is

pub node_count_positive : (value : Json) → 0 < node_count value
node_count_positive null = omega arith
node_count_positive _ = omega arith

-- the nodes of a value begin with its own
abbrev inner_nodes : ℕ → ℕ → Json → List Node
inner_nodes number start null = []
inner_nodes number start (truth is) = []
inner_nodes number start (numeral text) = []
inner_nodes number start (quoted chars) = []
inner_nodes number start (array blank elements) = element_nodes (number + 1) (inner_place start blank) elements
inner_nodes number start (object blank members) = member_nodes (number + 1) (inner_place start blank) members

first_and_inner : (number start : ℕ) (value : Json)
    → nodes_of number start value ≡ first_node number start value ∷ inner_nodes number start value
first_and_inner number start null = refl
first_and_inner _ start _ = refl

module _ (nodes : List Node) (bytes : List ℕ) where
  -- the node of the value
  pub first_there : (number start : ℕ) (value : Json) → HasNodesAt nodes bytes number start value
      → slice_get nodes number ≡ Some (first_node number start value)
  first_there number start value s =
      part_first nodes number (first_node number start value) (inner_nodes number start value)
      (part_same nodes number (nodes_of number start value)
      (first_node number start value ∷ inner_nodes number start value) (first_and_inner number start value)
      s.nodes_there)

  -- its text
  pub text_there : (number start : ℕ) (value : Json) → HasNodesAt nodes bytes number start value
      → take (length (spelling value)) (drop start bytes) ≡ spelling value
  text_there number start value s = part_at bytes start (spelling value) s.text_there

  pub ends_within : (number start : ℕ) (value : Json) → HasNodesAt nodes bytes number start value
      → (start + length (spelling value) ≤ length bytes) × (number + node_count value ≤ length nodes)
  ends_within number start value s = (
    part_within bytes start (spelling value) s.text_there,
    omega (
      arith,
      part_within nodes number (nodes_of number start value) s.nodes_there,
      length-nodes_of value number
          start,
    ),
  )

  -- where elements are, their text
  abbrev ElementsThere : ℕ → Elements → Type 0
  ElementsThere place no_element = Unit {0}
  ElementsThere place (element before value after rest) =
      IsPartAt bytes place (elements_text (element before value after rest))

  -- From here on these elements are in an array.
  pub record ElementsStand (number place : ℕ) (elements : Elements) : Type 0 where
    pub depth : ℕ
    pub are : AreElements depth elements
    pub nodes_there : IsPartAt nodes number (element_nodes number place elements)
    pub text_there : ElementsThere place elements

  elements_text_there : (place : ℕ) (elements : Elements) (tail : List ℕ)
      → IsPartAt bytes place (elements_text elements ++ tail) → ElementsThere place elements
  elements_text_there place no_element tail p = tt
  elements_text_there place (element before value after rest) tail p =
      part_left bytes place (elements_text (element before value after rest)) tail p

  array_are : (depth : ℕ) (blank : List ℕ) (elements : Elements) → IsValue depth (array blank elements)
      → (inner : ℕ) × AreElements inner elements
  array_are zero blank elements is = absurd is
  array_are (suc depth) blank elements is = (depth, is.1)

  pub array_stands : (number start : ℕ) (blank : List ℕ) (elements : Elements)
      → HasNodesAt nodes bytes number start (array blank elements)
      → ElementsStand (number + 1) (inner_place start blank) elements
  array_stands number start blank elements s =
      let are = array_are s.depth blank elements s.value_is in
      record {
        depth = are.0;
        are = are.1;
        nodes_there = part_right nodes number (number + 1) (first_node number start (array blank elements) ∷ [])
            (element_nodes (number + 1) (inner_place start blank) elements) (omega arith) s.nodes_there;
        text_there = elements_text_there (inner_place start blank) elements (93 ∷ [])
            (part_right bytes (start + 1) (inner_place start blank) blank (elements_text elements ++ 93 ∷ []) refl
            (part_right bytes start (start + 1) (91 ∷ []) (blank ++ (elements_text elements ++ 93 ∷ [])) (omega arith)
            s.text_there));
      }

  -- the first of them
  pub element_stands : (number place : ℕ) (before : List ℕ) (value : Json) (after : List ℕ) (rest : Elements)
      → ElementsStand number place (element before value after rest)
      → HasNodesAt nodes bytes number (element_start place before) value
  element_stands number place before value after rest s = record {
    depth = s.depth;
    value_is = s.are.1;
    nodes_there = part_left nodes number (nodes_of number (element_start place before) value)
        (element_nodes (number + node_count value) (next_place (element_start place before) value after) rest)
        s.nodes_there;
    text_there = part_left bytes (element_start place before) (spelling value) (after ++ elements_behind rest)
        (part_right bytes place (element_start place before) before (spelling value ++ (after ++ elements_behind rest))
        refl s.text_there);
  }

  rest_text_there : (place : ℕ) (rest : Elements) → IsPartAt bytes place (elements_behind rest)
      → ElementsThere (place + 1) rest
  rest_text_there place no_element p = tt
  rest_text_there place (element before value after rest) p =
      part_right bytes place (place + 1) (44 ∷ []) (elements_text (element before value after rest)) (omega arith) p

  -- the others
  pub rest_stands : (number place : ℕ) (before : List ℕ) (value : Json) (after : List ℕ) (rest : Elements)
      → ElementsStand number place (element before value after rest)
      → ElementsStand (number + node_count value) (next_place (element_start place before) value after) rest
  rest_stands number place before value after rest s = record {
    depth = s.depth;
    are = s.are.3;
    nodes_there = part_right nodes number (number + node_count value)
        (nodes_of number (element_start place before) value)
        (element_nodes (number + node_count value) (next_place (element_start place before) value after) rest)
        (omega (arith, length-nodes_of value number (element_start place before))) s.nodes_there;
    text_there = rest_text_there (element_start place before + length (spelling value) + length after) rest
        (part_right bytes (element_start place before + length (spelling value))
        (element_start place before + length (spelling value) + length after) after (elements_behind rest) refl
        (part_right bytes (element_start place before) (element_start place before + length (spelling value))
        (spelling value) (after ++ elements_behind rest) refl
        (part_right bytes place (element_start place before) before (spelling value ++ (after ++ elements_behind rest))
        refl s.text_there)));
  }

  -- where members are, their text
  abbrev MembersThere : ℕ → Members → Type 0
  MembersThere place no_member = Unit {0}
  MembersThere place (member before key behind ahead value after rest) =
      IsPartAt bytes place (members_text (member before key behind ahead value after rest))

  -- From here on these members are in an object.
  pub record MembersStand (number place : ℕ) (members : Members) : Type 0 where
    pub depth : ℕ
    pub are : AreMembers depth members
    pub nodes_there : IsPartAt nodes number (member_nodes number place members)
    pub text_there : MembersThere place members

  members_text_there : (place : ℕ) (members : Members) (tail : List ℕ)
      → IsPartAt bytes place (members_text members ++ tail) → MembersThere place members
  members_text_there place no_member tail p = tt
  members_text_there place (member before key behind ahead value after rest) tail p =
      part_left bytes place (members_text (member before key behind ahead value after rest)) tail p

  object_are : (depth : ℕ) (blank : List ℕ) (members : Members) → IsValue depth (object blank members)
      → (inner : ℕ) × AreMembers inner members
  object_are zero blank members is = absurd is
  object_are (suc depth) blank members is = (depth, is.1)

  pub object_stands : (number start : ℕ) (blank : List ℕ) (members : Members)
      → HasNodesAt nodes bytes number start (object blank members)
      → MembersStand (number + 1) (inner_place start blank) members
  object_stands number start blank members s =
      let are = object_are s.depth blank members s.value_is in
      record {
        depth = are.0;
        are = are.1;
        nodes_there = part_right nodes number (number + 1) (first_node number start (object blank members) ∷ [])
            (member_nodes (number + 1) (inner_place start blank) members) (omega arith) s.nodes_there;
        text_there = members_text_there (inner_place start blank) members (125 ∷ [])
            (part_right bytes (start + 1) (inner_place start blank) blank (members_text members ++ 125 ∷ []) refl
            (part_right bytes start (start + 1) (123 ∷ []) (blank ++ (members_text members ++ 125 ∷ [])) (omega arith)
            s.text_there));
      }

  -- the key of the first of them, which is written as a text is
  pub key_stands : (number place : ℕ) (before : List ℕ) (key : List Char) (behind ahead : List ℕ) (value : Json)
      (after : List ℕ) (rest : Members)
      → MembersStand number place (member before key behind ahead value after rest)
      → HasNodesAt nodes bytes number (element_start place before) (quoted key)
  key_stands number place before key behind ahead value after rest s = record {
    depth = s.depth;
    value_is = s.are.1;
    nodes_there = part_left nodes number (key_node number (element_start place before) key ∷ [])
        (nodes_of (number + 1) (member_start place before key behind ahead) value
        ++ member_nodes (number + 1 + node_count value)
        (next_place (member_start place before key behind ahead) value after) rest) s.nodes_there;
    text_there = part_left bytes (element_start place before) (quoted_text key)
        (behind ++ 58 ∷ (ahead ++ (spelling value ++ (after ++ members_behind rest))))
        (part_right bytes place (element_start place before) before
        (quoted_text key ++ (behind ++ 58 ∷ (ahead ++ (spelling value ++ (after ++ members_behind rest))))) refl
        s.text_there);
  }

  value_text_there : (place : ℕ) (before : List ℕ) (key : List Char) (behind ahead text : List ℕ)
      → IsPartAt bytes place (before ++ (quoted_text key ++ (behind ++ 58 ∷ (ahead ++ text))))
      → IsPartAt bytes (member_start place before key behind ahead) text
  value_text_there place before key behind ahead text p =
      part_right bytes (place + length before + length (quoted_text key) + length behind + 1)
      (member_start place before key behind ahead) ahead text refl
      (part_right bytes (place + length before + length (quoted_text key) + length behind)
      (place + length before + length (quoted_text key) + length behind + 1) (58 ∷ []) (ahead ++ text) (omega arith)
      (part_right bytes (place + length before + length (quoted_text key))
      (place + length before + length (quoted_text key) + length behind) behind (58 ∷ (ahead ++ text)) refl
      (part_right bytes (place + length before) (place + length before + length (quoted_text key)) (quoted_text key)
      (behind ++ 58 ∷ (ahead ++ text)) refl
      (part_right bytes place (place + length before) before (quoted_text key ++ (behind ++ 58 ∷ (ahead ++ text))) refl
      p))))

  -- its value
  pub member_stands : (number place : ℕ) (before : List ℕ) (key : List Char) (behind ahead : List ℕ) (value : Json)
      (after : List ℕ) (rest : Members)
      → MembersStand number place (member before key behind ahead value after rest)
      → HasNodesAt nodes bytes (number + 1) (member_start place before key behind ahead) value
  member_stands number place before key behind ahead value after rest s = record {
    depth = s.depth;
    value_is = s.are.4;
    nodes_there = part_left nodes (number + 1)
        (nodes_of (number + 1) (member_start place before key behind ahead) value)
        (member_nodes (number + 1 + node_count value)
        (next_place (member_start place before key behind ahead) value after) rest)
        (part_right nodes number (number + 1) (key_node number (element_start place before) key ∷ [])
        (nodes_of (number + 1) (member_start place before key behind ahead) value
        ++ member_nodes (number + 1 + node_count value)
        (next_place (member_start place before key behind ahead) value after) rest) (omega arith) s.nodes_there);
    text_there = part_left bytes (member_start place before key behind ahead) (spelling value)
        (after ++ members_behind rest)
        (value_text_there place before key behind ahead (spelling value ++ (after ++ members_behind rest))
        s.text_there);
  }

  members_rest_there : (place : ℕ) (rest : Members) → IsPartAt bytes place (members_behind rest)
      → MembersThere (place + 1) rest
  members_rest_there place no_member p = tt
  members_rest_there place (member before key behind ahead value after rest) p =
      part_right bytes place (place + 1) (44 ∷ []) (members_text (member before key behind ahead value after rest))
      (omega arith) p

  -- the others
  pub members_rest_stand : (number place : ℕ) (before : List ℕ) (key : List Char) (behind ahead : List ℕ) (value : Json)
      (after : List ℕ) (rest : Members)
      → MembersStand number place (member before key behind ahead value after rest)
      → MembersStand (number + 1 + node_count value)
      (next_place (member_start place before key behind ahead) value after) rest
  members_rest_stand number place before key behind ahead value after rest s = record {
    depth = s.depth;
    are = s.are.6;
    nodes_there = part_right nodes (number + 1) (number + 1 + node_count value)
        (nodes_of (number + 1) (member_start place before key behind ahead) value)
        (member_nodes (number + 1 + node_count value)
        (next_place (member_start place before key behind ahead) value after) rest)
        (omega (arith, length-nodes_of value (number + 1) (member_start place before key behind ahead)))
        (part_right nodes number (number + 1) (key_node number (element_start place before) key ∷ [])
        (nodes_of (number + 1) (member_start place before key behind ahead) value
        ++ member_nodes (number + 1 + node_count value)
        (next_place (member_start place before key behind ahead) value after) rest) (omega arith) s.nodes_there);
    text_there = members_rest_there (member_start place before key behind ahead + length (spelling value)
        + length after) rest
        (part_right bytes (member_start place before key behind ahead + length (spelling value))
        (member_start place before key behind ahead + length (spelling value) + length after) after
        (members_behind rest) refl
        (part_right bytes (member_start place before key behind ahead)
        (member_start place before key behind ahead + length (spelling value)) (spelling value)
        (after ++ members_behind rest) refl
        (value_text_there place before key behind ahead (spelling value ++ (after ++ members_behind rest))
        s.text_there)));
  }

  -- Each node is the first of what is there.
  abbrev Standing : ℕ → Type 0
  Standing number = (start : ℕ) × (value : Json) × HasNodesAt nodes bytes number start value

  same_number : (number other start : ℕ) (value : Json) → number ≡ other → HasNodesAt nodes bytes number start value
      → Standing other
  same_number number other start value same s = subst Standing same (start, value, s)

  order : (number other : ℕ) → number ≤ other → (number ≡ other) ⊎ (number + 1 ≤ other)
  order number other h = grind arith

  split_at : (number count other : ℕ) → (other < number + count) ⊎ (number + count ≤ other)
  split_at number count other = grind arith

  mutual
    value_inside : (value : Json) (number start : ℕ) → HasNodesAt nodes bytes number start value → (other : ℕ)
        → number ≤ other → other < number + node_count value → Standing other
    value_inside null number start s other above below = same_number number other start null (omega arith) s
    value_inside (truth is) number start s other above below = same_number number other start (truth is) (omega arith) s
    value_inside (numeral text) number start s other above below =
        same_number number other start (numeral text) (omega arith) s
    value_inside (quoted chars) number start s other above below =
        same_number number other start (quoted chars) (omega arith) s
    value_inside (array blank elements) number start s other above below = elim (order number other above) [
      | inl same ↦ same_number number other start (array blank elements) same s
      | inr more ↦ element_inside elements (number + 1) (inner_place start blank)
          (array_stands number start blank elements s) other more (omega arith)
    ]
    value_inside (object blank members) number start s other above below = elim (order number other above) [
      | inl same ↦ same_number number other start (object blank members) same s
      | inr more ↦ member_inside members (number + 1) (inner_place start blank)
          (object_stands number start blank members s) other more (omega arith)
    ]

    element_inside : (elements : Elements) (number place : ℕ) → ElementsStand number place elements → (other : ℕ)
        → number ≤ other → other < number + element_count elements → Standing other
    element_inside no_element number place s other above below = absurd (omega arith)
    element_inside (element before value after rest) number place s other above below =
        elim (split_at number (node_count value) other) [
          | inl inside ↦ value_inside value number (element_start place before)
              (element_stands number place before value after rest s) other above inside
          | inr behind ↦ element_inside rest (number + node_count value)
              (next_place (element_start place before) value after) (rest_stands number place before value after rest s)
              other behind (omega arith)
        ]

    member_inside : (members : Members) (number place : ℕ) → MembersStand number place members → (other : ℕ)
        → number ≤ other → other < number + member_count members → Standing other
    member_inside no_member number place s other above below = absurd (omega arith)
    member_inside (member before key behind ahead value after rest) number place s other above below =
        elim (order number other above) [
          | inl same ↦ same_number number other (element_start place before) (quoted key) same
              (key_stands number place before key behind ahead value after rest s)
          | inr more ↦ elim (split_at (number + 1) (node_count value) other) [
            | inl inside ↦ value_inside value (number + 1) (member_start place before key behind ahead)
                (member_stands number place before key behind ahead value after rest s) other more inside
            | inr later ↦ member_inside rest (number + 1 + node_count value)
                (next_place (member_start place before key behind ahead) value after)
                (members_rest_stand number place before key behind ahead value after rest s) other later (omega arith)
          ]
        ]

-- the value of a text that was read
pub reading_stands : (whole : Whole) (doc : Doc) (bytes : List ℕ) → IsDocOf whole doc bytes
    → HasNodesAt doc.nodes bytes 0 (whole_start whole) whole.value
reading_stands whole doc bytes r = record {
  depth = DEEPEST;
  value_is = r.text.value;
  nodes_there = record { front = []; back = []; all = r.nodes ∙ sym (append-nil (whole_nodes whole)); place_is = refl };
  text_there = record {
    front = mark_text whole.marked ++ whole.before;
    back = whole.after;
    all = r.text.all ∙ sym (append_assoc (mark_text whole.marked) whole.before (spelling whole.value ++ whole.after));
    place_is = length-append (mark_text whole.marked) whole.before;
  };
}

-- Each node of it is the first of what is there.
pub node_stands : (whole : Whole) (doc : Doc) (bytes : List ℕ) → IsDocOf whole doc bytes → (number : ℕ)
    → number < length doc.nodes → (start : ℕ) × (value : Json) × HasNodesAt doc.nodes bytes number start value
node_stands whole doc bytes r number below =
    value_inside doc.nodes bytes whole.value 0 (whole_start whole) (reading_stands whole doc bytes r) number
    (omega arith)
    (omega (arith, ap length r.nodes, length-nodes_of whole.value 0 (whole_start whole)))

-- and so a value is at each node of a document that was read
pub value_at : (doc : Doc) (bytes : List ℕ) (number : ℕ) → IsReadFrom doc bytes → number < length doc.nodes
    → (start : ℕ) × (value : Json) × HasNodesAt doc.nodes bytes number start value
value_at doc bytes number (whole, r) below = node_stands whole doc bytes r number below
