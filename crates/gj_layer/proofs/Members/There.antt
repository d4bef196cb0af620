-- What is at a node.
use Rattle.std.proofs.Common.{◌≡◌, ℕ, ◌+◌, ◌-◌, ◌<◌, ◌≤◌, List, length, refl, sym, ap, ◌∙◌, subst, arith, Bool}
use Rattle.std.specs.Prelude.{Some, slice_get, slice_range}
use Rattle.std.proofs.lemmas.Option.{same_Some, slice_get_within}
use Rattle.jtext.specs.Values.{Json, Elements, Members, truth, numeral, array, object, no_element}
use Rattle.jtext.specs.Values.{element, spelling}
use Rattle.jtext.specs.Nodes.{kind_of, node_count, element_count, first_node, element_start, next_place, inner_place}
use Rattle.jtext.specs.Places.{HasNodesAt, IsReadFrom, HasKind}
use Rattle.jtext.specs.declared.document.Doc.{Doc}
use Rattle.jtext.specs.declared.document.Kind.{Kind}
use Rattle.jtext.specs.declared.document.Kind.TheVariants as kinds
use Rattle.jtext.specs.declared.document.Node.{Node}
use Rattle.jtext.proofs.CallerLemmas.MemberLoops.{object_of, array_of}
use Rattle.jtext.proofs.CallerLemmas.NodePlaces.{ElementsStand, first_there, text_there, ends_within, array_stands, element_stands, value_at}
use Rattle.jtext.proofs.CallerLemmas.NodePlaces.{rest_stands, node_count_positive}
use Rattle.gj_layer.specs.InsideNodes.{AreLeft}

module _ (nodes : List Node) (bytes : List ℕ) where
  -- the node is the first of the value
  pub first_is : (number start : ℕ) (value : Json) (node : Node) → HasNodesAt nodes bytes number start value
      → slice_get nodes number ≡ Some node → node ≡ first_node number start value
  first_is number start value node h got = same_Some node (first_node number start value)
      (sym got ∙ first_there nodes bytes number start value h)

  -- where a node's value is
  pub record IsSeen (number : ℕ) (node : Node) : Type 0 where
    pub order : node.start ≤ node.end
    pub within : node.end ≤ length bytes
    pub onward : number < node.next
    pub inside : node.next ≤ length nodes

  seen_there : (number start : ℕ) (value : Json) (node : Node) → HasNodesAt nodes bytes number start value
      → slice_get nodes number ≡ Some node → IsSeen number node
  seen_there number start value node h got =
      let is = first_is number start value node h got in
      let starts = ap (λ (n : Node). n.start) is in
      let ends = ap (λ (n : Node). n.end) is in
      let next = ap (λ (n : Node). n.next) is in
      let within = ends_within nodes bytes number start value h in
      record {
        order = omega (arith, starts, ends);
        within = omega (arith, ends, within.0);
        onward = omega (arith, next, node_count_positive value);
        inside = omega (arith, next, within.1);
      }

  -- the text of the node's value
  pub text_is : (number start : ℕ) (value : Json) (node : Node) → HasNodesAt nodes bytes number start value
      → slice_get nodes number ≡ Some node → slice_range bytes node.start node.end ≡ spelling value
  text_is number start value node h got =
      let is = first_is number start value node h got in
      let starts = ap (λ (n : Node). n.start) is in
      let ends = ap (λ (n : Node). n.end) is in
      let long : node.end - node.start ≡ length (spelling value) = omega (arith, starts, ends) in
      rw (long, starts) (text_there nodes bytes number start value h)

  -- elements that are left
  left_there : (number place : ℕ) (elements : Elements) → ElementsStand nodes bytes number place elements
      → AreLeft nodes bytes number (number + element_count elements) place elements
  left_there number place no_element h = omega arith
  left_there number place (element before value after rest) h =
      let next : number + node_count value + element_count rest ≡ number + (node_count value + element_count rest) =
      omega arith in (
        element_stands nodes bytes number place before value after rest h,
        subst (λ n. AreLeft nodes bytes (number + node_count value) n
            (next_place (element_start place before) value after) rest) next
            (left_there (number + node_count value) (next_place (element_start place before) value after) rest
            (rest_stands nodes bytes number place before value after rest h)),
      )

  pub array_left : (number start : ℕ) (blank : List ℕ) (elements : Elements) (node : Node)
      → HasNodesAt nodes bytes number start (array blank elements) → slice_get nodes number ≡ Some node
      → AreLeft nodes bytes (number + 1) node.next (inner_place start blank) elements
  array_left number start blank elements node h got =
      let next = ap (λ (n : Node). n.next) (first_is number start (array blank elements) node h got) in
      let same : number + 1 + element_count elements ≡ node.next = omega (arith, next) in
      subst (λ n. AreLeft nodes bytes (number + 1) n (inner_place start blank) elements) same
      (left_there (number + 1) (inner_place start blank) elements
      (array_stands nodes bytes number start blank elements h))

  pub left_count : (at end place : ℕ) (elements : Elements) → AreLeft nodes bytes at end place elements
      → at + element_count elements ≡ end
  left_count at end place no_element h = omega (arith, h)
  left_count at end place (element before value after rest) h =
      let more = left_count (at + node_count value) end (next_place (element_start place before) value after) rest
      h.1 in omega (arith, more)

pub seen : (doc : Doc) (bytes : List ℕ) (number : ℕ) (node : Node) → IsReadFrom doc bytes → number < length doc.nodes
    → slice_get doc.nodes number ≡ Some node → IsSeen doc.nodes bytes number node
seen doc bytes number node read within got =
    let (start, value, h) = value_at doc bytes number read within in seen_there doc.nodes bytes number start value
    node h got

pub kind_within : (nodes : List Node) (number : ℕ) (kind : Kind) → HasKind nodes number kind → number < length nodes
kind_within nodes number kind (node, got, is) = slice_get_within nodes number node got

-- values by their kinds
pub numeral_of : (value : Json) → kind_of value ≡ kinds.Number → (text : List ℕ) × (value ≡ numeral text)
numeral_of (numeral text) h = (text, refl)
numeral_of (truth Bool.true) h = cc
numeral_of _ h = cc

-- the node's kind is the value's
pub kind_there : (nodes : List Node) (bytes : List ℕ) (number start : ℕ) (value : Json) (node : Node) (kind : Kind)
    → HasNodesAt nodes bytes number start value → slice_get nodes number ≡ Some node
    → node.kind ≡ kind → kind_of value ≡ kind
kind_there nodes bytes number start value node kind h got is =
    sym (ap (λ (n : Node). n.kind) (first_is nodes bytes number start value node h got)) ∙ is

pub kind_not_there : (nodes : List Node) (bytes : List ℕ) (number start : ℕ) (value : Json) (node : Node) (kind : Kind)
    → HasNodesAt nodes bytes number start value → slice_get nodes number ≡ Some node
    → (node.kind ≡ kind → ⊥) → kind_of value ≡ kind → ⊥
kind_not_there nodes bytes number start value node kind h got never is =
    never (ap (λ (n : Node). n.kind) (first_is nodes bytes number start value node h got) ∙ is)

-- an array is where a node is one
pub array_there : (doc : Doc) (bytes : List ℕ) (number : ℕ) → IsReadFrom doc bytes
    → HasKind doc.nodes number kinds.Array
    → (start : ℕ) × (blank : List ℕ) × (elements : Elements)
    × HasNodesAt doc.nodes bytes number start (array blank elements)
array_there doc bytes number read (node, got, is) =
    let (start, value, h) = value_at doc bytes number read (slice_get_within doc.nodes number node got) in
    let (blank, elements, same) = array_of value
    (kind_there doc.nodes bytes number start value node kinds.Array h got is) in
    (start, blank, elements, subst (HasNodesAt doc.nodes bytes number start) same h)

pub object_there : (doc : Doc) (bytes : List ℕ) (number : ℕ) → IsReadFrom doc bytes
    → HasKind doc.nodes number kinds.Object
    → (start : ℕ) × (blank : List ℕ) × (members : Members)
    × HasNodesAt doc.nodes bytes number start (object blank members)
object_there doc bytes number read (node, got, is) =
    let (start, value, h) = value_at doc bytes number read (slice_get_within doc.nodes number node got) in
    let (blank, members, same) = object_of value
    (kind_there doc.nodes bytes number start value node kinds.Object h got is) in
    (start, blank, members, subst (HasNodesAt doc.nodes bytes number start) same h)

-- the node of this number
pub node_there : (doc : Doc) (bytes : List ℕ) (number : ℕ) → IsReadFrom doc bytes → number < length doc.nodes
    → (node : Node) × (slice_get doc.nodes number ≡ Some node) × IsSeen doc.nodes bytes number node
node_there doc bytes number read within =
    let (start, value, h) = value_at doc bytes number read within in
    let got = first_there doc.nodes bytes number start value h in (
      first_node number start value,
      got,
      seen_there doc.nodes bytes number start value (first_node number start value) h
          got,
    )

-- the node of an array of this number, and what is known of each node that it could be
pub array_seen : {P : Node → Type 0} (doc : Doc) (bytes : List ℕ) (number : ℕ) → IsReadFrom doc bytes
    → HasKind doc.nodes number kinds.Array → ((node : Node) → slice_get doc.nodes number ≡ Some node → P node)
    → (node : Node) × (slice_get doc.nodes number ≡ Some node) × IsSeen doc.nodes bytes number node × P node
array_seen doc bytes number read kind each =
    let (node, got, s) = node_there doc bytes number read (kind_within doc.nodes number kinds.Array kind) in
    (node, got, s, each node got)

-- the value is an array where its node is one
pub array_here : (doc : Doc) (bytes : List ℕ) (number start : ℕ) (value : Json)
    → HasNodesAt doc.nodes bytes number start value → HasKind doc.nodes number kinds.Array
    → (blank : List ℕ) × (elements : Elements) × (value ≡ array blank elements)
array_here doc bytes number start value h (node, got, is) =
    array_of value (kind_there doc.nodes bytes number start value node kinds.Array h got is)
