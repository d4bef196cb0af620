-- A walk over the elements of an array, from each to the next.
use Rattle.std.proofs.Common.{◌≡◌, ℕ, ◌+◌, ◌<◌, ◌≤◌, List, [], ◌∷◌, ◌++◌, refl, sym, ap, ◌∙◌, subst, arith}
use Rattle.std.proofs.Common.{append_assoc, append-nil}
use Rattle.std.specs.Prelude.{slice_get, Some}
use Rattle.jtext.specs.Values.{Elements, array, no_element, element}
use Rattle.jtext.specs.Nodes.{node_count, element_count, inner_place, element_start, next_place}
use Rattle.jtext.specs.declared.document.Node.{Node}
use Rattle.tin_file.specs.InsideNodes.{IsThere, IsNode, element_numbers}
use Rattle.jtext.proofs.CallerLemmas.NodePlaces.{ElementsStand, array_stands, element_stands, rest_stands, node_count_positive}
use Rattle.tin_file.proofs.DocumentValues.There.{first_node_is}

-- these elements are passed, and the rest is from here to the end
pub record IsWalked (nodes : List Node) (bytes : List ℕ) (all : List ℕ) (at end : ℕ) (passed : List ℕ) : Type 0 where
  pub place : ℕ
  pub rest : Elements
  pub stands : ElementsStand nodes bytes at place rest
  pub count : at + element_count rest ≡ end
  pub together : passed ++ element_numbers at rest ≡ all

module _ (nodes : List Node) (bytes : List ℕ) where
  pub walk_begins : (number : ℕ) (blank : List ℕ) (elements : Elements) (node : Node)
      → IsThere nodes bytes number (array blank elements)
      → slice_get nodes number ≡ Some node → IsWalked nodes bytes (element_numbers (number + 1) elements) (number + 1)
      node.next []
  walk_begins number blank elements node h got = record {
    place = inner_place h.0 blank;
    rest = elements;
    stands = array_stands nodes bytes number h.0 blank elements h.1;
    count = rw (first_node_is nodes bytes number (array blank elements) node h got) (omega arith);
    together = refl;
  }

  module _ (all : List ℕ) (at end : ℕ) (passed : List ℕ) where
    -- where the walk has not ended, a value is here
    pub walk_there : IsWalked nodes bytes all at end passed → at < end → IsNode nodes bytes at
    walk_there w more = there w.place w.rest w.stands w.count
      where
        there : (place : ℕ) (rest : Elements) → ElementsStand nodes bytes at place rest → at + element_count rest ≡ end
            → IsNode nodes bytes at
        there place no_element stands count = absurd (omega (arith, count, more))
        there place (element before value after rest) stands count =
            (value, (element_start place before, element_stands nodes bytes at place before value after rest stands))

    pub walk_goes_on : (node : Node) → IsWalked nodes bytes all at end passed → at < end
        → slice_get nodes at ≡ Some node
        → IsWalked nodes bytes all node.next end (passed ++ at ∷ []) × (at < node.next) × (node.next ≤ end)
    walk_goes_on node w more got = on w.place w.rest w.stands w.count w.together
      where
        on : (place : ℕ) (rest : Elements) → ElementsStand nodes bytes at place rest → at + element_count rest ≡ end
            → passed ++ element_numbers at rest ≡ all
            → IsWalked nodes bytes all node.next end (passed ++ at ∷ []) × (at < node.next) × (node.next ≤ end)
        on place no_element stands count together = absurd (omega (arith, count, more))
        on place (element before value after rest) stands count together =
            let start = element_start place before in
            let is = first_node_is nodes bytes at value node
            (start, element_stands nodes bytes at place before value after rest stands) got in
            let next : node.next ≡ at + node_count value = ap (λ (n : Node). n.next) is in (
              record {
                place = next_place start value after;
                rest = rest;
                stands = subst (λ n. ElementsStand nodes bytes n (next_place start value after) rest) (sym next)
                    (rest_stands nodes bytes at place before value after rest stands);
                count = omega (arith, next, count);
                together = append_assoc passed (at ∷ []) (element_numbers node.next rest)
                    ∙ ap (λ n. passed ++ at ∷ element_numbers n rest) next ∙ together;
              },
              omega (arith, next, node_count_positive value),
              omega (arith, next, count),
            )

    pub walk_ends : IsWalked nodes bytes all at end passed → end ≤ at → passed ≡ all
    walk_ends w behind = ends w.rest w.count w.together
      where
        ends : (rest : Elements) → at + element_count rest ≡ end → passed ++ element_numbers at rest ≡ all
            → passed ≡ all
        ends no_element count together = sym (append-nil passed) ∙ together
        ends (element before value after rest) count together =
            absurd (omega (arith, count, node_count_positive value, behind))
