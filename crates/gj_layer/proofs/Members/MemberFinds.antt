-- What was found of an object's members.
use Rattle.std.proofs.Common.{◌≡◌, ℕ, ◌+◌, ◌<◌, List, [], ◌∷◌, length, refl, sym, ap, ◌∙◌, subst, arith}
use Rattle.std.specs.Prelude.{Option, Some, None, slice_get}
use Rattle.std.proofs.lemmas.Option.{slice_get_within}
use Rattle.jtext.specs.Nodes.{node_count, first_node}
use Rattle.jtext.specs.Places.{HasNodesAt}
use Rattle.jtext.specs.declared.document.Node.{Node}
use Rattle.jtext.proofs.CallerLemmas.NodePlaces.{first_there}
use Rattle.sheet_base.specs.declared.edits.Edit.{Edit}
use Rattle.sheet_base.specs.declared.edits.What.{What}
use Rattle.gj_layer.specs.Members.{Member}
use Rattle.gj_layer.specs.InsideNodes.{AreFound}
use Rattle.gj_layer.specs.InsideFrames.{value_edits, IsContentAt}
use Rattle.gj_layer.proofs.Members.There.{first_is}

module _ (nodes : List Node) (bytes : List ℕ) (object past : ℕ) where
  -- the node of a member that was found
  pub found_within : (found : Option ℕ) (number : ℕ) (one : Option Member) → found ≡ Some number
      → AreFound nodes bytes object past found one → number < length nodes
  found_within (Some other) number (Some one) is are =
      let same : other ≡ number = cc in
      subst (λ n. n < length nodes) same (slice_get_within nodes other (first_node other one.start one.value)
      (first_there nodes bytes other one.start one.value are.stands))
  found_within (Some other) number None is are = absurd are
  found_within None number one is are = cc

  pub span_found : (found : Option ℕ) (number : ℕ) (one : Option Member) (node : Node) (what : What)
      → found ≡ Some number → AreFound nodes bytes object past found one → slice_get nodes number ≡ Some node
      → ◌≡◌ {A = List Edit} (record { start = node.start; end = node.end; what = what } ∷ []) (value_edits one what)
  span_found (Some other) number (Some one) node what is are got =
      let same : number ≡ other = cc in
      ap (λ (n : Node). record { start = n.start; end = n.end; what = what } ∷ [])
      (first_is nodes bytes other one.start one.value node are.stands (ap (slice_get nodes) (sym same) ∙ got))
  span_found (Some other) number None node what is are got = absurd are
  span_found None number one node what is are got = cc

  pub content_found : (found : Option ℕ) (number : ℕ) (one : Option Member) (node : Node) → found ≡ Some number
      → AreFound nodes bytes object past found one → slice_get nodes number ≡ Some node
      → IsContentAt nodes bytes object past (number, node.next, node.start) one
  content_found (Some other) number (Some one) node is are got =
      let same : other ≡ number = cc in
      let here = first_is nodes bytes other one.start one.value node are.stands (ap (slice_get nodes) same ∙ got) in
      let next = ap (λ (n : Node). n.next) here in
      let found = are.inside in
      let end = are.ends in (
        subst (λ n. HasNodesAt nodes bytes n one.start one.value) same are.stands,
        next ∙ ap (λ n. n + node_count one.value) same,
        ap (λ (n : Node). n.start) here,
        omega (arith, found, same),
        omega (arith, end, next),
      )
  content_found (Some other) number None node is are got = absurd are
  content_found None number one node is are got = cc

  -- a value that was found for a member
  pub value_found : (found : Option ℕ) (number : ℕ) (one : Option Member) → found ≡ Some number
      → AreFound nodes bytes object past found one
      → (member : Member) × (one ≡ Some member) × HasNodesAt nodes bytes number member.start member.value
  value_found (Some other) number (Some one) is are = let same : other ≡ number =
      cc in (one, refl, subst (λ n. HasNodesAt nodes bytes n one.start one.value) same are.stands)
  value_found (Some other) number None is are = absurd are
  value_found None number one is are = cc

  pub none_found : (found : Option ℕ) (one : Option Member) → found ≡ None → AreFound nodes bytes object past found one
      → one ≡ None
  none_found None None is are = refl
  none_found None (Some one) is are = absurd are
  none_found (Some other) one is are = cc
