-- What is found in a document that was read.
use Rattle.std.proofs.Common.{◌≡◌, ℕ, ◌+◌, ◌<◌, List, [], ◌∷◌, length, refl, sym, ap, ◌∙◌, subst}
use Rattle.std.proofs.Common.{Bool, true, false}
use Rattle.std.specs.Prelude.{if◌then◌else◌, Option, Some, None, Ok, Err, slice_get, IsTrue, IfSome, ◌↔◌}
use Rattle.std.proofs.lemmas.Option.{same_Some, slice_get_within}
use Rattle.jtext.specs.Characters.{units_of}
use Rattle.jtext.specs.Values.{Json, Members, null, truth, numeral, quoted, array, object, no_member, member}
use Rattle.jtext.specs.Nodes.{kind_of, node_count, first_node, member_start, next_place, inner_place}
use Rattle.jtext.specs.Places.{Entry, entries_at, HasNodesAt, IsReadFrom, whole_start}
use Rattle.jtext.specs.Lookups.{Says, are_same, entries_of_key, only_one}
use Rattle.jtext.specs.declared.document.Doc.{Doc}
use Rattle.jtext.specs.declared.document.Node.{Node}
use Rattle.jtext.specs.declared.document.Kind.TheVariants as kinds
use Rattle.jtext.specs.declared.lookup.Repeat.{Repeat}
use Rattle.jtext.proofs.CallerLemmas.NodePlaces.{MembersStand, object_stands, member_stands, members_rest_stand, first_there}
use Rattle.jtext.proofs.CallerLemmas.NodePlaces.{reading_stands}
use Rattle.jtext.proofs.CallerLemmas.SameTexts.{says_quoted}
use Rattle.layer_features.specs.JsonFeatures.{only, member_of, is_saying}
use Rattle.layer_features.specs.InsideNodes.{IsFoundAs}

pub not_object : (name : List ℕ) (number start : ℕ) (value : Json) → (kind_of value ≡ kinds.Object → ⊥)
    → member_of name number start value ≡ None
not_object name number start (object blank members) lacks = absurd (lacks refl)
not_object name _ start _ lacks = refl

module _ (nodes : List Node) (bytes : List ℕ) where
  -- the node is the first of the value
  pub first_is : (number start : ℕ) (value : Json) (node : Node) → HasNodesAt nodes bytes number start value
      → slice_get nodes number ≡ Some node → node ≡ first_node number start value
  first_is number start value node h got = same_Some node (first_node number start value)
      (sym got ∙ first_there nodes bytes number start value h)

  pub kind_is : (number start : ℕ) (value : Json) (node : Node) → HasNodesAt nodes bytes number start value
      → slice_get nodes number ≡ Some node → node.kind ≡ kind_of value
  kind_is number start value node h got = ap (λ (n : Node). n.kind) (first_is number start value node h got)

  pub within_nodes : (number start : ℕ) (value : Json) → HasNodesAt nodes bytes number start value
      → number < length nodes
  within_nodes number start value h = slice_get_within nodes number (first_node number start value)
      (first_there nodes bytes number start value h)

  -- each value of these members is there
  abbrev pub AllStand : List Entry → Type 0
  AllStand [] = Unit {0}
  AllStand (one ∷ more) = HasNodesAt nodes bytes one.number one.start one.value × AllStand more

  pub members_all_stand : (members : Members) (number place : ℕ) → MembersStand nodes bytes number place members
      → AllStand (entries_at number place members)
  members_all_stand no_member number place s = tt
  members_all_stand (member before key behind ahead value after rest) number place s = (
    member_stands nodes bytes number place before key behind ahead value after rest s,
    members_all_stand rest (number + 1 + node_count value)
        (next_place (member_start place before key behind ahead) value after)
        (members_rest_stand nodes bytes number place before key behind ahead value after rest s),
  )

  by_name : (test : Bool) (one : Entry) (more : List Entry)
      → HasNodesAt nodes bytes one.number one.start one.value → AllStand more
      → AllStand (if test then one ∷ more else more)
  by_name true one more h hs = (h, hs)
  by_name false one more h hs = hs

  named_stand : (name : List ℕ) (entries : List Entry) → AllStand entries → AllStand (entries_of_key name entries)
  named_stand name [] all = tt
  named_stand name (one ∷ more) all = by_name (are_same (units_of one.key) name) one (entries_of_key name more) all.0
      (named_stand name more all.1)

  found_only : (entries : List Entry) (found : Option ℕ) → AllStand entries → only_one entries ≡ Ok found
      → IsFoundAs nodes bytes found (only entries)
  found_only [] None all is = tt
  found_only [] (Some number) all is = cc
  found_only (one ∷ []) None all is = cc
  found_only (one ∷ []) (Some number) all is = let same : one.number ≡ number = cc in (sym same, all.0)
  found_only (one ∷ second ∷ more) found all is = cc

  pub found_no_only : (entries : List Entry) (fault : Repeat) → only_one entries ≡ Err fault
      → IsFoundAs nodes bytes None (only entries)
  found_no_only (one ∷ second ∷ more) fault is = tt
  found_no_only entries fault is = cc

  pub found_in_object : (name : List ℕ) (number start : ℕ) (blank : List ℕ) (members : Members) (found : Option ℕ)
      → HasNodesAt nodes bytes number start (object blank members)
      → only_one (entries_of_key name (entries_at (number + 1) (inner_place start blank) members)) ≡ Ok found
      → IsFoundAs nodes bytes found (member_of name number start (object blank members))
  found_in_object name number start blank members found h is =
      found_only (entries_of_key name (entries_at (number + 1) (inner_place start blank) members)) found
      (named_stand name (entries_at (number + 1) (inner_place start blank) members)
      (members_all_stand members (number + 1) (inner_place start blank)
      (object_stands nodes bytes number start blank members h))) is

  found_within : (found : Option ℕ) (number : ℕ) (one : Option Entry) → found ≡ Some number
      → IsFoundAs nodes bytes found one → number < length nodes
  found_within (Some other) number (Some one) is are =
      let same : one.number ≡ number = let first : other ≡ number = cc in sym are.0 ∙ first in
      subst (λ n. n < length nodes) same (within_nodes one.number one.start one.value are.1)
  found_within (Some other) number None is are = absurd are
  found_within None number one is are = cc

  -- what was found is a member, or there is none
  pub some_found : (number : ℕ) (found : Option Entry) → IsFoundAs nodes bytes (Some number) found
      → (one : Entry) × (found ≡ Some one) × (number ≡ one.number) × HasNodesAt nodes bytes number one.start one.value
  some_found number (Some one) are =
      (one, refl, are.0, subst (λ n. HasNodesAt nodes bytes n one.start one.value) (sym are.0) are.1)
  some_found number None are = absurd are

  pub none_found : (found : Option Entry) → IsFoundAs nodes bytes None found → found ≡ None
  none_found None are = refl
  none_found (Some one) are = absurd are

no_says : (test : Bool) → (IsTrue test → ⊥) → test ≡ false
no_says true lacks = absurd (lacks refl)
no_says false lacks = refl

-- a test whether a value says this
pub says_is : (text : List ℕ) (value : Json) (test : Bool) → (IsTrue test ↔ Says value text)
    → test ≡ is_saying text value
says_is text (numeral number) test h = no_says test h.0
says_is text (quoted chars) test h = says_quoted chars text test h
says_is text _ test h = no_says test h.0

-- what was found is inside the document
pub found_inside : (nodes : List Node) (bytes : List ℕ) (found : Option ℕ) (one : Option Entry)
    → IsFoundAs nodes bytes found one → IfSome found (λ number. number < length nodes)
found_inside nodes bytes None one are = tt
found_inside nodes bytes (Some number) one are = found_within nodes bytes (Some number) number one refl are

-- the first node of a document
pub root_there : (doc : Doc) (bytes : List ℕ) → IsReadFrom doc bytes → 0 < length doc.nodes
root_there doc bytes (whole, r) = within_nodes doc.nodes bytes 0 (whole_start whole) whole.value
    (reading_stands whole doc bytes r)
