-- The ids of features and the members of their properties are JSON values.
use Rattle.std.proofs.Common.{◌≡◌, ℕ, zero, suc, ◌+◌, ◌-◌, ◌≤◌, Bool, true, false, List, [], ◌∷◌, length, take, drop, codes}
use Rattle.std.proofs.Common.{Option, None, Some, refl, sym, ap, ◌∙◌, arith, subst}
use Rattle.std.specs.Prelude.{if◌then◌else◌, nat_lt}
use Rattle.std.specs.List.{AllByRecursion, list_all}
use Rattle.jtext.specs.Characters.{units_of}
use Rattle.jtext.specs.Values.{Json, Elements, Members, null, truth, numeral, quoted, array, object, no_element, element}
use Rattle.jtext.specs.Values.{no_member, member, spelling, IsValue, AreElements, AreMembers}
use Rattle.jtext.specs.Nodes.{node_count, element_start, member_start, next_place, inner_place}
use Rattle.jtext.specs.Places.{Entry, entries_at, HasNodesAt, IsDocOf, whole_nodes, whole_start}
use Rattle.jtext.specs.Lookups.{are_same, entries_of_key}
use Rattle.jtext.specs.declared.document.Doc.{Doc}
use Rattle.jtext.specs.declared.document.Node.{Node}
use Rattle.jtext.specs.declared.json_texts.TheConstants.{DEEPEST}
use Rattle.jtext.proofs.CallerLemmas.NodePlaces.{ElementsStand, array_stands, element_stands, rest_stands, object_stands, text_there}
use Rattle.jtext.proofs.CallerLemmas.NodePlaces.{reading_stands}
use Rattle.layer_features.specs.declared.features.Feature.{Feature}
use Rattle.layer_features.specs.declared.features.TextPart.{TextPart}
use Rattle.layer_features.specs.JsonFeatures.{only, member_of, says, part_of, member_inside, name_of}
use Rattle.layer_features.specs.JsonFeatures.{feature_of, features_from, array_features, features_in, value_features}
use Rattle.layer_features.specs.Laws.{part_text, IsValueText, IsValuePart, HasValueParts, CopiesAreValues}
use Rattle.layer_features.proofs.Found.{AllStand, members_all_stand}

-- ---- values that nest at most so deep
abbrev mutual
  deeper : (d e : ℕ) (value : Json) → d ≤ e → IsValue d value → IsValue e value
  deeper d e (numeral text) below is = is
  deeper d e (quoted chars) below is = is
  deeper zero e (array blank elements) below is = absurd is
  deeper (suc d) zero (array blank elements) below is = absurd (omega (arith, below))
  deeper (suc d) (suc e) (array blank elements) below is =
      (is.0, elements_deeper d e elements (omega (arith, below)) is.1)
  deeper zero e (object blank members) below is = absurd is
  deeper (suc d) zero (object blank members) below is = absurd (omega (arith, below))
  deeper (suc d) (suc e) (object blank members) below is =
      (is.0, members_deeper d e members (omega (arith, below)) is.1)
  deeper d e _ below is = tt

  elements_deeper : (d e : ℕ) (elements : Elements) → d ≤ e → AreElements d elements → AreElements e elements
  elements_deeper d e no_element below are = tt
  elements_deeper d e (element before value after rest) below are =
      (are.0, deeper d e value below are.1, are.2, elements_deeper d e rest below are.3)

  members_deeper : (d e : ℕ) (members : Members) → d ≤ e → AreMembers d members → AreMembers e members
  members_deeper d e no_member below are = tt
  members_deeper d e (member before key behind ahead value after rest) below are = (
    are.0,
    are.1,
    are.2,
    are.3,
    deeper d e value below are.4,
    are.5,
    members_deeper d e rest below are.6,
  )

-- ---- values at their places
-- the value is at its node, and does not nest too deep
record IsHere (nodes : List Node) (bytes : List ℕ) (number start : ℕ) (value : Json) : Type 0 where
  there : HasNodesAt nodes bytes number start value
  depth : IsValue DEEPEST value

-- elements and members of what does not
inner_elements : (blank : List ℕ) (elements : Elements) → IsValue DEEPEST (array blank elements)
    → AreElements DEEPEST elements
inner_elements blank elements is = elements_deeper 63 DEEPEST elements (omega arith) is.1

inner_members : (blank : List ℕ) (members : Members) → IsValue DEEPEST (object blank members) → AreMembers DEEPEST members
inner_members blank members is = members_deeper 63 DEEPEST members (omega arith) is.1

module _ (nodes : List Node) (bytes : List ℕ) where
  entries_here : (number place : ℕ) (members : Members) → AllStand nodes bytes (entries_at number place members)
      → AreMembers DEEPEST members
      → AllByRecursion (λ (one : Entry). IsHere nodes bytes one.number one.start one.value) (entries_at number place members)
  entries_here number place no_member stand are = tt
  entries_here number place (member before key behind ahead value after rest) stand are = (
    record { there = stand.0; depth = are.4 },
    entries_here (number + 1 + node_count value)
        (next_place (member_start place before key behind ahead) value after) rest stand.1 are.6,
  )

module _ (P : Entry → Type 0) where
  by_name : (test : Bool) (one : Entry) (more : List Entry) → P one → AllByRecursion P more
      → AllByRecursion P (if test then one ∷ more else more)
  by_name true one more is are = (is, are)
  by_name false one more is are = are

  named_all : (name : List ℕ) (entries : List Entry) → AllByRecursion P entries → AllByRecursion P (entries_of_key name entries)
  named_all name [] are = tt
  named_all name (one ∷ more) are =
      by_name (are_same (units_of one.key) name) one (entries_of_key name more) are.0 (named_all name more are.1)

  only_is : (entries : List Entry) (one : Entry) → AllByRecursion P entries → only entries ≡ Some one → P one
  only_is [] one are is = cc
  only_is (first ∷ []) one are is = let same : first ≡ one = cc in subst P same are.0
  only_is (first ∷ second ∷ more) one are is = cc

module _ (nodes : List Node) (bytes : List ℕ) where
  member_here : (name : List ℕ) (number start : ℕ) (value : Json) (one : Entry) → IsHere nodes bytes number start value
      → member_of name number start value ≡ Some one → IsHere nodes bytes one.number one.start one.value
  member_here name number start (object blank members) one here is =
      let P : Entry → Type 0 = λ (entry : Entry). IsHere nodes bytes entry.number entry.start entry.value in
      let entries = entries_at (number + 1) (inner_place start blank) members in
      only_is P (entries_of_key name entries) one
      (named_all P name entries (entries_here nodes bytes (number + 1) (inner_place start blank) members
      (members_all_stand nodes bytes members (number + 1) (inner_place start blank)
      (object_stands nodes bytes number start blank members here.there)) (inner_members blank members here.depth))) is
  member_here name _ start _ one here is = cc

  part_is : (number start : ℕ) (value : Json) → IsHere nodes bytes number start value
      → IsValueText (part_text bytes (record { start = start; past = start + length (spelling value) }))
  part_is number start value here =
      let long : start + length (spelling value) - start ≡ length (spelling value) = omega arith in (
        value,
        here.depth,
        sym (ap (λ (n : ℕ). take n (drop start bytes)) long
            ∙ text_there nodes bytes number start value here.there),
      )

  found_part : (found : Option Entry)
      → ((one : Entry) → found ≡ Some one → IsHere nodes bytes one.number one.start one.value)
      → IsValuePart bytes (part_of found)
  found_part None here = tt
  found_part (Some one) here = part_is one.number one.start one.value (here one refl)

  inside_here : (name : List ℕ) (found : Option Entry)
      → ((one : Entry) → found ≡ Some one → IsHere nodes bytes one.number one.start one.value)
      → (one : Entry) → member_inside name found ≡ Some one → IsHere nodes bytes one.number one.start one.value
  inside_here name None here one is = cc
  inside_here name (Some first) here one is =
      member_here name first.number first.start first.value one (here first refl) is

  either_part : (test : Bool) (part : Option TextPart) → IsValuePart bytes part → IsValuePart bytes (if test then part else None)
  either_part true part is = is
  either_part false part is = tt

  name_part : (name : Option (List ℕ)) (number start : ℕ) (value : Json) → IsHere nodes bytes number start value
      → IsValuePart bytes (name_of name number start value)
  name_part None number start value here = tt
  name_part (Some name) number start value here =
      let found = member_of (codes "properties") number start value in
      either_part (list_all (λ byte. nat_lt byte 128) name) (part_of (member_inside name found))
      (found_part (member_inside name found) (inside_here name found
      (λ one is. member_here (codes "properties") number start value one here is)))

  feature_parts : (name : Option (List ℕ)) (count number start : ℕ) (value : Json)
      → IsHere nodes bytes number start value → HasValueParts bytes (feature_of name count number start value)
  feature_parts name count number start value here = record {
    label = tt;
    id = found_part (member_of (codes "id") number start value)
        (λ one is. member_here (codes "id") number start value one here is);
    name = name_part name number start value here;
  }

  elements_parts : (name : Option (List ℕ)) (count number place : ℕ) (elements : Elements)
      → ElementsStand nodes bytes number place elements → AreElements DEEPEST elements
      → AllByRecursion (HasValueParts bytes) (features_from name count number place elements)
  elements_parts name count number place no_element stand are = tt
  elements_parts name count number place (element before value after rest) stand are = (
    feature_parts name count number (element_start place before) value
        (record { there = element_stands nodes bytes number place before value after rest stand; depth = are.1 }),
    elements_parts name (count + 1) (number + node_count value)
        (next_place (element_start place before) value after) rest
        (rest_stands nodes bytes number place before value after rest stand) are.3,
  )

  array_parts : (name : Option (List ℕ)) (number start : ℕ) (value : Json) → IsHere nodes bytes number start value
      → AllByRecursion (HasValueParts bytes) (array_features name number start value)
  array_parts name number start (array blank elements) here =
      elements_parts name 0 (number + 1) (inner_place start blank) elements
      (array_stands nodes bytes number start blank elements here.there) (inner_elements blank elements here.depth)
  array_parts name _ start _ here = tt

  list_parts : (name : Option (List ℕ)) (found : Option Entry)
      → ((one : Entry) → found ≡ Some one → IsHere nodes bytes one.number one.start one.value)
      → AllByRecursion (HasValueParts bytes) (features_in name found)
  list_parts name None here = tt
  list_parts name (Some one) here = array_parts name one.number one.start one.value (here one refl)

  either_parts : (collection single : Bool) (one other : List Feature) → AllByRecursion (HasValueParts bytes) one
      → AllByRecursion (HasValueParts bytes) other
      → AllByRecursion (HasValueParts bytes) (if collection then one else if single then other else [])
  either_parts true single one other is are = is
  either_parts false true one other is are = are
  either_parts false false one other is are = tt

  value_parts : (name : Option (List ℕ)) (start : ℕ) (value : Json) → IsHere nodes bytes 0 start value
      → AllByRecursion (HasValueParts bytes) (value_features name start value)
  value_parts name start value here =
      either_parts (says (codes "FeatureCollection") (member_of (codes "type") 0 start value))
      (says (codes "Feature") (member_of (codes "type") 0 start value))
      (features_in name (member_of (codes "features") 0 start value)) (feature_of name 0 0 start value ∷ [])
      (list_parts name (member_of (codes "features") 0 start value)
      (λ one is. member_here (codes "features") 0 start value one here is))
      (feature_parts name 0 0 start value here, tt)

pub copies_values : CopiesAreValues
copies_values name bytes features are =
    let doc : Doc = record { nodes = whole_nodes are.whole } in
    let read : IsDocOf are.whole doc bytes = record { text = are.is; nodes = refl } in
    rw are.are (value_parts doc.nodes bytes name (whole_start are.whole) are.whole.value
    (record { there = reading_stands are.whole doc bytes read; depth = are.is.value }))
