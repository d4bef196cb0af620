-- Going over the elements of an array.
use Rattle.std.proofs.Common.{◌≡◌, ℕ, ◌+◌, ◌<◌, ◌≤◌, List, [], ◌∷◌, ◌++◌, length, refl, sym, ap, ◌∙◌, subst, arith}
use Rattle.std.proofs.Common.{append_assoc, append-nil, true, false, Bool}
use Rattle.std.specs.Prelude.{Option, Some, None, slice_get, if◌then◌else◌, codes, nat_lt}
use Rattle.std.specs.List.{list_all}
use Rattle.std.proofs.lemmas.Bool.{and_parts, ltb-true}
use Rattle.jtext.specs.Lookups.{IsAscii}
use Rattle.jtext.specs.Values.{Json, Elements, null, truth, numeral, quoted, array, object, no_element, element, spelling}
use Rattle.jtext.specs.Nodes.{kind_of, node_count, element_count, first_node, element_start, next_place, inner_place}
use Rattle.jtext.specs.Places.{Entry, HasNodesAt, IsReadFrom}
use Rattle.jtext.specs.declared.document.Doc.{Doc}
use Rattle.jtext.specs.declared.document.Node.{Node}
use Rattle.jtext.specs.declared.document.Kind.TheVariants as kinds
use Rattle.jtext.proofs.CallerLemmas.NodePlaces.{ElementsStand, array_stands, element_stands, rest_stands, node_count_positive, value_at}
use Rattle.jtext.proofs.CallerLemmas.MemberLoops.{array_of}
use Rattle.layer_features.specs.declared.features.Feature.{Feature}
use Rattle.layer_features.specs.declared.features.TextPart.{TextPart}
use Rattle.layer_features.specs.declared.features.Label.TheVariants.{Number}
use Rattle.layer_features.specs.Features.{AreInOrder}
use Rattle.layer_features.specs.InsideNodes.{IsFoundAs}
use Rattle.layer_features.specs.JsonFeatures.{property_of, name_of, part_of}
use Rattle.layer_features.specs.JsonFeatures.{says, member_of, feature_of, features_from, array_features, features_in, value_features}
use Rattle.layer_features.proofs.Found.{first_is, kind_is, within_nodes}

pub not_array : (name : Option (List ℕ)) (number start : ℕ) (value : Json) → (kind_of value ≡ kinds.Array → ⊥)
    → array_features name number start value ≡ []
not_array name number start (array blank elements) lacks = absurd (lacks refl)
not_array name _ start _ lacks = refl

-- ---- features are in order

pub lower : (from less : ℕ) (features : List Feature) → less ≤ from → AreInOrder from features → AreInOrder less features
lower from less [] below are = tt
lower from less (feature ∷ features) below (start, order, are) = (omega (arith, below, start), order, are)

elements_order : (name : Option (List ℕ)) (count number place : ℕ) (elements : Elements)
    → AreInOrder place (features_from name count number place elements)
elements_order name count number place no_element = tt
elements_order name count number place (element before value after rest) = (
  omega arith,
  omega arith,
  lower (next_place (element_start place before) value after) (element_start place before + length (spelling value))
      (features_from name (count + 1) (number + node_count value)
      (next_place (element_start place before) value after) rest) (omega arith)
      (elements_order name (count + 1) (number + node_count value)
      (next_place (element_start place before) value after) rest),
)

array_order : (name : Option (List ℕ)) (number start : ℕ) (value : Json)
    → AreInOrder 0 (array_features name number start value)
array_order name number start (array blank elements) = lower (inner_place start blank) 0
    (features_from name 0 (number + 1) (inner_place start blank) elements) (omega arith)
    (elements_order name 0 (number + 1) (inner_place start blank) elements)
array_order name _ start _ = tt

list_order : (name : Option (List ℕ)) (found : Option Entry) → AreInOrder 0 (features_in name found)
list_order name None = tt
list_order name (Some one) = array_order name one.number one.start one.value

either_order : (collection single : Bool) (one other : List Feature) → AreInOrder 0 one → AreInOrder 0 other
    → AreInOrder 0 (if collection then one else if single then other else [])
either_order true single one other is are = is
either_order false true one other is are = are
either_order false false one other is are = tt

pub value_order : (name : Option (List ℕ)) (start : ℕ) (value : Json) → AreInOrder 0 (value_features name start value)
value_order name start value =
    either_order (says (codes "FeatureCollection") (member_of (codes "type") 0 start value))
    (says (codes "Feature") (member_of (codes "type") 0 start value))
    (features_in name (member_of (codes "features") 0 start value)) (feature_of name 0 0 start value ∷ [])
    (list_order name (member_of (codes "features") 0 start value)) (omega arith, omega arith, tt)

-- ---- what a value's features are
module _ (name : Option (List ℕ)) (start : ℕ) (value : Json) where
  pub collection_some : (one : Entry) → says (codes "FeatureCollection") (member_of (codes "type") 0 start value) ≡ true
      → member_of (codes "features") 0 start value ≡ Some one
      → value_features name start value ≡ array_features name one.number one.start one.value
  collection_some one is found = rw (is, found) refl

  pub collection_none : says (codes "FeatureCollection") (member_of (codes "type") 0 start value) ≡ true
      → member_of (codes "features") 0 start value ≡ None → value_features name start value ≡ []
  collection_none is found = rw (is, found) refl

  pub single_feature : says (codes "FeatureCollection") (member_of (codes "type") 0 start value) ≡ false
      → says (codes "Feature") (member_of (codes "type") 0 start value) ≡ true
      → value_features name start value ≡ feature_of name 0 0 start value ∷ []
  single_feature other is = rw (other, is) refl

  pub no_feature : says (codes "FeatureCollection") (member_of (codes "type") 0 start value) ≡ false
      → says (codes "Feature") (member_of (codes "type") 0 start value) ≡ false → value_features name start value ≡ []
  no_feature other is = rw (other, is) refl

-- ---- going over elements
-- the elements from this node on are still to be read; the first has this number among the features
pub record Going (name : Option (List ℕ)) (nodes : List Node) (bytes : List ℕ) (end at count : ℕ)
    (done all : List Feature) : Type 0 where
  pub place : ℕ
  pub rest : Elements
  pub stand : ElementsStand nodes bytes at place rest
  pub counted : at + element_count rest ≡ end
  pub split : all ≡ done ++ features_from name count at place rest

-- one of them is next
pub record Next (name : Option (List ℕ)) (nodes : List Node) (bytes : List ℕ) (end at count : ℕ)
    (done all : List Feature) : Type 0 where
  pub start : ℕ
  pub value : Json
  pub there : HasNodesAt nodes bytes at start value
  pub fits : at + node_count value ≤ end
  pub going : (feature : Feature) → feature ≡ feature_of name count at start value
      → Going name nodes bytes end (at + node_count value) (count + 1) (done ++ feature ∷ []) all

module _ (name : Option (List ℕ)) (nodes : List Node) (bytes : List ℕ) (end at count : ℕ) (done all : List Feature)
  where
    next_of : (place : ℕ) (rest : Elements) → ElementsStand nodes bytes at place rest → at + element_count rest ≡ end
        → all ≡ done ++ features_from name count at place rest → at < end
        → Next name nodes bytes end at count done all
    next_of place no_element stand counted split within = absurd (omega arith)
    next_of place (element before value after rest) stand counted split within =
        let more = features_from name (count + 1) (at + node_count value)
        (next_place (element_start place before) value after) rest in
        record {
          start = element_start place before;
          value = value;
          there = element_stands nodes bytes at place before value after rest stand;
          fits = omega arith;
          going = λ feature is. record {
            place = next_place (element_start place before) value after;
            rest = rest;
            stand = rest_stands nodes bytes at place before value after rest stand;
            counted = omega arith;
            split = split ∙ ap (λ (f : Feature). done ++ f ∷ more) (sym is)
                ∙ sym (append_assoc done (feature ∷ []) more);
          };
        }

    pub next_element : Going name nodes bytes end at count done all → at < end
        → Next name nodes bytes end at count done all
    next_element g within = next_of g.place g.rest g.stand g.counted g.split within

    pub next_at : (n : Next name nodes bytes end at count done all) (node : Node) → slice_get nodes at ≡ Some node
        → node.next ≡ at + node_count n.value
    next_at n node got = ap (λ (x : Node). x.next) (first_is nodes bytes at n.start n.value node n.there got)

    pub next_further : (n : Next name nodes bytes end at count done all) (node : Node) → slice_get nodes at ≡ Some node
        → at < node.next
    next_further n node got = omega (arith, next_at n node got, node_count_positive n.value)

    end_of : (place : ℕ) (rest : Elements) → at + element_count rest ≡ end → end ≤ at
        → all ≡ done ++ features_from name count at place rest → done ≡ all
    end_of place no_element counted past split = sym (split ∙ append-nil done)
    end_of place (element before value after rest) counted past split =
        absurd (omega (arith, counted, past, node_count_positive value))

    -- none is left
    pub going_ends : Going name nodes bytes end at count done all → end ≤ at → done ≡ all
    going_ends g past = end_of g.place g.rest g.counted past g.split

-- the first of all
pub going_in : (name : Option (List ℕ)) (nodes : List Node) (bytes : List ℕ) (number start : ℕ) (blank : List ℕ)
    (elements : Elements) (end : ℕ) → end ≡ number + (1 + element_count elements)
    → HasNodesAt nodes bytes number start (array blank elements)
    → Going name nodes bytes end (number + 1) 0 []
    (array_features name number start (array blank elements))
going_in name nodes bytes number start blank elements end is h = record {
  place = inner_place start blank;
  rest = elements;
  stand = array_stands nodes bytes number start blank elements h;
  counted = omega arith;
  split = refl;
}

-- where the text of a node is
abbrev text_part : Node → TextPart
text_part node = record { start = node.start; past = node.end }

-- the feature of a node
abbrev of_node : ℕ → Option TextPart → Option TextPart → Node → Feature
of_node count id own node = record { start = node.start; past = node.end; label = Number count; id = id; name = own }

pub feature_there : (name : Option (List ℕ)) (nodes : List Node) (bytes : List ℕ) (count number start : ℕ)
    (value : Json) (node : Node) (id own : Option TextPart) → HasNodesAt nodes bytes number start value
    → slice_get nodes number ≡ Some node
    → id ≡ part_of (member_of (codes "id") number start value) → own ≡ name_of name number start value
    → ◌≡◌ {A = Feature}
    (record { start = node.start; past = node.end; label = Number count; id = id; name = own })
    (feature_of name count number start value)
feature_there name nodes bytes count number start value node id own h got is are =
    ap (of_node count id own) (first_is nodes bytes number start value node h got)
    ∙ (ap (λ (part : Option TextPart). of_node count part own (first_node number start value)) is
    ∙ ap (λ (part : Option TextPart). of_node count (part_of (member_of (codes "id") number start value)) part
    (first_node number start value)) are)

-- the text of a value that was found
pub part_there : (nodes : List Node) (bytes : List ℕ) (number : ℕ) (found : Option Entry) (node : Node) (part : TextPart)
    → IsFoundAs nodes bytes (Some number) found → slice_get nodes number ≡ Some node → part ≡ text_part node
    → ◌≡◌ {A = Option TextPart} (Some part) (part_of found)
part_there nodes bytes number (Some one) node part (same, h) got is =
    ap (λ (p : TextPart). Some p) (is ∙ ap text_part (first_is nodes bytes one.number one.start one.value node h
    (subst (λ (n : ℕ). slice_get nodes n ≡ Some node) same got)))
part_there nodes bytes number None node part are got is = absurd are

-- ---- members of properties
module _ (name : List ℕ) (number start : ℕ) (value : Json) where
  pub property_some : (one : Entry) → list_all (λ byte. nat_lt byte 128) name ≡ true
      → member_of (codes "properties") number start value ≡ Some one
      → property_of name number start value ≡ part_of (member_of name one.number one.start one.value)
  property_some one ascii found = rw (ascii, found) refl

  pub property_none : member_of (codes "properties") number start value ≡ None → property_of name number start value ≡ None
  property_none found = rw found (either (list_all (λ byte. nat_lt byte 128) name))
    where
      either : (test : Bool) → ◌≡◌ {A = Option TextPart} (if test then None else None) None
      either true = refl
      either false = refl

pub all_ascii : (name : List ℕ) → list_all (λ byte. nat_lt byte 128) name ≡ true → IsAscii name
all_ascii [] are = tt
all_ascii (byte ∷ name) are = let parts = and_parts _ _ are in (ltb-true byte 128 parts.0, all_ascii name parts.1)

-- an array is at its node
pub array_there : (doc : Doc) (bytes : List ℕ) (number : ℕ) (node : Node) → IsReadFrom doc bytes
    → number < length doc.nodes → slice_get doc.nodes number ≡ Some node → node.kind ≡ kinds.Array
    → (start : ℕ) × (blank : List ℕ) × (elements : Elements)
    × HasNodesAt doc.nodes bytes number start (array blank elements)
array_there doc bytes number node read below got kind =
    let (start, value, h) = value_at doc bytes number read below in
    let (blank, elements, same) = array_of value (sym (kind_is doc.nodes bytes number start value node h got) ∙ kind) in
    (start, blank, elements, subst (HasNodesAt doc.nodes bytes number start) same h)

pub array_end : (nodes : List Node) (bytes : List ℕ) (number start : ℕ) (blank : List ℕ) (elements : Elements)
    (node : Node) → HasNodesAt nodes bytes number start (array blank elements) → slice_get nodes number ≡ Some node
    → node.next ≡ number + (1 + element_count elements)
array_end nodes bytes number start blank elements node h got =
    ap (λ (n : Node). n.next) (first_is nodes bytes number start (array blank elements) node h got)

-- the next element, for one array that is there
pub some_next : (name : Option (List ℕ)) (doc : Doc) (bytes : List ℕ) (number : ℕ) (node : Node) (end at count : ℕ) (done : List Feature)
    → IsReadFrom doc bytes → number < length doc.nodes → slice_get doc.nodes number ≡ Some node
    → node.kind ≡ kinds.Array
    → ((start : ℕ) (blank : List ℕ) (elements : Elements)
    → HasNodesAt doc.nodes bytes number start (array blank elements)
    → Going name doc.nodes bytes end at count done (array_features name number start (array blank elements)))
    → at < end → (all : List Feature) × Next name doc.nodes bytes end at count done all
some_next name doc bytes number node end at count done read below got kind going within =
    let (start, blank, elements, h) = array_there doc bytes number node read below got kind in (
      array_features name number start (array blank elements),
      next_element name doc.nodes bytes end at count done
          (array_features name number start (array blank elements)) (going start blank elements h) within,
    )

pub next_inside : (name : Option (List ℕ)) (nodes : List Node) (bytes : List ℕ) (end at count : ℕ) (done all : List Feature)
    → Next name nodes bytes end at count done all → at < length nodes
next_inside name nodes bytes end at count done all n = within_nodes nodes bytes at n.start n.value n.there
