-- Going over the members of an object for those of one key.
use Rattle.std.proofs.Common.{◌≡◌, ℕ, zero, suc, ◌+◌, ◌<◌, List, [], ◌∷◌, ◌++◌, length, get_or, true, false, refl}
use Rattle.std.proofs.Common.{sym, ap, ◌∙◌, arith, subst}
use Rattle.std.specs.Prelude.{Option, Some, None, Err, slice_get}
use Rattle.std.proofs.lemmas.Option.{same_Some}
use Rattle.jtext.specs.Characters.{units_of}
use Rattle.jtext.specs.Values.{Json, Elements, Members, truth, quoted, array, object, no_member, member}
use Rattle.jtext.specs.Nodes.{kind_of, node_count, member_count, first_node, element_start, member_start, next_place}
use Rattle.jtext.specs.Nodes.{inner_place}
use Rattle.jtext.specs.Places.{IsReadFrom, HasNodesAt, Entry, entries_at, HasKind}
use Rattle.jtext.specs.Lookups.{are_same, entries_of_key, only_one}
use Rattle.jtext.specs.declared.document.Kind.TheVariants as kinds
use Rattle.jtext.specs.declared.document.Node.{Node}
use Rattle.jtext.specs.declared.document.Doc.{Doc}
use Rattle.jtext.proofs.CallerLemmas.NodePlaces.{MembersStand, object_stands, key_stands, member_stands, members_rest_stand}
use Rattle.jtext.proofs.CallerLemmas.NodePlaces.{ends_within, first_there, node_stands, node_count_positive}
use Rattle.jtext.proofs.CallerLemmas.TextNodes.{found_node, no_node}
use Rattle.jtext.proofs.CallerLemmas.SameTexts.{same_is, is_same}

are_same_so : (xs ys : List ℕ) → xs ≡ ys → are_same xs ys ≡ true
are_same_so xs ys same = subst (λ (zs : List ℕ). are_same xs zs ≡ true) same (is_same xs)

are_not_same : (xs ys : List ℕ) → (xs ≡ ys → ⊥) → are_same xs ys ≡ false
are_not_same xs ys other = grind (arith, same_is)

-- what was found so far
abbrev pub FoundIs : Option ℕ → List Entry → Type 0
FoundIs None before = before ≡ []
FoundIs (Some number) before = (entry : Entry) × (before ≡ entry ∷ []) × (number ≡ entry.number)

-- The members from this node on are still to be looked at.
pub record Going (nodes : List Node) (bytes key : List ℕ) (end at : ℕ) (found : Option ℕ) (entries : List Entry) : Type
    0 where
  pub place : ℕ
  pub rest : Members
  pub stand : MembersStand nodes bytes at place rest
  pub counted : at + member_count rest ≡ end
  pub before : List Entry
  pub split : entries_of_key key entries ≡ before ++ entries_of_key key (entries_at at place rest)
  pub found_is : FoundIs found before

-- One of them is next.
pub record Next (nodes : List Node) (bytes key : List ℕ) (end at : ℕ) (found : Option ℕ) (entries : List Entry) : Type 0
  where
    pub entry : Entry
    pub number_is : entry.number ≡ at + 1
    pub key_there : HasNodesAt nodes bytes at entry.key_start (quoted entry.key)
    pub value_there : HasNodesAt nodes bytes (at + 1) entry.start entry.value
    pub place : ℕ
    pub rest : Members
    pub stand : MembersStand nodes bytes (at + 1 + node_count entry.value) place rest
    pub counted : at + 1 + node_count entry.value + member_count rest ≡ end
    pub before : List Entry
    pub split : entries_of_key key entries ≡ before ++ entries_of_key key
        (entry ∷ entries_at (at + 1 + node_count entry.value) place rest)
    pub found_is : FoundIs found before

module _ (nodes : List Node) (bytes key : List ℕ) (end at : ℕ) (found : Option ℕ) (entries : List Entry) where
  next_of : (place : ℕ) (rest : Members) → MembersStand nodes bytes at place rest → at + member_count rest ≡ end
      → (before : List Entry)
      → entries_of_key key entries ≡ before ++ entries_of_key key (entries_at at place rest) → FoundIs found before → at < end
      → Next nodes bytes key end at found entries
  next_of place no_member stand counted before split found_is within = absurd (omega arith)
  next_of place (member blank chars behind ahead value after rest) stand counted before split found_is within = record {
    entry = record {
      key_number = at;
      key_start = element_start place blank;
      key = chars;
      number = at + 1;
      start = member_start place blank chars behind ahead;
      value = value;
    };
    number_is = refl;
    key_there = key_stands nodes bytes at place blank chars behind ahead value after rest stand;
    value_there = member_stands nodes bytes at place blank chars behind ahead value after rest stand;
    place = next_place (member_start place blank chars behind ahead) value after;
    rest = rest;
    stand = members_rest_stand nodes bytes at place blank chars behind ahead value after rest stand;
    counted = omega arith;
    before = before;
    split = split;
    found_is = found_is;
  }

  pub next_member : Going nodes bytes key end at found entries → at < end → Next nodes bytes key end at found entries
  next_member g within = next_of g.place g.rest g.stand g.counted g.before g.split g.found_is within

  -- where the code finds it
  pub next_bounds : Next nodes bytes key end at found entries → at + 1 < length nodes
  next_bounds n =
      let inside = ends_within nodes bytes (at + 1) n.entry.start n.entry.value n.value_there in
      omega (arith, inside.1, node_count_positive n.entry.value)

  pub next_number : (n : Next nodes bytes key end at found entries) → (next : ℕ)
      → ((node : Node) → slice_get nodes (at + 1) ≡ Some node → next ≡ node.next)
      → next ≡ at + 1 + node_count n.entry.value
  next_number n next read = read (first_node (at + 1) n.entry.start n.entry.value)
      (first_there nodes bytes (at + 1) n.entry.start n.entry.value n.value_there)

  pub key_place : (n : Next nodes bytes key end at found entries) → (get_or nodes at no_node).start ≡ n.entry.key_start
  key_place n = ap (λ (x : Node). x.start) (found_node nodes bytes at n.entry.key_start (quoted n.entry.key) no_node
      (omega (arith, next_bounds n)) n.key_there)

  -- its key is another one
  pub going_other : (n : Next nodes bytes key end at found entries) → (units_of n.entry.key ≡ key → ⊥) → (next : ℕ)
      → next ≡ at + 1 + node_count n.entry.value
      → Going nodes bytes key end next found entries
  going_other n other next is = grind (arith, are_not_same)

  taken : (n : Next nodes bytes key end at found entries) → units_of n.entry.key ≡ key
      → entries_of_key key (n.entry ∷ entries_at (at + 1 + node_count n.entry.value) n.place n.rest) ≡ n.entry
      ∷ entries_of_key key (entries_at (at + 1 + node_count n.entry.value) n.place n.rest)
  taken n same = rw (are_same_so (units_of n.entry.key) key same) refl

  -- it is the first one
  pub going_first : (n : Next nodes bytes key end at found entries) → units_of n.entry.key ≡ key → found ≡ None
      → (next : ℕ) → next ≡ at + 1 + node_count n.entry.value
      → Going nodes bytes key end next (Some (at + 1)) entries
  going_first n same none next is =
      let empty : n.before ≡ [] = subst (λ (f : Option ℕ). FoundIs f n.before) none n.found_is in
      subst (λ (k : ℕ). Going nodes bytes key end k (Some (at + 1)) entries) (sym is) (record {
        place = n.place;
        rest = n.rest;
        stand = n.stand;
        counted = n.counted;
        before = n.entry ∷ [];
        split = n.split ∙ ap (λ (es : List Entry). n.before ++ es) (taken n same)
            ∙ ap (λ (es : List Entry). es ++ n.entry
            ∷ entries_of_key key (entries_at (at + 1 + node_count n.entry.value) n.place n.rest)) empty;
        found_is = (n.entry, refl, sym n.number_is);
      })

  -- it is the second one
  pub second_found : (n : Next nodes bytes key end at found entries) → units_of n.entry.key ≡ key → (number : ℕ)
      → found ≡ Some number
      → only_one (entries_of_key key entries) ≡ Err (record { at = n.entry.key_start })
  second_found n same number some = grind (arith, taken)

-- values by their kinds
pub array_of : (value : Json) → kind_of value ≡ kinds.Array
    → (blank : List ℕ) × (elements : Elements) × (value ≡ array blank elements)
array_of (array blank elements) is = (blank, elements, refl)
array_of (truth true) is = cc
array_of _ is = cc

pub object_of : (value : Json) → kind_of value ≡ kinds.Object
    → (blank : List ℕ) × (members : Members) × (value ≡ object blank members)
object_of (object blank members) is = (blank, members, refl)
object_of (truth true) is = cc
object_of _ is = cc

within_nodes : (nodes : List Node) (number : ℕ) (node : Node) → slice_get nodes number ≡ Some node
    → number < length nodes
within_nodes [] number node h = cc
within_nodes (x ∷ nodes) zero node h = omega arith
within_nodes (x ∷ nodes) (suc number) node h = let below = within_nodes nodes number node h in omega arith

-- an object's node is that of an object that is there
pub object_there : (doc : Doc) (bytes : List ℕ) (number : ℕ) → IsReadFrom doc bytes
    → HasKind doc.nodes number kinds.Object
    → (number < length doc.nodes) × ((start : ℕ) × (blank : List ℕ) × (members : Members)
    × HasNodesAt doc.nodes bytes number start (object blank members))
object_there doc bytes number (whole, r) (node, there, kind) =
    let below = within_nodes doc.nodes number node there in
    let (start, value, s) = node_stands whole doc bytes r number below in
    let same : node ≡ first_node number start value =
    same_Some node (first_node number start value) (sym there ∙ first_there doc.nodes bytes number start value s) in
    let (blank, members, is) = object_of value (sym (ap (λ (n : Node). n.kind) same) ∙ kind) in
    (below, (start, blank, members, subst (HasNodesAt doc.nodes bytes number start) is s))

pub object_next : (nodes : List Node) (bytes : List ℕ) (number start : ℕ) (blank : List ℕ) (members : Members) (end : ℕ)
    → ((node : Node) → slice_get nodes number ≡ Some node → end ≡ node.next)
    → HasNodesAt nodes bytes number start (object blank members) → end ≡ number + (1 + member_count members)
object_next nodes bytes number start blank members end read s =
    read (first_node number start (object blank members))
    (first_there nodes bytes number start (object blank members) s)

-- the first member, or the end
pub going_in : (nodes : List Node) (bytes key : List ℕ) (number start : ℕ) (blank : List ℕ) (members : Members)
    (end : ℕ) → ((node : Node) → slice_get nodes number ≡ Some node → end ≡ node.next)
    → HasNodesAt nodes bytes number start (object blank members)
    → Going nodes bytes key end (number + 1) None (entries_at (number + 1) (inner_place start blank) members)
going_in nodes bytes key number start blank members end read s = record {
  place = inner_place start blank;
  rest = members;
  stand = object_stands nodes bytes number start blank members s;
  counted = omega (arith, object_next nodes bytes number start blank members end read s);
  before = [];
  split = refl;
  found_is = refl;
}

-- one tree for which the next member is there
pub some_next : (doc : Doc) (bytes key : List ℕ) (number end at : ℕ) (found : Option ℕ) → IsReadFrom doc bytes
    → HasKind doc.nodes number kinds.Object
    → ((start : ℕ) (blank : List ℕ) (members : Members) → HasNodesAt doc.nodes bytes number start (object blank members)
    → Going doc.nodes bytes key end at found (entries_at (number + 1) (inner_place start blank) members))
    → at < end → (entries : List Entry) × Next doc.nodes bytes key end at found entries
some_next doc bytes key number end at found read kind going within =
    let there = object_there doc bytes number read kind in
    let start = there.1.0 in (
      entries_at (number + 1) (inner_place there.1.0 there.1.1) there.1.2,
      next_member doc.nodes bytes key end at found (entries_at (number + 1) (inner_place there.1.0 there.1.1) there.1.2)
          (going there.1.0 there.1.1 there.1.2 there.1.3) within,
    )
