-- Members that are found by their key, and texts that say something.
use Rattle.std.proofs.Common.{◌≡◌, ℕ, ◌+◌, List, [], ◌∷◌, Bool, true, false, refl, sym, subst, arith}
use Rattle.std.specs.Prelude.{◌↔◌, IsTrue, Option, Some, None, Result, Ok, Err, if◌then◌else◌}
use Rattle.jtext.specs.Characters.{units_of}
use Rattle.jtext.specs.Values.{Json, Elements, Members, quoted, array, object, no_member, member}
use Rattle.jtext.specs.Nodes.{node_count, inner_place, member_start, element_start, next_place}
use Rattle.jtext.specs.Places.{HasNodesAt, Entry, entries_at}
use Rattle.jtext.specs.Lookups.{Says, are_same, entries_of_key, only_one}
use Rattle.jtext.specs.declared.document.Node.{Node}
use Rattle.jtext.specs.declared.lookup.Repeat.{Repeat}
use Rattle.tin_file.specs.Keys.{key_of, says, is_array, values_in, values_of, the_one, list_of, and_then}
use Rattle.tin_file.specs.InsideNodes.{IsThere, AreThere, IsNode, AreNodes, IsArray, HasMembers, Gives, element_numbers}
use Rattle.tin_file.specs.declared.faults.Top.{Top}
use Rattle.tin_file.specs.declared.faults.TinFault.{TinFault}
use Rattle.tin_file.specs.declared.faults.TinFault.TheVariants.{Key}
use Rattle.tin_file.proofs.DocumentValues.There.{elements_there}
use Rattle.jtext.proofs.CallerLemmas.SameTexts.{true_or_false, says_quoted}
use Rattle.jtext.proofs.CallerLemmas.NodePlaces.{MembersStand, array_stands, object_stands, member_stands, members_rest_stand}

-- a test whether a text says this
pub says_is : (value : Json) (text : List ℕ) (test : Bool) → (IsTrue test ↔ Says value text) → test ≡ says value text
says_is (quoted chars) text test h = says_quoted chars text test h
says_is _ text test h = true_or_false test false (λ t. absurd (h.0 t)) (λ t. cc)

module _ (nodes : List Node) (bytes : List ℕ) where
  -- the entries have these values, which are there
  abbrev pub AreEntries : List Entry → List Json → Type 0
  AreEntries [] [] = Unit {0}
  AreEntries (entry ∷ entries) (value ∷ values) = IsThere nodes bytes entry.number value × AreEntries entries values
  AreEntries entries values = ⊥

  one_more : (test : Bool) (entry : Entry) (value : Json) (entries : List Entry) (values : List Json)
      → IsThere nodes bytes entry.number value
      → AreEntries entries values → AreEntries (if test then entry ∷ entries else entries)
      (if test then value ∷ values else values)
  one_more test entry value entries values there are = grind arith

  named_there : (key : List ℕ) (number place : ℕ) (members : Members) → MembersStand nodes bytes number place members
      → AreEntries (entries_of_key key (entries_at number place members)) (values_of key members)
  named_there key number place no_member h = tt
  named_there key number place (member before name behind ahead value after rest) h =
      let start = member_start place before name behind ahead in
      one_more (are_same (units_of name) key)
      (record {
        key_number = number;
        key_start = element_start place before;
        key = name;
        number = number + 1;
        start =
            start;
        value = value;
      })
      value _ _ (start, member_stands nodes bytes number place before name behind ahead value after rest h)
      (named_there key (number + 1 + node_count value) (next_place start value after) rest
      (members_rest_stand nodes bytes number place before name behind ahead value after rest h))

  -- what a look for a key finds
  abbrev pub Finds : Result (Option ℕ) Repeat → List Json → Type 0
  Finds (Ok None) values = values ≡ []
  Finds (Ok (Some number)) values = (value : Json) × (values ≡ value ∷ []) × IsThere nodes bytes number value
  Finds (Err fault) values = (first second : Json) × (more : List Json) × (values ≡ first ∷ second ∷ more)

  finds_one : (entries : List Entry) (values : List Json) → AreEntries entries values → Finds (only_one entries) values
  finds_one entries values h = grind arith

  member_finds : (key : List ℕ) (members : Members) (blank : List ℕ) (start : ℕ) (r : Result (Option ℕ) Repeat)
      → HasNodesAt nodes bytes 0 start (object blank members)
      → r ≡ only_one (entries_of_key key (entries_at 1 (inner_place start blank) members)) → Finds r (values_of key members)
  member_finds key members blank start r h is =
      subst (λ found. Finds found (values_of key members)) (sym is)
      (finds_one (entries_of_key key (entries_at 1 (inner_place start blank) members)) (values_of key members)
      (named_there key 1 (inner_place start blank) members (object_stands nodes bytes 0 start blank members h)))

  -- so does a look for the key of a member
  pub look_finds : (which : Top) (key : List ℕ) (members : Members) (r : Result (Option ℕ) Repeat)
      → (h : HasMembers nodes bytes members) → key ≡ key_of which
      → ((start : ℕ) (blank : List ℕ) (members : Members) → HasNodesAt nodes bytes 0 start (object blank members)
      → r ≡ only_one (entries_of_key key (entries_at 1 (inner_place start blank) members)))
      → Finds r (values_of (key_of which) members)
  look_finds which key members r h is looked =
      grind (arith, member_finds key members h.0 h.1.0 r h.1.1 (looked h.1.0 h.0 members h.1.1))

  -- so it finds the one value that is needed
  pub found_value : (which : Top) (values : List Json) (number : ℕ) → Finds (Ok (Some number)) values
      → Gives (IsThere nodes bytes) (Ok number) (the_one which values)
  found_value which values number (value, is, there) = rw is there

  pub found_no_value : (which : Top) (values : List Json) → values ≡ []
      → Gives (IsThere nodes bytes) (Err (Key which)) (the_one which values)
  found_no_value which values is = rw is refl

  pub found_two : (which : Top) (values : List Json) (fault : Repeat) → Finds (Err fault) values
      → Gives (IsThere nodes bytes) (Err (Key which)) (the_one which values)
  found_two which values fault (first, second, more, is) = rw is refl

  -- what an array has for elements, where one is needed
  pub list_found : (which : Top) (number : ℕ) (r : Result Json TinFault) → Gives (IsThere nodes bytes) (Ok number) r
      → ((value : Json) → IsThere nodes bytes number value → true ≡ is_array value) → (done : List ℕ)
      → ((bytes : List ℕ) (blank : List ℕ) (elements : Elements) → IsThere nodes bytes number (array blank elements)
      → done ≡ element_numbers (number + 1) elements)
      → Gives {A = Unit {0}} (λ _ values. AreThere nodes bytes done values) (Ok tt) (and_then (list_of which) r)
  list_found which number (Err fault) there is done numbers = absurd there
  list_found which number (Ok (array blank elements)) there is done numbers =
      subst (λ ns. AreThere nodes bytes ns (values_in elements)) (sym (numbers bytes blank elements there))
      (elements_there nodes bytes (number + 1) (inner_place there.0 blank) elements
      (array_stands nodes bytes number there.0 blank elements there.1))
  list_found which number (Ok value) there is done numbers = let no : true ≡ false = is value there in cc

  pub list_not_found : (which : Top) (number : ℕ) (r : Result Json TinFault) → Gives (IsThere nodes bytes) (Ok number) r
      → ((value : Json) → IsThere nodes bytes number value → false ≡ is_array value)
      → Err (Key which) ≡ and_then (list_of which) r
  list_not_found which number (Err fault) there is = absurd there
  list_not_found which number (Ok (array blank elements)) there is = let no : false ≡ true =
      is (array blank elements) there in cc
  list_not_found which number (Ok value) there is = refl

  pub value_found : (number : ℕ) (r : Result Json TinFault) → Gives (IsThere nodes bytes) (Ok number) r
      → IsNode nodes bytes number
  value_found number r there = grind arith

  pub array_found : (number : ℕ) (r : Result Json TinFault) → Gives (IsThere nodes bytes) (Ok number) r
      → ((value : Json) → IsThere nodes bytes number value → true ≡ is_array value) → IsArray nodes bytes number
  array_found number (Err fault) there is = absurd there
  array_found number (Ok (array blank elements)) there is = (blank, elements, there)
  array_found number (Ok value) there is = let no : true ≡ false = is value there in cc

  pub values_found : (numbers : List ℕ) (r : Result (List Json) TinFault)
      → Gives {A = Unit {0}} (λ _ values. AreThere nodes bytes numbers values) (Ok tt) r → AreNodes nodes bytes numbers
  values_found numbers r there = grind arith
