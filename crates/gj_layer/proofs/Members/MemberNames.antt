-- Members that are found by their names.
use Rattle.std.proofs.Common.{◌≡◌, ℕ, ◌+◌, ◌<◌, ◌≤◌, List, [], ◌∷◌, Bool, true, false, refl, sym, ap, arith}
use Rattle.std.specs.Prelude.{Option, Some, None, Result, Ok, Err, if◌then◌else◌}
use Rattle.jtext.specs.Characters.{units_of}
use Rattle.jtext.specs.Values.{Members, object, no_member, member}
use Rattle.jtext.specs.Nodes.{node_count, member_count, inner_place, element_start, member_start, next_place}
use Rattle.jtext.specs.Places.{HasNodesAt, Entry, entries_at}
use Rattle.jtext.specs.Lookups.{are_same, entries_of_key, only_one}
use Rattle.jtext.specs.declared.document.Node.{Node}
use Rattle.jtext.specs.declared.lookup.Repeat.{Repeat}
use Rattle.jtext.proofs.CallerLemmas.NodePlaces.{MembersStand, object_stands, member_stands, members_rest_stand}
use Rattle.sheet_base.specs.declared.faults.LayerFault.{LayerFault}
use Rattle.sheet_base.specs.declared.faults.LayerFault.TheVariants as faults
use Rattle.gj_layer.specs.Members.{Member, members_at, all_named, at_most_one, find_member}
use Rattle.gj_layer.specs.InsideNodes.{IsFound, Finds}

-- a look for a name, with the places of this crate
abbrev pub looked : Result (Option ℕ) Repeat → Result (Option ℕ) LayerFault
looked (Ok found) = Ok found
looked (Err repeat) = Err (faults.Repeat repeat.at)

module _ (nodes : List Node) (bytes : List ℕ) (object_number past : ℕ) where
  -- the entries are these members, and are inside the object
  abbrev pub AreEntries : List Entry → List Member → Type 0
  AreEntries [] [] = Unit {0}
  AreEntries (entry ∷ entries) (one ∷ members) =
      (entry.key_start ≡ one.key_start) × IsFound nodes bytes object_number past entry.number one
      × AreEntries entries members
  AreEntries entries members = ⊥

  more_named : (test : Bool) (entry : Entry) (one : Member) (entries : List Entry) (members : List Member)
      → (entry.key_start ≡ one.key_start) → IsFound nodes bytes object_number past entry.number one
      → AreEntries entries members → AreEntries (if test then entry ∷ entries else entries)
      (if test then one ∷ members else members)
  more_named true entry one entries members key found are = (key, found, are)
  more_named false entry one entries members key found are = are

  named_there : (name : List ℕ) (number place : ℕ) (members : Members) → MembersStand nodes bytes number place members
      → object_number < number → number + member_count members ≤ past
      → AreEntries (entries_of_key name (entries_at number place members)) (all_named name (members_at place members))
  named_there name number place no_member h inside ends = tt
  named_there name number place (member before key behind ahead value after rest) h inside ends =
      let start = member_start place before key behind ahead in
      more_named (are_same (units_of key) name)
      (record {
        key_number = number;
        key_start = element_start place before;
        key = key;
        number = number + 1;
        start =
            start;
        value = value;
      })
      (record { key_start = element_start place before; key = key; start = start; value = value })
      (entries_of_key name (entries_at (number + 1 + node_count value) (next_place start value after) rest))
      (all_named name (members_at (next_place start value after) rest)) refl
      (record {
        stands = member_stands nodes bytes number place before key behind ahead value after rest h;
        inside =
            omega (arith, inside);
        ends = omega (arith, ends);
      })
      (named_there name (number + 1 + node_count value) (next_place start value after) rest
      (members_rest_stand nodes bytes number place before key behind ahead value after rest h)
      (omega (arith, inside)) (omega (arith, ends)))

  finds : (entries : List Entry) (members : List Member) → AreEntries entries members
      → Finds nodes bytes object_number past (looked (only_one entries)) (at_most_one members)
  finds [] [] h = (None, refl, tt)
  finds (entry ∷ []) (one ∷ []) h = (Some one, refl, h.1)
  finds (entry ∷ second ∷ more) (one ∷ other ∷ others) h = ap (λ at. Err (faults.Repeat at)) (sym h.2.0)
  finds [] (one ∷ members) h = absurd h
  finds (entry ∷ entries) [] h = absurd h
  finds entries members h = absurd h.2

pub look_finds : (nodes : List Node) (bytes : List ℕ) (number start : ℕ) (blank : List ℕ) (members : Members)
    (name : List ℕ) (r : Result (Option ℕ) Repeat)
    → HasNodesAt nodes bytes number start (object blank members)
    → r ≡ only_one (entries_of_key name (entries_at (number + 1) (inner_place start blank) members))
    → Finds nodes bytes number (number + node_count (object blank members)) (looked r)
    (find_member name (members_at (inner_place start blank) members))
look_finds nodes bytes number start blank members name r h is = grind (arith, finds, named_there, object_stands)
