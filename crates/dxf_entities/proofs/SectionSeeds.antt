-- Sections, and the seed of handles.
use Rattle.std.proofs.Common.{◌≡◌, ℕ, pos, Bool, true, false, refl, List, [], ◌∷◌, codes, cond, sym, ◌∙◌, take_while}
use Rattle.std.proofs.Common.{Option, None, Some, bytes_eq, ◌&&◌}
use Rattle.std.specs.Prelude.{not, filter, filter_map}
use Rattle.std.specs.List.{cons_option}
use Rattle.std.proofs.lemmas.Bool.Decides.{Decides-int_eq}
use Rattle.std.proofs.lemmas.List.Sums.{take_while-cons}
use Rattle.std.proofs.lemmas.Slice.Eq.{bytes_eq-Decides}
use Rattle.dxf_pairs.specs.declared.pairs.Pair.{Pair}
use Rattle.dxf_pairs.specs.Groups.{value_in}
use Rattle.dxf_entities.specs.Entities.{is_coded, has_both}
use Rattle.dxf_entities.specs.Sections.{is_end_of_section, is_inside, Section, section_of, sections_from, is_named}
use Rattle.dxf_entities.specs.declared.section_places.Where.TheVariants.{Outside, Begun, Header, Entities, Other}
use Rattle.dxf_entities.specs.Seeds.{as_seed, behind_name, first_seed, seed_of}
use Rattle.dxf_entities.specs.SectionPlaces.{seed_from, section_behind, names_seed}
use Rattle.dxf_entities.specs.declared.section_places.Where.{Where}
use Rattle.dxf_entities.specs.Handles.{is_handle}

-- ---- the sections of a drawing, by its first pair
-- a section, where it is named, and others
abbrev pub if_named : Bool → Section → List Section → List Section → List Section
if_named true section inside outside = section ∷ inside
if_named false section inside outside = outside

-- the sections after a pair `0 SECTION`
abbrev pub named_sections : List ℕ → List Pair → List Section
named_sections bytes [] = []
named_sections bytes (next ∷ pairs) = if_named (is_coded (pos 2) next) (section_of bytes next pairs)
    (sections_from bytes true (next ∷ pairs)) (sections_from bytes false (next ∷ pairs))

-- ---- small facts
-- a section goes on after a pair that is inside
pub true_more : (bytes : List ℕ) (pair : Pair) (pairs : List Pair)
    → sections_from bytes true (pair ∷ pairs) ≡ sections_from bytes (is_inside bytes pair) pairs
true_more bytes pair [] = refl
true_more bytes pair (next ∷ pairs) = refl

-- outside of a section, after a pair that is no `0 SECTION`
pub false_more : (bytes : List ℕ) (pair : Pair) (pairs : List Pair)
    → has_both bytes (pos 0) (codes "SECTION") pair ≡ false
    → sections_from bytes false (pair ∷ pairs) ≡ sections_from bytes false pairs
false_more bytes pair [] is = refl
false_more bytes pair (next ∷ pairs) is = rw is refl

-- and after one that is
pub begun_more : (bytes : List ℕ) (pair : Pair) (pairs : List Pair)
    → has_both bytes (pos 0) (codes "SECTION") pair ≡ true
    → sections_from bytes false (pair ∷ pairs) ≡ named_sections bytes pairs
begun_more bytes pair [] is = refl
begun_more bytes pair (next ∷ pairs) is = by_test (is_coded (pos 2) next) refl where
  by_test : (named : Bool) → is_coded (pos 2) next ≡ named
      → sections_from bytes false (pair ∷ next ∷ pairs) ≡ named_sections bytes (next ∷ pairs)
  by_test true named_is = rw (is, named_is) refl
  by_test false named_is = rw (is, named_is) refl

-- a pair of another code than 0 ends no section
pub none_ends : (bytes : List ℕ) (pair : Pair) → is_coded (pos 0) pair ≡ false → is_end_of_section bytes pair ≡ false
none_ends bytes pair is = rw is refl

-- ---- the next handle that the code finds, pair by pair, is the one of the drawing's sections HEADER
-- the next handle of sections
abbrev pub seed_in_sections : List ℕ → List Section → Option Pair
seed_in_sections bytes sections = first_seed bytes (filter_map (λ (section : Section).
    behind_name bytes section.pairs) (filter (is_named (codes "HEADER")) sections))

-- the next handle by what follows its name, where it is named, or else another
abbrev pub named_or : List ℕ → Option (List Pair) → Option Pair → Option Pair
named_or bytes None other = other
named_or bytes (Some pairs) other = as_seed bytes pairs

record IsFoundSo (bytes : List ℕ) (pairs : List Pair) : Type 0 where
  outside : seed_from bytes Outside pairs ≡ seed_in_sections bytes (sections_from bytes false pairs)
  begun : seed_from bytes Begun pairs ≡ seed_in_sections bytes (named_sections bytes pairs)
  header : seed_from bytes Header pairs ≡ named_or bytes (behind_name bytes (take_while (is_inside bytes) pairs))
      (seed_in_sections bytes (sections_from bytes true pairs))
  entities : seed_from bytes Entities pairs ≡ seed_in_sections bytes (sections_from bytes true pairs)
  other : seed_from bytes Other pairs ≡ seed_in_sections bytes (sections_from bytes true pairs)

-- the first section by its own pairs
one_first : (bytes : List ℕ) (named : Option (List Pair)) (others : List (List Pair))
    → first_seed bytes (cons_option named others) ≡ named_or bytes named (first_seed bytes others)
one_first bytes None others = refl
one_first bytes (Some pairs) others = refl

-- what follows the name inside the section is the next handle where it is one at all
seed_inside : (bytes : List ℕ) (pairs : List Pair)
    → as_seed bytes (take_while (is_inside bytes) pairs) ≡ as_seed bytes pairs
seed_inside bytes [] = refl
seed_inside bytes (pair ∷ pairs) = rw (take_while-cons (is_inside bytes) pair pairs)
    (by_tests (is_end_of_section bytes pair) (is_coded (pos 5) pair) refl refl) where
      no_end : is_coded (pos 5) pair ≡ true → is_end_of_section bytes pair ≡ false
      no_end five = let code : pair.code ≡ pos 5 = (Decides-int_eq pair.code (pos 5)).0 five in rw code refl

      by_tests : (ends five : Bool) → is_end_of_section bytes pair ≡ ends → is_coded (pos 5) pair ≡ five
          → as_seed bytes (cond (is_inside bytes pair) (pair ∷ take_while (is_inside bytes) pairs) [])
          ≡ as_seed bytes (pair ∷ pairs)
      by_tests true true ends_is five_is = let none : is_end_of_section bytes pair ≡ false =
          no_end five_is in absurd (cc)
      by_tests true false ends_is five_is = rw (ends_is, five_is) refl
      by_tests false five ends_is five_is = rw ends_is refl

outside_more : (bytes : List ℕ) (pair : Pair) (pairs : List Pair) → IsFoundSo bytes pairs → (begins : Bool)
    → has_both bytes (pos 0) (codes "SECTION") pair ≡ begins → seed_from bytes (cond begins Begun Outside) pairs
    ≡ seed_in_sections bytes (sections_from bytes false (pair ∷ pairs))
outside_more bytes pair pairs rest true is = rw (begun_more bytes pair pairs is) rest.begun
outside_more bytes pair pairs rest false is = rw (false_more bytes pair pairs is) rest.outside

begun_step : (bytes : List ℕ) (name : Pair) (pairs : List Pair) → IsFoundSo bytes pairs
    → seed_from bytes Begun (name ∷ pairs) ≡ seed_in_sections bytes (named_sections bytes (name ∷ pairs))
begun_step bytes name pairs rest = by_code (is_coded (pos 2) name) (bytes_eq (value_in bytes name) (codes "ENTITIES"))
    (bytes_eq (value_in bytes name) (codes "HEADER")) (has_both bytes (pos 0) (codes "SECTION") name)
    refl refl refl refl where
      no_head : is_coded (pos 2) name ≡ true → is_coded (pos 0) name ≡ false
      no_head is = let code : name.code ≡ pos 2 = (Decides-int_eq name.code (pos 2)).0 is in rw code refl

      onward : is_coded (pos 2) name ≡ true → sections_from bytes true (name ∷ pairs) ≡ sections_from bytes true pairs
      onward is = true_more bytes name pairs ∙ rw (none_ends bytes name (no_head is)) refl

      -- no name is both
      one_name : bytes_eq (value_in bytes name) (codes "ENTITIES") ≡ true
          → bytes_eq (value_in bytes name) (codes "HEADER") ≡ false
      one_name is = let value : value_in bytes name ≡ codes "ENTITIES" =
          (bytes_eq-Decides (value_in bytes name) (codes "ENTITIES")).0 is in rw value refl

      by_code : (coded entities header begins : Bool) → is_coded (pos 2) name ≡ coded
          → bytes_eq (value_in bytes name) (codes "ENTITIES") ≡ entities
          → bytes_eq (value_in bytes name) (codes "HEADER") ≡ header
          → has_both bytes (pos 0) (codes "SECTION") name ≡ begins
          → seed_from bytes Begun (name ∷ pairs) ≡ seed_in_sections bytes (named_sections bytes (name ∷ pairs))
      by_code true true header begins coded_is entities_is header_is begins_is =
          rw (coded_is, entities_is, one_name entities_is, onward coded_is) rest.entities
      by_code true false true begins coded_is entities_is header_is begins_is =
          rw (coded_is, entities_is, header_is, onward coded_is)
          (rest.header ∙ sym (one_first bytes (behind_name bytes (take_while (is_inside bytes) pairs)) _))
      by_code true false false begins coded_is entities_is header_is begins_is =
          rw (coded_is, entities_is, header_is, onward coded_is) rest.other
      by_code false entities header begins coded_is entities_is header_is begins_is =
          rw (coded_is, begins_is) (outside_more bytes name pairs rest begins begins_is)

header_step : (bytes : List ℕ) (pair : Pair) (pairs : List Pair) → IsFoundSo bytes pairs
    → seed_from bytes Header (pair ∷ pairs)
    ≡ named_or bytes (behind_name bytes (take_while (is_inside bytes) (pair ∷ pairs)))
    (seed_in_sections bytes (sections_from bytes true (pair ∷ pairs)))
header_step bytes pair pairs rest = rw (true_more bytes pair pairs, take_while-cons (is_inside bytes) pair pairs)
    (by_tests (has_both bytes (pos 9) (codes "$HANDSEED") pair) (is_end_of_section bytes pair) refl refl) where
      -- a name has the code 9, and an end the code 0
      no_end : has_both bytes (pos 9) (codes "$HANDSEED") pair ≡ true → is_end_of_section bytes pair ≡ false
      no_end named = by_code (is_coded (pos 9) pair) refl where
        by_code : (nine : Bool) → is_coded (pos 9) pair ≡ nine → is_end_of_section bytes pair ≡ false
        by_code true is = let code : pair.code ≡ pos 9 = (Decides-int_eq pair.code (pos 9)).0 is in rw code refl
        by_code false is = let none : has_both bytes (pos 9) (codes "$HANDSEED") pair ≡ false =
            rw is refl in absurd (cc)

      by_tests : (names ends : Bool) → has_both bytes (pos 9) (codes "$HANDSEED") pair ≡ names
          → is_end_of_section bytes pair ≡ ends → seed_from bytes Header (pair ∷ pairs)
          ≡ named_or bytes (behind_name bytes (cond (is_inside bytes pair) (pair ∷ take_while (is_inside bytes) pairs)
          [])) (seed_in_sections bytes (sections_from bytes (is_inside bytes pair) pairs))
      by_tests true true names_is ends_is = let none : is_end_of_section bytes pair ≡ false =
          no_end names_is in absurd (cc)
      by_tests true false names_is ends_is = rw (ends_is, names_is) (sym (seed_inside bytes pairs))
      by_tests false true names_is ends_is = rw (ends_is, names_is) rest.outside
      by_tests false false names_is ends_is = rw (ends_is, names_is) rest.header

found_so : (bytes : List ℕ) (pairs : List Pair) → IsFoundSo bytes pairs
found_so bytes [] = record { outside = refl; begun = refl; header = refl; entities = refl; other = refl }
found_so bytes (pair ∷ pairs) =
    let rest = found_so bytes pairs in
    record {
      outside = outside_more bytes pair pairs rest (has_both bytes (pos 0) (codes "SECTION") pair) refl;
      begun = begun_step bytes pair pairs rest;
      header = header_step bytes pair pairs rest;
      entities = rw (true_more bytes pair pairs) (entities_more (is_end_of_section bytes pair) rest);
      other = rw (true_more bytes pair pairs) (other_more (is_end_of_section bytes pair) rest);
    }
  where
    entities_more : (ends : Bool) → IsFoundSo bytes pairs → seed_from bytes (cond ends Outside Entities) pairs
        ≡ seed_in_sections bytes (sections_from bytes (not ends) pairs)
    entities_more true rest = rest.outside
    entities_more false rest = rest.entities

    other_more : (ends : Bool) → IsFoundSo bytes pairs → seed_from bytes (cond ends Outside Other) pairs
        ≡ seed_in_sections bytes (sections_from bytes (not ends) pairs)
    other_more true rest = rest.outside
    other_more false rest = rest.other

pub seed_found : (bytes : List ℕ) (pairs : List Pair) → seed_of bytes pairs ≡ seed_from bytes Outside pairs
seed_found bytes pairs = sym (found_so bytes pairs).outside

pub found_as : (bytes : List ℕ) (pairs : List Pair) (seed : Option Pair) → seed_of bytes pairs ≡ seed
    → seed_from bytes Outside pairs ≡ seed
found_as bytes pairs seed is = sym (seed_found bytes pairs) ∙ is

-- ---- the next handle of a drawing is a handle
first_is : (bytes : List ℕ) (pairs : List Pair) (seed : Pair) → as_seed bytes pairs ≡ Some seed
    → is_handle (value_in bytes seed) ≡ true
first_is bytes [] seed is = absurd (cc)
first_is bytes (pair ∷ pairs) seed is = by_tests (is_coded (pos 5) pair) (is_handle (value_in bytes pair)) refl is where
  by_tests : (coded good : Bool) → is_handle (value_in bytes pair) ≡ good
      → cond (coded && good) (Some pair) None ≡ Some seed → is_handle (value_in bytes seed) ≡ true
  by_tests true true good_is made = let same : seed ≡ pair = cc in rw same good_is
  by_tests true false good_is made = absurd (cc)
  by_tests false good good_is made = absurd (cc)

pub seed_is : (bytes : List ℕ) (place : Where) (pairs : List Pair) (seed : Pair)
    → seed_from bytes place pairs ≡ Some seed → is_handle (value_in bytes seed) ≡ true
seed_is bytes place [] seed is = absurd (cc)
seed_is bytes place (pair ∷ pairs) seed is =
    by_test (names_seed bytes place pair) is (seed_is bytes (section_behind bytes place pair) pairs seed) where
      by_test : (names : Bool) → cond names (as_seed bytes pairs)
          (seed_from bytes (section_behind bytes place pair) pairs)
          ≡ Some seed → (seed_from bytes (section_behind bytes place pair) pairs ≡ Some seed
          → is_handle (value_in bytes seed) ≡ true) → is_handle (value_in bytes seed) ≡ true
      by_test true made rest = first_is bytes pairs seed made
      by_test false made rest = rest made
