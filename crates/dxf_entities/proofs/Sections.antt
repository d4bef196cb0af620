-- Where the entities of a drawing and its next handle are.
use Rattle.std.proofs.Common.{◌≡◌, ℕ, zero, suc, ◌≤◌, pos, List, [], ◌∷◌, take, Bool, true, false, cond, refl, ap}
use Rattle.std.proofs.Common.{◌∙◌, arith, inl, inr, None, Some}
use Rattle.std.specs.Prelude.{◌⊎◌, ◌||◌, ◌&&◌, ⊤, codes, take_while}
use Rattle.std.specs.List.{prefix_len}
use Rattle.std.proofs.lemmas.List.Sums.{take_while-cons}
use Rattle.std.proofs.lemmas.Slice.Eq.{bytes_eq-Decides}
use Rattle.dxf_pairs.specs.declared.pairs.Pair.{Pair}
use Rattle.dxf_pairs.specs.Groups.{value_in}
use Rattle.dxf_entities.specs.declared.section_places.Where.{Where}
use Rattle.dxf_entities.specs.declared.section_places.Where.TheVariants.{Outside, Begun, Header, Entities, Other}
use Rattle.dxf_entities.specs.Entities.{Entity, is_coded, is_no_head, is_of_kind, entity_of, entity_end, past_pairs}
use Rattle.dxf_entities.specs.Sections.{is_end_of_section}
use Rattle.dxf_entities.specs.SectionPlaces.{section_behind, begins_entity, entities_from, names_seed, seed_from}
use Rattle.dxf_entities.specs.Handles.{is_handle}
use Rattle.dxf_entities.specs.Seeds.{as_seed}
use Rattle.dxf_entities.proofs.Members.{Follow, by_past, IsIn, lies}
use Rattle.dxf_entities.proofs.WholeShapes.{IsClear}
use Rattle.dxf_entities.proofs.EntityEdits.{IsLaid}

-- the entities follow each other from one place to another
abbrev pub AreSpread : ℕ → List Entity → ℕ → Type 0
AreSpread from [] past = from ≤ past
AreSpread from (entity ∷ entities) past = (from ≤ entity.head.start) × IsLaid entity
    × AreSpread (entity_end entity) entities past

-- an entity is clear of a span, or ends a section
abbrev pub IsAside : ℕ → ℕ → List ℕ → Entity → Type 0
IsAside low high bytes entity = IsClear low high entity.head.start (entity_end entity)
    ⊎ (is_end_of_section bytes entity.head ≡ true)

abbrev pub AreAside : ℕ → ℕ → List ℕ → List Entity → Type 0
AreAside low high bytes [] = ⊤
AreAside low high bytes (entity ∷ entities) = IsAside low high bytes entity × AreAside low high bytes entities

pub front_follows : (n from : ℕ) (pairs : List Pair) (past : ℕ) → Follow from pairs past
    → Follow from (take n pairs) (past_pairs from (take n pairs))
front_follows zero from pairs past follow = omega arith
front_follows (suc n) from [] past follow = omega arith
front_follows (suc n) from (pair ∷ pairs) past follow =
    (follow.0, follow.1, follow.2, follow.3, front_follows n pair.end pairs past follow.4)

front_within : (n from : ℕ) (pairs : List Pair) (past : ℕ) → Follow from pairs past → Follow from (take n pairs) past
front_within zero from pairs past follow = by_past from pairs past follow
front_within (suc n) from [] past follow = follow
front_within (suc n) from (pair ∷ pairs) past follow =
    (follow.0, follow.1, follow.2, follow.3, front_within n pair.end pairs past follow.4)

pub laid : (head : Pair) (from past : ℕ) (pairs : List Pair) → Follow from (head ∷ pairs) past
    → IsLaid (entity_of head pairs)
laid head from past pairs follow =
    let n = prefix_len is_no_head pairs in
    let front = front_follows n head.end pairs past follow.4 in grind (arith, by_past, front_within)

pub spread_earlier : (less from : ℕ) (entities : List Entity) (past : ℕ) → less ≤ from → AreSpread from entities past
    → AreSpread less entities past
spread_earlier less from [] past below spread = omega (arith, spread)
spread_earlier less from (entity ∷ entities) past below spread = (omega (arith, spread.0), spread.1, spread.2)

-- what begins an entity is a head
begins_head : (place : Where) (pair : Pair) → is_coded (pos 0) pair ≡ false → begins_entity place pair ≡ false
begins_head Outside pair is = refl
begins_head Begun pair is = refl
begins_head Header pair is = refl
begins_head Other pair is = refl
begins_head Entities pair is = is

-- what comes before the next head goes on
more_before : (pair : Pair) (pairs : List Pair) → is_coded (pos 0) pair ≡ false
    → take_while is_no_head (pair ∷ pairs) ≡ pair ∷ take_while is_no_head pairs
more_before pair pairs is = take_while-cons is_no_head pair pairs ∙ rw is refl

pub spread : (bytes : List ℕ) (pairs : List Pair) (place : Where) (from past : ℕ) → Follow from pairs past
    → AreSpread (past_pairs from (take_while is_no_head pairs)) (entities_from bytes place pairs) past
spread bytes [] place from past follow = follow
spread bytes (pair ∷ pairs) place from past follow =
    by_tests (is_coded (pos 0) pair) (begins_entity place pair) refl refl
    (spread bytes pairs (section_behind bytes place pair) pair.end past follow.4) where
      by_tests : (head begins : Bool) → is_coded (pos 0) pair ≡ head → begins_entity place pair ≡ begins
          → AreSpread (past_pairs pair.end (take_while is_no_head pairs))
          (entities_from bytes (section_behind bytes place pair) pairs) past
          → AreSpread (past_pairs from (take_while is_no_head (pair ∷ pairs)))
          (cond begins (entity_of pair pairs ∷ entities_from bytes (section_behind bytes place pair) pairs)
          (entities_from bytes (section_behind bytes place pair) pairs)) past
      by_tests true true head_is begins_is rest = rw head_is (follow.0, laid pair from past pairs follow, rest)
      by_tests true false head_is begins_is rest =
          let n = prefix_len is_no_head pairs in
          let forth : pair.end ≤ past_pairs pair.end (take n pairs) =
          by_past pair.end (take n pairs) (past_pairs pair.end (take n pairs))
          (front_follows n pair.end pairs past follow.4) in grind (arith, spread_earlier)
      by_tests false true head_is begins_is rest = let none : begins_entity place pair ≡ false =
          begins_head place pair head_is in absurd (cc)
      by_tests false false head_is begins_is rest = grind (arith, more_before)

pub all_aside : (bytes : List ℕ) (entities : List Entity) → AreAside 0 0 bytes entities
all_aside bytes [] = tt
all_aside bytes (entity ∷ entities) = (inl (inr (omega arith)), all_aside bytes entities)

-- entities after a span
behind_aside : (low high : ℕ) (bytes : List ℕ) (pairs : List Pair) (place : Where) (from past : ℕ)
    → Follow from pairs past → high ≤ from → AreAside low high bytes (entities_from bytes place pairs)
behind_aside low high bytes [] place from past follow above = tt
behind_aside low high bytes (pair ∷ pairs) place from past follow above =
    by_test (begins_entity place pair) (behind_aside low high bytes pairs _ pair.end past follow.4 (omega
    (arith, follow.0, follow.1, follow.2, follow.3))) where
      by_test : (begins : Bool) → AreAside low high bytes (entities_from bytes (section_behind bytes place pair) pairs)
          → AreAside low high bytes (cond begins (entity_of pair pairs
          ∷ entities_from bytes (section_behind bytes place pair) pairs)
          (entities_from bytes (section_behind bytes place pair) pairs))
      by_test true rest = (inl (inr (omega (arith, follow.0))), rest)
      by_test false rest = rest

as_seed_is : (bytes : List ℕ) (pairs : List Pair) (seed : Pair) → as_seed bytes pairs ≡ Some seed → IsIn seed pairs
as_seed_is bytes [] seed is = absurd (cc)
as_seed_is bytes (pair ∷ pairs) seed is = grind (arith, IsIn)

pub seed_in : (bytes : List ℕ) (pairs : List Pair) (place : Where) (seed : Pair)
    → seed_from bytes place pairs ≡ Some seed → IsIn seed pairs
seed_in bytes [] place seed is = absurd (cc)
seed_in bytes (pair ∷ pairs) place seed is = by_test (names_seed bytes place pair) is (seed_in bytes pairs _ seed) where
  by_test : (names : Bool) → cond names (as_seed bytes pairs) (seed_from bytes (section_behind bytes place pair) pairs)
      ≡ Some seed → (seed_from bytes (section_behind bytes place pair) pairs ≡ Some seed → IsIn seed pairs)
      → IsIn seed (pair ∷ pairs)
  by_test true made rest = inr (as_seed_is bytes pairs seed made)
  by_test false made rest = inr (rest made)

-- a pair that is no head does not end a section
stays_inside : (bytes : List ℕ) (pair : Pair) → is_coded (pos 0) pair ≡ false
    → section_behind bytes Entities pair ≡ Entities
stays_inside bytes pair is = rw is refl

-- the next handle is not among the pairs of an entity
seed_later : (bytes : List ℕ) (pairs : List Pair) (seed : Pair) (from past : ℕ) → Follow from pairs past
    → seed_from bytes Entities pairs ≡ Some seed → past_pairs from (take_while is_no_head pairs) ≤ seed.start
seed_later bytes [] seed from past follow is = absurd (cc)
seed_later bytes (pair ∷ pairs) seed from past follow is =
    by_test (is_coded (pos 0) pair) refl (seed_later bytes pairs seed pair.end past follow.4) where
      by_test : (head : Bool) → is_coded (pos 0) pair ≡ head → (seed_from bytes Entities pairs ≡ Some seed
          → past_pairs pair.end (take_while is_no_head pairs) ≤ seed.start)
          → past_pairs from (take_while is_no_head (pair ∷ pairs)) ≤ seed.start
      by_test true head_is rest = rw head_is ((lies from seed (pair ∷ pairs) past follow
          (seed_in bytes (pair ∷ pairs) Entities seed is)).begins)
      by_test false head_is rest = grind (arith, stays_inside, more_before)

entity_aside : (bytes : List ℕ) (pair : Pair) (pairs : List Pair) (seed : Pair) (place : Where) (from past : ℕ)
    → Follow from (pair ∷ pairs) past → begins_entity place pair ≡ true
    → seed_from bytes (section_behind bytes place pair) pairs ≡ Some seed
    → IsAside seed.start seed.end bytes (entity_of pair pairs)
entity_aside bytes pair pairs seed Outside from past follow begins is = absurd (cc)
entity_aside bytes pair pairs seed Begun from past follow begins is = absurd (cc)
entity_aside bytes pair pairs seed Header from past follow begins is = absurd (cc)
entity_aside bytes pair pairs seed Other from past follow begins is = absurd (cc)
entity_aside bytes pair pairs seed Entities from past follow begins is = grind (arith, seed_later)

-- after the pair that names it, in a header, no entity comes before the next handle
header_aside : (bytes : List ℕ) (pair : Pair) (pairs : List Pair) (seed : Pair) (place : Where) (from past : ℕ)
    → Follow from (pair ∷ pairs) past → names_seed bytes place pair ≡ true → as_seed bytes pairs ≡ Some seed
    → AreAside seed.start seed.end bytes (entities_from bytes place (pair ∷ pairs))
header_aside bytes pair pairs seed Outside from past follow names is = absurd (cc)
header_aside bytes pair pairs seed Begun from past follow names is = absurd (cc)
header_aside bytes pair pairs seed Entities from past follow names is = absurd (cc)
header_aside bytes pair pairs seed Other from past follow names is = absurd (cc)
header_aside bytes pair [] seed Header from past follow names is = absurd (cc)
header_aside bytes pair (next ∷ pairs) seed Header from past follow names is =
    by_tests (is_coded (pos 5) next && is_handle (value_in bytes next)) (is_end_of_section bytes pair) is where
      by_tests : (good ends : Bool) → cond good (Some next) None ≡ Some seed
          → AreAside seed.start seed.end bytes (entities_from bytes (cond ends Outside Header) (next ∷ pairs))
      by_tests false ends made = absurd (cc)
      by_tests true true made = let same : next ≡ seed =
          cc in behind_aside seed.start seed.end bytes pairs (section_behind bytes Outside next) next.end past
          follow.4.4
          (omega (arith, ap (λ (p : Pair). p.end) same))
      by_tests true false made = let same : next ≡ seed =
          cc in behind_aside _ seed.end bytes pairs _ next.end past follow.4.4 (omega
          (arith, ap (λ (p : Pair). p.end) same))

pub seed_aside : (bytes : List ℕ) (pairs : List Pair) (seed : Pair) (place : Where) (from past : ℕ)
    → Follow from pairs past → seed_from bytes place pairs ≡ Some seed
    → AreAside seed.start seed.end bytes (entities_from bytes place pairs)
seed_aside bytes [] seed place from past follow is = tt
seed_aside bytes (pair ∷ pairs) seed place from past follow is =
    by_tests (names_seed bytes place pair) (begins_entity place pair) refl refl is (seed_aside bytes pairs seed _
    pair.end past follow.4) where
      by_tests : (names begins : Bool) → names_seed bytes place pair ≡ names → begins_entity place pair ≡ begins
          → cond names (as_seed bytes pairs) (seed_from bytes (section_behind bytes place pair) pairs) ≡ Some seed
          → (seed_from bytes (section_behind bytes place pair) pairs ≡ Some seed
          → AreAside seed.start seed.end bytes (entities_from bytes (section_behind bytes place pair) pairs))
          → AreAside seed.start seed.end bytes (entities_from bytes place (pair ∷ pairs))
      by_tests true begins names_is begins_is found rest =
          header_aside bytes pair pairs seed place from past follow names_is found
      by_tests false true names_is begins_is found rest =
          rw begins_is (entity_aside bytes pair pairs seed place from past follow begins_is found, rest found)
      by_tests false false names_is begins_is found rest = rw begins_is (rest found)

-- the entity of a vertex ends no section
never_both : (one two : Bool) → ((one && false) || (two && false)) ≡ true → ⊥
never_both true true is = absurd (cc)
never_both true false is = absurd (cc)
never_both false true is = absurd (cc)
never_both false false is = absurd (cc)

pub vertex_ends_none : (bytes : List ℕ) (entity : Entity) → is_of_kind bytes (codes "VERTEX") entity ≡ true
    → is_end_of_section bytes entity.head ≡ true → ⊥
vertex_ends_none bytes entity kind ends = grind (arith, bytes_eq-Decides, never_both)

sequence_ends_none : (bytes : List ℕ) (entity : Entity) → is_of_kind bytes (codes "SEQEND") entity ≡ true
    → is_end_of_section bytes entity.head ≡ true → ⊥
sequence_ends_none bytes entity kind ends = grind (arith, bytes_eq-Decides, never_both)

-- what ends a section is neither
pub no_vertex : (bytes : List ℕ) (entity : Entity) → is_end_of_section bytes entity.head ≡ true
    → is_of_kind bytes (codes "VERTEX") entity ≡ false
no_vertex bytes entity ends = grind (arith, vertex_ends_none)

pub no_sequence_end : (bytes : List ℕ) (entity : Entity) → is_end_of_section bytes entity.head ≡ true
    → is_of_kind bytes (codes "SEQEND") entity ≡ false
no_sequence_end bytes entity ends = grind (arith, sequence_ends_none)
