-- The walk from entity to entity gives the sheet that sections and items give.
use Rattle.std.proofs.Common.{◌≡◌, ℕ, pos, Bool, true, false, cond, refl, ap, sym, ◌∙◌, List, [], ◌∷◌, ◌++◌, take_while}
use Rattle.std.proofs.Common.{append_assoc, append-nil, Option, None, Some, Result, Ok, Err, codes, ◌≢◌, length, subst}
use Rattle.std.proofs.Common.{IsErrAnd, IsErrOf}
use Rattle.std.specs.Prelude.{⊤, not, filter, flat_map}
use Rattle.std.proofs.lemmas.List.Sums.{take_while-cons}
use Rattle.std.proofs.lemmas.Slice.Eq.{bytes_eq-Decides}
use Rattle.std.specs.List.{find}
use Rattle.std.specs.Str.{bytes_eq}
use Rattle.std.proofs.lemmas.Bool.Decides.{Decides-int_eq}
use Rattle.sheet_base.specs.declared.flags.How.{How}
use Rattle.sheet_base.specs.declared.paths.PathKind.{PathKind}
use Rattle.sheet_base.specs.declared.faults.LayerFault.{LayerFault}
use Rattle.sheet_base.specs.Faults.{and_then}
use Rattle.sheet_base.specs.declared.edits.Edit.{Edit}
use Rattle.sheet_base.specs.declared.faults.LayerFault.TheVariants.{NoMemory}
use Rattle.sheet_base.specs.Sheets.{Contents}
use Rattle.sheet_base.specs.Splices.{AreInOrder}
use Rattle.dxf_pairs.specs.declared.pairs.Pair.{Pair}
use Rattle.dxf_pairs.specs.Groups.{value_in}
use Rattle.dxf_pairs.specs.Laws.{Tile}
use Rattle.dxf_pairs.specs.Pairs.{drawing}
use Rattle.dxf_entities.specs.declared.drawing.VertexFields.{VertexFields}
use Rattle.dxf_entities.specs.Entities.{Entity, is_coded, has_both, is_no_head, entity_of, entities_in}
use Rattle.dxf_entities.specs.Sections.{is_end_of_section, is_inside, Section, section_of, sections_from, is_named}
use Rattle.dxf_entities.specs.Fields.{field_at, there_as, in_turn}
use Rattle.dxf_entities.specs.Items.{Item, is_polyline, is_vertex, is_sequence_end, behind_vertices, items_from}
use Rattle.dxf_entities.specs.Items.{items_in, items_of}
use Rattle.dxf_entities.specs.Kinds.{shapes_of_item, are_read_alone, left_out, upright, shapes_of}
use Rattle.dxf_entities.specs.Polylines.{kind_of, entity_vertex, heavy_shape, own_vertices, ends_polyline}
use Rattle.dxf_entities.specs.Shapes.{Shape, with_shapes}
use Rattle.dxf_entities.specs.declared.section_places.Where.TheVariants.{Outside, Begun, Header, Entities, Other}
use Rattle.dxf_entities.specs.SectionPlaces.{entities_from, entities_of}
use Rattle.dxf_entities.specs.Seeds.{seed_of}
use Rattle.dxf_entities.specs.DrawingContents.{AddsAs}
use Rattle.dxf_layer.specs.InsideWalks.{WalkPlace, free, staying, reading, Step, step_free, step_staying, step_reading}
use Rattle.dxf_layer.specs.InsideWalks.{step, walk_of}
use Rattle.dxf_layer.specs.Drawings.{contents_of_seed, sheet_of, from_pairs, drawing_sheet}
use Rattle.dxf_layer.specs.InsideSheets.{put_in_order, walked_sheet_of, walked_of_pairs}
use Rattle.dxf_entities.proofs.Sections.{no_vertex, no_sequence_end}
use Rattle.dxf_entities.proofs.SectionSeeds.{named_sections, true_more, false_more, begun_more, none_ends}
use Rattle.dxf_layer.proofs.SheetEdits.SheetOrder.{in_order_is, pairs_follow, shapes_made, walked_in_order}

-- ---- the walk of the code over the entities of a section reads its items
-- one reading after another
abbrev pub both : {A : Type 0} → Result (List A) LayerFault → Result (List A) LayerFault → Result (List A) LayerFault
both first rest = and_then (λ here. and_then (λ more. Ok (here ++ more)) rest) first

none_first : {A : Type 0} (r : Result (List A) LayerFault) → both (Ok []) r ≡ r
none_first (Ok items) = refl
none_first (Err fault) = refl

both_assoc : {A : Type 0} (a b c : Result (List A) LayerFault) → both (both a b) c ≡ both a (both b c)
both_assoc (Err fault) b c = refl
both_assoc (Ok x) (Err fault) c = refl
both_assoc (Ok x) (Ok y) (Err fault) = refl
both_assoc (Ok x) (Ok y) (Ok z) = ap Ok (append_assoc x y z)

in_turn_both : {A B : Type 0} (f : A → Result (List B) LayerFault) (items more : List A)
    → in_turn f (items ++ more) ≡ both (in_turn f items) (in_turn f more)
in_turn_both f [] more = sym (none_first _)
in_turn_both f (item ∷ items) more = ap (both (f item)) (in_turn_both f items more) ∙ sym (both_assoc _ _ _)

-- ---- what is left to read, where the walk is
-- a polyline after its vertices so far
abbrev pub open_shapes : List ℕ → Bool → Option Pair → PathKind → List VertexFields → List Entity → Option Pair
    → Result (List Shape) LayerFault
open_shapes bytes exact seed kind read vertices behind =
    and_then (λ (more : List VertexFields). and_then (λ (ends : Unit {0}). Ok (heavy_shape kind (read ++ more) ∷ []))
    (ends_polyline bytes behind)) (own_vertices bytes exact seed vertices)

abbrev pub items_read : List ℕ → How → Option Pair → List Item → Result (List Shape) LayerFault
items_read bytes how seed items = in_turn (shapes_of_item bytes how seed) items

abbrev pub rest_read : List ℕ → How → Option Pair → Option Pair → WalkPlace → List Entity
    → Result (List Shape) LayerFault
rest_read bytes how seed end free entities = items_read bytes how seed (items_from bytes end false entities)
rest_read bytes how seed end staying entities = items_read bytes how seed (items_from bytes end true entities)
rest_read bytes how seed end (reading kind read) entities =
    both (open_shapes bytes how.exact seed kind read (take_while (is_vertex bytes) entities)
    (behind_vertices bytes end entities)) (items_read bytes how seed (items_from bytes end true entities))

-- no entity of a section is what ends it
abbrev pub AreInside : List ℕ → List Entity → Type 0
AreInside bytes [] = ⊤
AreInside bytes (entity ∷ entities) = (is_end_of_section bytes entity.head ≡ false) × AreInside bytes entities

-- the walk after a section: what is left to read of no entity, and then the others
abbrev pub IsBehind : List ℕ → How → Option Pair → Option Pair → List Entity → Result (List Shape) LayerFault → Type 0
IsBehind bytes how seed end rest more = (place : WalkPlace)
    → walk_of bytes how seed place rest ≡ both (rest_read bytes how seed end place []) more

-- a step, and the walk from there on
abbrev pub onto : (WalkPlace → Result (List Shape) LayerFault) → Result Step LayerFault → Result (List Shape) LayerFault
onto w here = and_then (λ (s : Step). and_then (λ (more : List Shape). Ok (s.shapes ++ more)) (w s.next)) here

-- nothing read here, and the same from the next place on
nothing_here : (w again more : Result (List Shape) LayerFault) → w ≡ both again more
    → both (Ok []) w ≡ both (both (Ok []) again) more
nothing_here w again more is = none_first w ∙ (is ∙ ap (λ r. both r more) (sym (none_first again)))

some_here : (shapes : List Shape) (w again more : Result (List Shape) LayerFault) → w ≡ both again more
    → both (Ok shapes) w ≡ both (both (Ok shapes) again) more
some_here shapes w again more is = ap (both (Ok shapes)) is ∙ sym (both_assoc (Ok shapes) again more)

-- a SEQEND is no POLYLINE
no_polyline : (bytes : List ℕ) (entity : Entity) → is_sequence_end bytes entity ≡ true
    → is_polyline bytes entity ≡ false
no_polyline bytes entity last =
    let value : value_in bytes entity.head ≡ codes "SEQEND" =
    (bytes_eq-Decides (value_in bytes entity.head) (codes "SEQEND")).0 last in rw value refl

-- ---- the first entity is alone, or begins a polyline
free_turn : (bytes : List ℕ) (how : How) (seed end : Option Pair) (entity : Entity) (entities : List Entity)
    (w : WalkPlace → Result (List Shape) LayerFault) (more : Result (List Shape) LayerFault)
    → is_end_of_section bytes entity.head ≡ false
    → ((place : WalkPlace) → w place ≡ both (rest_read bytes how seed end place entities) more)
    → onto w (step_free bytes how seed entity) ≡ both (rest_read bytes how seed end free (entity ∷ entities)) more
free_turn bytes how seed end entity entities w more goes_on rest = by_kind (is_polyline bytes entity) refl where
  Goal : Type 0
  Goal = onto w (step_free bytes how seed entity) ≡ both (rest_read bytes how seed end free (entity ∷ entities)) more

  opened : is_polyline bytes entity ≡ true → (paper : Option Pair) → field_at (pos 67) entity ≡ Ok paper
      → there_as bytes 1 paper ≡ false → (flat : Result (Unit {0}) LayerFault) → upright bytes entity ≡ flat
      → (kind : Result PathKind LayerFault) → kind_of bytes entity ≡ kind → Goal
  opened opens paper paper_is off (Err fault) flat_is kind kind_is = rw (goes_on, opens, paper_is, off, flat_is) refl
  opened opens paper paper_is off (Ok flat) flat_is (Err fault) kind_is =
      rw (goes_on, opens, paper_is, off, flat_is, kind_is) refl
  opened opens paper paper_is off (Ok flat) flat_is (Ok kind) kind_is =
      rw (goes_on, opens, paper_is, off, flat_is, kind_is)
      (none_first (w (reading kind [])) ∙ rest (reading kind []))

  lone : is_polyline bytes entity ≡ false → (paper : Option Pair) → field_at (pos 67) entity ≡ Ok paper
      → there_as bytes 1 paper ≡ false → are_read_alone bytes entity ≡ true
      → (flat : Result (Unit {0}) LayerFault) → upright bytes entity ≡ flat
      → (shapes : Result (List Shape) LayerFault) → shapes_of bytes how seed entity ≡ shapes → Goal
  lone stands paper paper_is off alone (Err fault) flat_is shapes shapes_are =
      rw (goes_on, stands, paper_is, off, alone, flat_is) refl
  lone stands paper paper_is off alone (Ok flat) flat_is (Err fault) shapes_are =
      rw (goes_on, stands, paper_is, off, alone, flat_is, shapes_are) refl
  lone stands paper paper_is off alone (Ok flat) flat_is (Ok shapes) shapes_are =
      rw (goes_on, stands, paper_is, off, alone, flat_is, shapes_are)
      (some_here shapes (w free) (rest_read bytes how seed end free entities) more (rest free))

  other : is_polyline bytes entity ≡ false → (paper : Option Pair) → field_at (pos 67) entity ≡ Ok paper
      → there_as bytes 1 paper ≡ false → are_read_alone bytes entity ≡ false
      → (drop : Bool) → how.drop_other ≡ drop → Goal
  other stands paper paper_is off alone true drops = rw (goes_on, stands, paper_is, off, alone, drops)
      (some_here (left_out entity ∷ []) (w free) (rest_read bytes how seed end free entities) more (rest free))
  other stands paper paper_is off alone false drops = rw (goes_on, stands, paper_is, off, alone, drops) refl

  off_paper : (polyline : Bool) → is_polyline bytes entity ≡ polyline → (paper : Option Pair)
      → field_at (pos 67) entity ≡ Ok paper → there_as bytes 1 paper ≡ false
      → (alone : Bool) → are_read_alone bytes entity ≡ alone → Goal
  off_paper true opens paper paper_is off alone alone_is =
      opened opens paper paper_is off (upright bytes entity) refl (kind_of bytes entity) refl
  off_paper false stands paper paper_is off true alone_is =
      lone stands paper paper_is off alone_is (upright bytes entity) refl (shapes_of bytes how seed entity) refl
  off_paper false stands paper paper_is off false alone_is =
      other stands paper paper_is off alone_is how.drop_other refl

  by_paper : (polyline : Bool) → is_polyline bytes entity ≡ polyline → (paper : Option Pair)
      → field_at (pos 67) entity ≡ Ok paper → (on : Bool) → there_as bytes 1 paper ≡ on → Goal
  by_paper true opens paper paper_is true on = rw (goes_on, opens, paper_is, on)
      (nothing_here (w staying) (rest_read bytes how seed end staying entities) more (rest staying))
  by_paper false stands paper paper_is true on = rw (goes_on, stands, paper_is, on)
      (nothing_here (w free) (rest_read bytes how seed end free entities) more (rest free))
  by_paper polyline polyline_is paper paper_is false off =
      off_paper polyline polyline_is paper paper_is off (are_read_alone bytes entity) refl

  by_field : (polyline : Bool) → is_polyline bytes entity ≡ polyline → (paper : Result (Option Pair) LayerFault)
      → field_at (pos 67) entity ≡ paper → Goal
  by_field true opens (Err fault) paper_is = rw (goes_on, opens, paper_is) refl
  by_field false stands (Err fault) paper_is = rw (goes_on, stands, paper_is) refl
  by_field polyline polyline_is (Ok paper) paper_is =
      by_paper polyline polyline_is paper paper_is (there_as bytes 1 paper) refl

  by_kind : (polyline : Bool) → is_polyline bytes entity ≡ polyline → Goal
  by_kind polyline is = by_field polyline is (field_at (pos 67) entity) refl

-- ---- the first entity comes after a polyline that stays
staying_turn : (bytes : List ℕ) (how : How) (seed end : Option Pair) (entity : Entity) (entities : List Entity)
    (w : WalkPlace → Result (List Shape) LayerFault) (more : Result (List Shape) LayerFault)
    → is_end_of_section bytes entity.head ≡ false
    → ((place : WalkPlace) → w place ≡ both (rest_read bytes how seed end place entities) more)
    → onto w (step_staying bytes how seed entity) ≡ both (rest_read bytes how seed end staying (entity ∷ entities)) more
staying_turn bytes how seed end entity entities w more goes_on rest =
    by_tests (is_vertex bytes entity) (is_sequence_end bytes entity) refl refl where
      by_tests : (vertex last : Bool) → is_vertex bytes entity ≡ vertex → is_sequence_end bytes entity ≡ last
          → onto w (step_staying bytes how seed entity)
          ≡ both (rest_read bytes how seed end staying (entity ∷ entities)) more
      by_tests true last vertex_is last_is = rw vertex_is (none_first (w staying) ∙ rest staying)
      by_tests false true vertex_is last_is =
          rw (vertex_is, last_is, no_polyline bytes entity last_is) (none_first (w free) ∙ rest free)
      by_tests false false vertex_is last_is =
          rw (vertex_is, last_is) (free_turn bytes how seed end entity entities w more goes_on rest)

-- ---- the first entity comes after the vertices of a polyline that is read
one_more : (bytes : List ℕ) (kind : PathKind) (read : List VertexFields) (vertex : VertexFields)
    (own : Result (List VertexFields) LayerFault) (ends : Result (Unit {0}) LayerFault)
    → and_then (λ (more : List VertexFields). and_then (λ (done : Unit {0}).
    Ok (heavy_shape kind ((read ++ vertex ∷ []) ++ more) ∷ [])) ends) own
    ≡ and_then (λ (more : List VertexFields). and_then (λ (done : Unit {0}).
    Ok (heavy_shape kind (read ++ more) ∷ [])) ends) (both (Ok (vertex ∷ [])) own)
one_more bytes kind read vertex (Err fault) ends = refl
one_more bytes kind read vertex (Ok more) ends =
    ap (λ (vertices : List VertexFields). and_then (λ (done : Unit {0}). Ok (heavy_shape kind vertices ∷ [])) ends)
    (append_assoc read (vertex ∷ []) more)

reading_turn : (bytes : List ℕ) (how : How) (seed end : Option Pair) (kind : PathKind) (read : List VertexFields)
    (entity : Entity) (entities : List Entity) (w : WalkPlace → Result (List Shape) LayerFault)
    (more : Result (List Shape) LayerFault)
    → ((place : WalkPlace) → w place ≡ both (rest_read bytes how seed end place entities) more)
    → onto w (step_reading bytes how seed kind read entity)
    ≡ both (rest_read bytes how seed end (reading kind read) (entity ∷ entities)) more
reading_turn bytes how seed end kind read entity entities w more rest =
    rw (take_while-cons (is_vertex bytes) entity entities)
    (by_tests (is_vertex bytes entity) (is_sequence_end bytes entity) (entity_vertex bytes how.exact seed entity)
    refl refl refl) where
      after : Result (List Shape) LayerFault
      after = items_read bytes how seed (items_from bytes end true (entity ∷ entities))

      first_vertices : List Entity
      first_vertices = cond (is_vertex bytes entity) (entity ∷ take_while (is_vertex bytes) entities) []

      by_tests : (vertex last : Bool) (found : Result VertexFields LayerFault) → is_vertex bytes entity ≡ vertex
          → is_sequence_end bytes entity ≡ last → entity_vertex bytes how.exact seed entity ≡ found
          → onto w (step_reading bytes how seed kind read entity)
          ≡ both (both (open_shapes bytes how.exact seed kind read first_vertices
          (behind_vertices bytes end (entity ∷ entities))) after) more
      by_tests true last (Err fault) vertex_is last_is found_is = rw (vertex_is, found_is) refl
      by_tests true last (Ok vertex) vertex_is last_is found_is = rw (vertex_is, found_is)
          (none_first (w (reading kind (read ++ vertex ∷ []))) ∙ (rest (reading kind (read ++ vertex ∷ []))
          ∙ ap (λ (r : Result (List Shape) LayerFault).
          both (both r (items_read bytes how seed (items_from bytes end true entities))) more)
          (one_more bytes kind read vertex
          (own_vertices bytes how.exact seed (take_while (is_vertex bytes) entities))
          (ends_polyline bytes (behind_vertices bytes end entities)))))
      by_tests false true found vertex_is last_is found_is =
          rw (vertex_is, last_is, no_polyline bytes entity last_is, append-nil read)
          (some_here (heavy_shape kind read ∷ []) (w free) (rest_read bytes how seed end free entities) more
          (rest free))
      by_tests false false found vertex_is last_is found_is = rw (vertex_is, last_is) refl

-- ---- the entities of a section, and what comes after it
section_walked : (bytes : List ℕ) (how : How) (seed end : Option Pair) (rest : List Entity)
    (more : Result (List Shape) LayerFault) → IsBehind bytes how seed end rest more
    → (entities : List Entity) → AreInside bytes entities → (place : WalkPlace)
    → walk_of bytes how seed place (entities ++ rest) ≡ both (rest_read bytes how seed end place entities) more
section_walked bytes how seed end rest more behind [] inside place = behind place
section_walked bytes how seed end rest more behind (entity ∷ entities) inside place =
    by_place place (section_walked bytes how seed end rest more behind entities inside.1) where
      w : WalkPlace → Result (List Shape) LayerFault
      w next = walk_of bytes how seed next (entities ++ rest)

      by_place : (at : WalkPlace)
          → ((next : WalkPlace) → w next ≡ both (rest_read bytes how seed end next entities) more)
          → onto w (step bytes how seed at entity) ≡ both (rest_read bytes how seed end at (entity ∷ entities)) more
      by_place free again = free_turn bytes how seed end entity entities w more inside.0 again
      by_place staying again = staying_turn bytes how seed end entity entities w more inside.0 again
      by_place (reading kind read) again = reading_turn bytes how seed end kind read entity entities w more again

-- nothing comes after the last section
nothing_behind : (bytes : List ℕ) (how : How) (seed : Option Pair) → IsBehind bytes how seed None [] (Ok [])
nothing_behind bytes how seed free = refl
nothing_behind bytes how seed staying = refl
nothing_behind bytes how seed (reading kind read) = refl

-- after the pair that ends a section the walk begins anew
end_behind : (bytes : List ℕ) (how : How) (seed : Option Pair) (stop : Entity) (others : List Entity)
    → is_end_of_section bytes stop.head ≡ true → is_vertex bytes stop ≡ false → is_sequence_end bytes stop ≡ false
    → IsBehind bytes how seed (Some stop.head) (stop ∷ others) (walk_of bytes how seed free others)
end_behind bytes how seed stop others ends no_vertex no_last free = rw ends refl
end_behind bytes how seed stop others ends no_vertex no_last staying = rw (no_vertex, no_last, ends) refl
end_behind bytes how seed stop others ends no_vertex no_last (reading kind read) = rw (no_vertex, no_last) refl

-- ---- the walk of the code over the pairs of a drawing reads the items of its sections ENTITIES
-- what is read of sections
abbrev pub sections_read : List ℕ → How → Option Pair → List Section → Result (List Shape) LayerFault
sections_read bytes how seed sections =
    items_read bytes how seed (flat_map (items_in bytes) (filter (is_named (codes "ENTITIES")) sections))

-- ---- the rest of a section ENTITIES: its entities, and those that the walk finds after them
pub record HasRest (bytes : List ℕ) (how : How) (seed : Option Pair) (pairs : List Pair) : Type 0 where
  pub rest : List Entity
  pub entities : entities_from bytes Entities pairs ≡ entities_in (take_while (is_inside bytes) pairs) ++ rest
  pub inside : AreInside bytes (entities_in (take_while (is_inside bytes) pairs))
  pub behind : IsBehind bytes how seed (find (is_end_of_section bytes) pairs) rest
      (sections_read bytes how seed (sections_from bytes true pairs))

-- what the walk reads of these pairs, wherever the first is
pub record IsWalkedSo (bytes : List ℕ) (how : How) (seed : Option Pair) (pairs : List Pair) : Type 0 where
  pub outside : walk_of bytes how seed free (entities_from bytes Outside pairs)
      ≡ sections_read bytes how seed (sections_from bytes false pairs)
  pub begun : walk_of bytes how seed free (entities_from bytes Begun pairs)
      ≡ sections_read bytes how seed (named_sections bytes pairs)
  pub header : walk_of bytes how seed free (entities_from bytes Header pairs)
      ≡ sections_read bytes how seed (sections_from bytes true pairs)
  pub other : walk_of bytes how seed free (entities_from bytes Other pairs)
      ≡ sections_read bytes how seed (sections_from bytes true pairs)
  pub entities : HasRest bytes how seed pairs

-- what ends a section is a head
end_is_head : (bytes : List ℕ) (pair : Pair) → is_end_of_section bytes pair ≡ true → is_coded (pos 0) pair ≡ true
end_is_head bytes pair ends = by_test (is_coded (pos 0) pair) refl where
  by_test : (head : Bool) → is_coded (pos 0) pair ≡ head → is_coded (pos 0) pair ≡ true
  by_test true is = is
  by_test false is = let none : is_end_of_section bytes pair ≡ false = none_ends bytes pair is in absurd (cc)

-- the pairs of an entity lie in its section
pub heads_kept : (bytes : List ℕ) (pairs : List Pair)
    → take_while is_no_head (take_while (is_inside bytes) pairs) ≡ take_while is_no_head pairs
heads_kept bytes [] = refl
heads_kept bytes (pair ∷ pairs) =
    rw (take_while-cons (is_inside bytes) pair pairs, take_while-cons is_no_head pair pairs)
    (by_tests (is_end_of_section bytes pair) (is_coded (pos 0) pair) refl refl (heads_kept bytes pairs)) where
      kept : List Pair
      kept = take_while (is_inside bytes) pairs

      by_tests : (ends head : Bool) → is_end_of_section bytes pair ≡ ends → is_coded (pos 0) pair ≡ head
          → take_while is_no_head kept ≡ take_while is_no_head pairs
          → take_while is_no_head (cond (is_inside bytes pair) (pair ∷ kept) [])
          ≡ cond (is_no_head pair) (pair ∷ take_while is_no_head pairs) []
      by_tests true true ends_is head_is rest = rw (ends_is, head_is) refl
      by_tests true false ends_is head_is rest = let head : is_coded (pos 0) pair ≡ true =
          end_is_head bytes pair ends_is in absurd (cc)
      by_tests false true ends_is head_is rest = rw (ends_is, take_while-cons is_no_head pair kept, head_is) refl
      by_tests false false ends_is head_is rest = rw (ends_is, take_while-cons is_no_head pair kept, head_is)
          (ap (λ (more : List Pair). pair ∷ more) rest)

-- ---- a section ENTITIES pair by pair
rest_ends : (bytes : List ℕ) (how : How) (seed : Option Pair) (pair : Pair) (pairs : List Pair)
    → is_end_of_section bytes pair ≡ true → walk_of bytes how seed free (entities_from bytes Outside pairs)
    ≡ sections_read bytes how seed (sections_from bytes false pairs) → HasRest bytes how seed (pair ∷ pairs)
rest_ends bytes how seed pair pairs ends outside =
    let head : is_coded (pos 0) pair ≡ true = end_is_head bytes pair ends in
    let stop : Entity = entity_of pair pairs in
    let others : List Entity = entities_from bytes Outside pairs in
    record {
      rest = stop ∷ others;
      entities = rw (take_while-cons (is_inside bytes) pair pairs, ends, head) refl;
      inside = rw (take_while-cons (is_inside bytes) pair pairs, ends) tt;
      behind = rw (true_more bytes pair pairs, ends, ← outside)
          (end_behind bytes how seed stop others ends (no_vertex bytes stop ends)
          (no_sequence_end bytes stop ends));
    }

rest_goes_on : (bytes : List ℕ) (how : How) (seed : Option Pair) (pair : Pair) (pairs : List Pair)
    → is_end_of_section bytes pair ≡ false → HasRest bytes how seed pairs → HasRest bytes how seed (pair ∷ pairs)
rest_goes_on bytes how seed pair pairs goes_on has = record {
  rest = has.rest;
  entities = rw (take_while-cons (is_inside bytes) pair pairs, goes_on) (by_head (is_coded (pos 0) pair) refl);
  inside = rw (take_while-cons (is_inside bytes) pair pairs, goes_on) (inside_too (is_coded (pos 0) pair) refl);
  behind = rw (true_more bytes pair pairs, goes_on) has.behind;
}
  where
    kept : List Pair
    kept = take_while (is_inside bytes) pairs

    by_head : (head : Bool) → is_coded (pos 0) pair ≡ head
        → cond (is_coded (pos 0) pair) (entity_of pair pairs ∷ entities_from bytes Entities pairs)
        (entities_from bytes Entities pairs) ≡ entities_in (pair ∷ kept) ++ has.rest
    by_head true is = rw (is, heads_kept bytes pairs)
        (ap (λ (more : List Entity). entity_of pair pairs ∷ more) has.entities)
    by_head false is = rw is has.entities

    inside_too : (head : Bool) → is_coded (pos 0) pair ≡ head → AreInside bytes (entities_in (pair ∷ kept))
    inside_too true is = rw is (goes_on, has.inside)
    inside_too false is = rw is has.inside

-- ---- one pair more, wherever it is
outside_more : (bytes : List ℕ) (how : How) (seed : Option Pair) (pair : Pair) (pairs : List Pair)
    → IsWalkedSo bytes how seed pairs → (begins : Bool) → has_both bytes (pos 0) (codes "SECTION") pair ≡ begins
    → walk_of bytes how seed free (entities_from bytes (cond begins Begun Outside) pairs)
    ≡ sections_read bytes how seed (sections_from bytes false (pair ∷ pairs))
outside_more bytes how seed pair pairs rest true is = rw (begun_more bytes pair pairs is) rest.begun
outside_more bytes how seed pair pairs rest false is = rw (false_more bytes pair pairs is) rest.outside

-- after the name of a section ENTITIES
entities_begun : (bytes : List ℕ) (how : How) (seed : Option Pair) (pairs : List Pair) → HasRest bytes how seed pairs
    → walk_of bytes how seed free (entities_from bytes Entities pairs)
    ≡ both (items_read bytes how seed (items_from bytes (find (is_end_of_section bytes) pairs) false
    (entities_in (take_while (is_inside bytes) pairs))))
    (sections_read bytes how seed (sections_from bytes true pairs))
entities_begun bytes how seed pairs has = ap (walk_of bytes how seed free) has.entities
    ∙ section_walked bytes how seed (find (is_end_of_section bytes) pairs) has.rest
    (sections_read bytes how seed (sections_from bytes true pairs)) has.behind
    (entities_in (take_while (is_inside bytes) pairs)) has.inside free

begun_step : (bytes : List ℕ) (how : How) (seed : Option Pair) (name : Pair) (pairs : List Pair)
    → IsWalkedSo bytes how seed pairs → walk_of bytes how seed free (entities_from bytes Begun (name ∷ pairs))
    ≡ sections_read bytes how seed (named_sections bytes (name ∷ pairs))
begun_step bytes how seed name pairs rest =
    by_code (is_coded (pos 2) name) (bytes_eq (value_in bytes name) (codes "ENTITIES"))
    (bytes_eq (value_in bytes name) (codes "HEADER")) (has_both bytes (pos 0) (codes "SECTION") name)
    refl refl refl refl where
      no_head : is_coded (pos 2) name ≡ true → is_coded (pos 0) name ≡ false
      no_head is = let code : name.code ≡ pos 2 = (Decides-int_eq name.code (pos 2)).0 is in rw code refl

      onward : is_coded (pos 2) name ≡ true → sections_from bytes true (name ∷ pairs) ≡ sections_from bytes true pairs
      onward is = true_more bytes name pairs ∙ rw (none_ends bytes name (no_head is)) refl

      by_code : (coded entities header begins : Bool) → is_coded (pos 2) name ≡ coded
          → bytes_eq (value_in bytes name) (codes "ENTITIES") ≡ entities
          → bytes_eq (value_in bytes name) (codes "HEADER") ≡ header
          → has_both bytes (pos 0) (codes "SECTION") name ≡ begins
          → walk_of bytes how seed free (entities_from bytes Begun (name ∷ pairs))
          ≡ sections_read bytes how seed (named_sections bytes (name ∷ pairs))
      by_code true true header begins coded_is entities_is header_is begins_is =
          rw (coded_is, entities_is, onward coded_is)
          (entities_begun bytes how seed pairs rest.entities
          ∙ sym (in_turn_both _ (items_in bytes (section_of bytes name pairs)) _))
      by_code true false true begins coded_is entities_is header_is begins_is =
          rw (coded_is, entities_is, header_is, onward coded_is) rest.header
      by_code true false false begins coded_is entities_is header_is begins_is =
          rw (coded_is, entities_is, header_is, onward coded_is) rest.other
      by_code false entities header begins coded_is entities_is header_is begins_is =
          rw (coded_is, begins_is) (outside_more bytes how seed name pairs rest begins begins_is)

-- ---- all pairs
sections_walked : (bytes : List ℕ) (how : How) (seed : Option Pair) (pairs : List Pair)
    → IsWalkedSo bytes how seed pairs
sections_walked bytes how seed [] = record {
  outside = refl;
  begun = refl;
  header = refl;
  other = refl;
  entities = record { rest = []; entities = refl; inside = tt; behind = nothing_behind bytes how seed };
}
sections_walked bytes how seed (pair ∷ pairs) =
    let rest = sections_walked bytes how seed pairs in
    record {
      outside = outside_more bytes how seed pair pairs rest (has_both bytes (pos 0) (codes "SECTION") pair) refl;
      begun = begun_step bytes how seed pair pairs rest;
      header = rw (true_more bytes pair pairs) (header_more (is_end_of_section bytes pair) rest);
      other = rw (true_more bytes pair pairs) (other_more (is_end_of_section bytes pair) rest);
      entities = by_end (is_end_of_section bytes pair) refl rest;
    }
  where
    header_more : (ends : Bool) → IsWalkedSo bytes how seed pairs
        → walk_of bytes how seed free (entities_from bytes (cond ends Outside Header) pairs)
        ≡ sections_read bytes how seed (sections_from bytes (not ends) pairs)
    header_more true rest = rest.outside
    header_more false rest = rest.header

    other_more : (ends : Bool) → IsWalkedSo bytes how seed pairs
        → walk_of bytes how seed free (entities_from bytes (cond ends Outside Other) pairs)
        ≡ sections_read bytes how seed (sections_from bytes (not ends) pairs)
    other_more true rest = rest.outside
    other_more false rest = rest.other

    by_end : (ends : Bool) → is_end_of_section bytes pair ≡ ends → IsWalkedSo bytes how seed pairs
        → HasRest bytes how seed (pair ∷ pairs)
    by_end true ends rest = rest_ends bytes how seed pair pairs ends rest.outside
    by_end false ends rest = rest_goes_on bytes how seed pair pairs ends rest.entities

-- what is read of a drawing's items is what the walk reads of its entities
pub items_walked : (bytes : List ℕ) (how : How) (seed : Option Pair) (pairs : List Pair)
    → walk_of bytes how seed free (entities_of bytes pairs) ≡ items_read bytes how seed (items_of bytes pairs)
items_walked bytes how seed pairs = (sections_walked bytes how seed pairs).outside

-- ---- the sheet of a drawing is the one that the code makes of its walk
abbrev with_edits_of : Contents → List Edit → Contents
with_edits_of whole edits = record {
  paths = whole.paths;
  points = whole.points;
  heights = whole.heights;
  edits = edits;
  inexact = whole.inexact;
  dropped = whole.dropped;
}

-- the edits by their places are those that the code brings in order
sheets_same : (bytes : List ℕ) (how : How) (pairs : List Pair) (shapes : List Shape) → Tile bytes pairs
    → walk_of bytes how (seed_of bytes pairs) free (entities_of bytes pairs) ≡ Ok shapes
    → sheet_of (length bytes) (seed_of bytes pairs) shapes ≡ walked_sheet_of (seed_of bytes pairs) shapes
sheets_same bytes how pairs shapes tile walk =
    let seed = seed_of bytes pairs in
    let whole : Contents = with_shapes (contents_of_seed seed) shapes in
    let good = shapes_made bytes how pairs (length bytes) shapes (pairs_follow bytes pairs tile) seed refl walk in
    ap (with_edits_of whole) (in_order_is (length bytes) whole.edits good.1.within)

-- what is read of the items, as what is read by the walk
walk_of_items : (bytes : List ℕ) (how : How) (pairs : List Pair) → drawing bytes ≡ Ok pairs → drawing_sheet how bytes
    ≡ and_then (λ (shapes : List Shape). Ok (sheet_of (length bytes) (seed_of bytes pairs) shapes))
    (walk_of bytes how (seed_of bytes pairs) free (entities_of bytes pairs))
walk_of_items bytes how pairs pairs_are = ap (from_pairs bytes how) pairs_are
    ∙ ap (and_then (λ (shapes : List Shape). Ok (sheet_of (length bytes) (seed_of bytes pairs) shapes)))
    (sym (items_walked bytes how (seed_of bytes pairs) pairs))

pub sheet_read : (bytes : List ℕ) (how : How) (pairs : List Pair) (shapes : List Shape) → Tile bytes pairs
    → drawing bytes ≡ Ok pairs → walk_of bytes how (seed_of bytes pairs) free (entities_of bytes pairs) ≡ Ok shapes
    → drawing_sheet how bytes ≡ Ok (walked_sheet_of (seed_of bytes pairs) shapes)
sheet_read bytes how pairs shapes tile pairs_are walk = walk_of_items bytes how pairs pairs_are
    ∙ (ap (and_then (λ (shapes : List Shape). Ok (sheet_of (length bytes) (seed_of bytes pairs) shapes))) walk
    ∙ ap Ok (sheets_same bytes how pairs shapes tile walk))

refused_read : (bytes : List ℕ) (how : How) (pairs : List Pair) (fault : LayerFault) → drawing bytes ≡ Ok pairs
    → walk_of bytes how (seed_of bytes pairs) free (entities_of bytes pairs) ≡ Err fault
    → drawing_sheet how bytes ≡ Err fault
refused_read bytes how pairs fault pairs_are walk = walk_of_items bytes how pairs pairs_are
    ∙ ap (and_then (λ (shapes : List Shape). Ok (sheet_of (length bytes) (seed_of bytes pairs) shapes))) walk

pub sheet_walked : (bytes : List ℕ) (how : How) (pairs : List Pair) (sheet : Contents) → Tile bytes pairs
    → drawing bytes ≡ Ok pairs → drawing_sheet how bytes ≡ Ok sheet → walked_of_pairs bytes how pairs ≡ Ok sheet
sheet_walked bytes how pairs sheet tile pairs_are is =
    by_read (walk_of bytes how (seed_of bytes pairs) free (entities_of bytes pairs)) refl
    (sym (walk_of_items bytes how pairs pairs_are) ∙ is) where
      by_read : (read : Result (List Shape) LayerFault)
          → walk_of bytes how (seed_of bytes pairs) free (entities_of bytes pairs) ≡ read
          → and_then (λ (shapes : List Shape). Ok (sheet_of (length bytes) (seed_of bytes pairs) shapes))
          (walk_of bytes how (seed_of bytes pairs) free (entities_of bytes pairs)) ≡ Ok sheet
          → walked_of_pairs bytes how pairs ≡ Ok sheet
      by_read (Ok shapes) walk made =
          let read : drawing_sheet how bytes ≡ Ok (walked_sheet_of (seed_of bytes pairs) shapes) =
          sheet_read bytes how pairs shapes tile pairs_are walk in
          ap (and_then (λ (shapes : List Shape). Ok (walked_sheet_of (seed_of bytes pairs) shapes))) walk
          ∙ (sym read ∙ is)
      by_read (Err fault) walk made =
          let never : drawing_sheet how bytes ≡ Err fault = refused_read bytes how pairs fault pairs_are walk in
          absurd (cc)

-- the edits of a drawing's sheet are in order
pub sheet_in_order : (bytes : List ℕ) (how : How) (pairs : List Pair) (sheet : Contents) → Tile bytes pairs
    → drawing bytes ≡ Ok pairs → drawing_sheet how bytes ≡ Ok sheet → AreInOrder 0 sheet.edits (length bytes)
sheet_in_order bytes how pairs sheet tile pairs_are is =
    walked_in_order bytes how pairs sheet tile (sheet_walked bytes how pairs sheet tile pairs_are is)

-- what the code has read when it answers, by what it hands on
pub code_read : (bytes : List ℕ) (how : How) (pairs first left : List Pair) (seed : Option Pair) (start now : Contents)
    → Tile bytes pairs → drawing bytes ≡ Ok pairs → first ≡ pairs → left ≡ pairs → seed ≡ seed_of bytes first
    → start ≡ contents_of_seed seed → AddsAs start (walk_of bytes how seed free (entities_of bytes left)) now
    → drawing_sheet how bytes ≡ Ok (put_in_order now)
code_read bytes how pairs first left seed start now tile pairs_are first_is left_is seed_is start_is added =
    let known : seed ≡ seed_of bytes pairs = seed_is ∙ ap (seed_of bytes) first_is in
    let one : AddsAs (contents_of_seed seed) (walk_of bytes how seed free (entities_of bytes left)) now =
    subst (λ s. AddsAs s (walk_of bytes how seed free (entities_of bytes left)) now) start_is added in
    let two : AddsAs (contents_of_seed seed) (walk_of bytes how seed free (entities_of bytes pairs)) now =
    subst (λ ps. AddsAs (contents_of_seed seed) (walk_of bytes how seed free (entities_of bytes ps)) now) left_is one in
    by_read (walk_of bytes how (seed_of bytes pairs) free (entities_of bytes pairs)) refl
    (subst (λ s. AddsAs (contents_of_seed s) (walk_of bytes how s free (entities_of bytes pairs)) now) known two) where
      by_read : (read : Result (List Shape) LayerFault)
          → walk_of bytes how (seed_of bytes pairs) free (entities_of bytes pairs) ≡ read
          → AddsAs (contents_of_seed (seed_of bytes pairs)) read now → drawing_sheet how bytes ≡ Ok (put_in_order now)
      by_read (Ok shapes) walk made =
          sheet_read bytes how pairs shapes tile pairs_are walk ∙ ap (λ (c : Contents). Ok (put_in_order c)) (sym made)
      by_read (Err fault) walk made = absurd made

pub code_refused : (bytes : List ℕ) (how : How) (pairs first left : List Pair) (seed : Option Pair)
    (fault : LayerFault) → drawing bytes ≡ Ok pairs → first ≡ pairs → left ≡ pairs → seed ≡ seed_of bytes first
    → walk_of bytes how seed free (entities_of bytes left) ≡ Err fault → drawing_sheet how bytes ≡ Err fault
code_refused bytes how pairs first left seed fault pairs_are first_is left_is seed_is walk =
    let known : seed_of bytes pairs ≡ seed = sym (seed_is ∙ ap (seed_of bytes) first_is) in
    refused_read bytes how pairs fault pairs_are
    (ap (λ (s : Option Pair). walk_of bytes how s free (entities_of bytes pairs)) known
    ∙ (ap (λ (ps : List Pair). walk_of bytes how seed free (entities_of bytes ps)) (sym left_is) ∙ walk))

-- a fault that is handed on is the drawing's
pub fault_on : {T : Type 0} (found : Result Contents LayerFault) (fault : LayerFault) (answer : Result T LayerFault)
    → IsErrAnd answer (λ other. other ≡ fault) → (fault ≢ NoMemory → found ≡ Err fault) → (other : LayerFault)
    → IsErrOf answer other → other ≢ NoMemory → found ≡ Err other
fault_on found fault (Ok value) is read other answered memory = absurd is
fault_on found fault (Err now) is read other answered memory =
    let same : fault ≡ other = cc in subst (λ (f : LayerFault). f ≢ NoMemory → found ≡ Err f) same read memory
