-- The groups of the written drawing, pair by pair.
use Rattle.std.proofs.Common.{◌≡◌, ℕ, ◌+◌, ◌<◌, ℤ, pos, List, [], ◌∷◌, ◌++◌, length, Bool, true, false, refl, ap, sym}
use Rattle.std.proofs.Common.{◌∙◌, subst, Result, Ok, Err, Option, None, Some, inl, inr, ◌≤◌, arith, find}
use Rattle.std.specs.Prelude.{⊤, codes, flat_map}
use Rattle.std.specs.List.{list_any, AllByRecursion}
use Rattle.std.proofs.lemmas.Bool.Decides.{nat_tests}
use Rattle.std.proofs.lemmas.List.{append-nil}
use Rattle.sheet_base.specs.declared.edits.Edit.{Edit}
use Rattle.sheet_base.specs.declared.edits.What.TheVariants as edits
use Rattle.sheet_base.specs.declared.flags.How.{How}
use Rattle.sheet_base.specs.declared.faults.LayerFault.TheVariants as faults
use Rattle.sheet_base.specs.declared.edits.What.TheVariants.{NextHandle}
use Rattle.sheet_base.specs.Splices.{AreInOrder, splice_of, spliced_from}
use Rattle.dxf_pairs.specs.declared.pairs.Pair.{Pair}
use Rattle.dxf_pairs.specs.declared.faults.PairFault.{PairFault}
use Rattle.dxf_pairs.specs.Pairs.{drawing}
use Rattle.dxf_pairs.specs.Groups.{groups_of, value_in, Group}
use Rattle.dxf_pairs.specs.Laws.{AreTiles, PairsTile}
use Rattle.dxf_pairs.specs.InLines.{IsValue, AreInLines, PairsAreInLines, GroupsFollow, EndsDrawing}
use Rattle.dxf_entities.specs.declared.fields.Read.{Read}
use Rattle.dxf_entities.specs.declared.drawing.PointFields.{PointFields}
use Rattle.dxf_entities.specs.declared.drawing.VertexFields.{VertexFields}
use Rattle.dxf_entities.specs.Entities.{Entity, is_coded, entity_of, has_both}
use Rattle.dxf_entities.specs.Fields.{entity_fields, coordinate_from}
use Rattle.dxf_entities.specs.Shapes.{value_edit, spot_edits}
use Rattle.dxf_entities.specs.Points.{spot_at, dot_of}
use Rattle.dxf_entities.specs.Polylines.{count_of, copy_edits, own_vertices, vertex_edits}
use Rattle.dxf_entities.specs.declared.section_places.Where.{Where}
use Rattle.dxf_entities.specs.declared.section_places.Where.TheVariants.{Outside}
use Rattle.dxf_entities.specs.SectionPlaces.{section_behind, seed_from}
use Rattle.dxf_entities.specs.Handles.{is_handle}
use Rattle.dxf_entities.specs.Seeds.{as_seed, seed_of, seed_edits}
use Rattle.dxf_copies.specs.Rendering.{Reading, seed_text, text_of, text_by, drawing_text}
use Rattle.dxf_copies.specs.PairGroups.{covers, is_of_value, groups_for}
use Rattle.dxf_layer.specs.Drawings.{drawing_sheet}
use Rattle.dxf_layer.specs.ReadBack.{GroupsAreWritten}
use Rattle.dxf_layer.specs.Copies.{WrittenIsADrawing}
use Rattle.dxf_entities.proofs.Members.{went, IsIn, wanted_is, coordinate_is}
use Rattle.dxf_entities.proofs.Sections.{seed_in}
use Rattle.dxf_entities.proofs.SectionSeeds.{seed_is, found_as}
use Rattle.dxf_entities.proofs.WrittenGroups.{plain_value, plain_digits, plain_hexes, ends, is_drawing}
use Rattle.dxf_copies.proofs.SplicedPairs.{StandOn, StandsOn, groups_in, StartsAt, spliced_groups, no_end, coded}
use Rattle.dxf_copies.proofs.SplicedPairs.{lines_behind}
use Rattle.dxf_copies.proofs.EntityPlaces.{some_between, some_value, nothing_measured, IsSource, value_stands}
use Rattle.dxf_copies.proofs.EntityPlaces.{source_of}
use Rattle.dxf_copies.proofs.Numbers.{handle_digits}
use Rattle.dxf_layer.proofs.SheetEdits.SheetOrder.{own_vertex}
use Rattle.dxf_layer.proofs.EntityWalks.WalkedSheets.{sheet_in_order}
use Rattle.dxf_layer.proofs.WrittenDrawings.WrittenWalks.{any_behind}
use Rattle.dxf_layer.proofs.SheetEdits.EachEdit.{IsAmong, AreAmong, HaveAll, HoldsOfKinds, first_own, each_edit}
use Rattle.std.proofs.lemmas.Bool.{or_right}

-- ---- the edits of what is read of an entity are at the pairs of the drawing
stand_both : (read : Reading) (pairs : List Pair) (first second : List Edit) → StandOn read pairs first
    → StandOn read pairs second → StandOn read pairs (first ++ second)
stand_both read pairs [] second on more = more
stand_both read pairs (edit ∷ first) second on more = (on.0, stand_both read pairs first second on.1 more)

-- a field that is read as a number
record IsRead (entity : Entity) (pair : Pair) : Type 0 where
  is_in : IsIn pair (entity_fields entity)
  some : pair.value < pair.value_end

coordinate_read : (bytes : List ℕ) (exact : Bool) (code : ℤ) (entity : Entity) (number : Read)
    → coordinate_from bytes exact code entity ≡ Ok number → IsRead entity number.pair
coordinate_read bytes exact code entity number is = grind (arith, went, coordinate_is, wanted_is, some_value)

spot_stands : (read : Reading) (exact : Bool) (x y : ℤ) (entity : Entity) (spot : PointFields) → IsSource read entity
    → spot_at read.bytes exact x y entity ≡ Ok spot → (n : ℕ) → StandOn read read.pairs (spot_edits n spot)
spot_stands read exact x y entity spot source is n =
    let east = went _ (coordinate_from read.bytes exact x entity) spot is in
    let north = went _ (coordinate_from read.bytes exact y entity) spot east.gives in
    let made : record { x = east.value; y = north.value } ≡ spot = cc in
    let first = coordinate_read _ exact x entity _ east.is in
    let second = coordinate_read _ exact y entity _ north.is in grind (arith, StandOn)

-- a value that equals a number is not empty
count_read : (bytes : List ℕ) (number : ℕ) (entity : Entity) (pair : Pair) → count_of bytes number entity ≡ Ok pair
    → IsRead entity pair
count_read bytes number entity pair is = grind (arith, went, wanted_is, IsIn, some_between, nothing_measured)

-- ---- the edits of all entities of a drawing are at its pairs
-- an entity of the drawing is a source
source_among : GroupsFollow → (read : Reading) (past : ℕ) → AreTiles 0 1 read.pairs past
    → AreInLines read.bytes read.pairs → (entity : Entity) → IsAmong read entity → IsSource read entity
source_among follow read past tiles lines entity among = by_behind among.behind among.are among.own where
  by_behind : (behind : List Pair) → read.pairs ≡ among.front ++ entity.head ∷ behind
      → entity ≡ entity_of entity.head behind → IsSource read entity
  by_behind [] are own =
      let ends : EndsDrawing read.bytes entity.head =
      lines_behind read.bytes among.front entity.head [] (subst (λ (ps : List Pair). AreInLines read.bytes ps) are lines) in
      let last = or_right (has_both read.bytes (pos 0) (codes "ENDSEC") entity.head)
      (has_both read.bytes (pos 0) (codes "EOF") entity.head) ends.last in
      let goes_on = among.goes_on in absurd (cc)
  by_behind (next ∷ more) are own = subst (IsSource read) (sym own)
      (source_of follow read past tiles lines among.front entity.head next more are)

all_stand : (read : Reading) (pairs : List Pair) (edits : List Edit) → AllByRecursion (StandsOn read pairs) edits
    → StandOn read pairs edits
all_stand read pairs [] all = tt
all_stand read pairs (edit ∷ edits) all = (all.0, all_stand read pairs edits all.1)

stand_all : (read : Reading) (pairs : List Pair) (edits : List Edit) → StandOn read pairs edits
    → AllByRecursion (StandsOn read pairs) edits
stand_all read pairs [] all = tt
stand_all read pairs (edit ∷ edits) all = (all.0, stand_all read pairs edits all.1)

module _ (read : Reading) (how : How) (seed : Option Pair)
    (source : (entity : Entity) → IsAmong read entity → IsSource read entity) where
  -- the copies of vertices that are entities of their own
  copies_stand : (entities : List Entity) (vertices : List VertexFields) (n : ℕ) → AreAmong read entities
      → own_vertices read.bytes how.exact seed entities ≡ Ok vertices
      → AllByRecursion (StandsOn read read.pairs) (copy_edits n vertices)
  copies_stand [] vertices n among is = let none : [] ≡ vertices = cc in
      subst (λ (vs : List VertexFields). AllByRecursion (StandsOn read read.pairs) (copy_edits n vs)) none tt
  copies_stand (entity ∷ entities) vertices n among is =
      let own = first_own read.bytes how.exact seed entity entities vertices is in
      let at = own_vertex read.bytes how.exact seed entity own.vertex own.vertex_is in
      let here = subst (λ (s : ℕ). StandsOn read read.pairs
      (record { start = s; end = own.vertex.past; what = edits.Vertex n })) (sym at.0)
      (subst (λ (e : ℕ). StandsOn read read.pairs
      (record { start = entity.head.start; end = e; what = edits.Vertex n })) (sym at.1)
      ((source entity among.0).vertex n)) in
      subst (λ (vs : List VertexFields). AllByRecursion (StandsOn read read.pairs) (copy_edits n vs)) own.are
      (here, copies_stand entities own.more (n + 1) among.1 own.more_is)

  spots_stand : (x y : ℤ) (entity : Entity) (spot : PointFields) → IsAmong read entity
      → spot_at read.bytes how.exact x y entity ≡ Ok spot → HaveAll read.sheet (StandsOn read read.pairs) (dot_of spot)
  spots_stand x y entity spot among is path first at = stand_all read read.pairs (spot_edits first spot)
      (spot_stands read how.exact x y entity spot (source entity among) is first)

  kinds_stand : HoldsOfKinds read how seed (HaveAll read.sheet (StandsOn read read.pairs))
  kinds_stand = record {
    dots = spots_stand (pos 10) (pos 20);
    seconds = spots_stand (pos 11) (pos 21);
    lines = λ entity ends among is path first at. ((source entity among).lines path, tt);
    lights = λ entity kind vertices count among vertices_are count_is path first at.
        let from = source entity among in
        let tally = count_read read.bytes (length vertices) entity count count_is in
        stand_all read read.pairs _ (stand_both read read.pairs (vertex_edits first vertices) _
        (from.vertices how.exact vertices vertices_are first)
        (from.value (edits.Tally first (first + length vertices)) count tt tally.is_in tally.some, tt));
    heavies = λ entities kind vertices among is path first at. copies_stand entities vertices first among is;
    drops = λ entity among asked other path first at. ((source entity among).drop, tt);
  }

-- ---- the pairs of a written drawing are those of the drawing, with its edits
-- the next handle begins no entity
first_no_head : (bytes : List ℕ) (pairs : List Pair) (seed : Pair) → as_seed bytes pairs ≡ Some seed
    → is_coded (pos 0) seed ≡ false
first_no_head bytes [] seed is = absurd (cc)
first_no_head bytes (pair ∷ pairs) seed is = grind (arith, coded)

seed_no_head : (bytes : List ℕ) (place : Where) (pairs : List Pair) (seed : Pair)
    → seed_from bytes place pairs ≡ Some seed → is_coded (pos 0) seed ≡ false
seed_no_head bytes place [] seed is = absurd (cc)
seed_no_head bytes place (pair ∷ pairs) seed is =
    grind (arith, first_no_head, (seed_no_head bytes (section_behind bytes place pair) pairs seed))

some_handle : (text : List ℕ) → is_handle text ≡ true → text ≡ [] → ⊥
some_handle text is none = let no : is_handle text ≡ false = rw none refl in cc

seed_value : (read : Reading) (seed : Pair) → is_handle (value_in read.bytes seed) ≡ true
    → IsValue (seed_text read (value_edit NextHandle seed))
seed_value read seed is = grind (arith, plain_value, plain_hexes, handle_digits, plain_digits)

seed_stands : (read : Reading) (seed : Option Pair) → seed_of read.bytes read.pairs ≡ seed
    → StandOn read read.pairs (seed_edits seed)
seed_stands read None is = tt
seed_stands read (Some seed) is =
    let found = found_as read.bytes read.pairs (Some seed) is in
    let handle : is_handle (value_in read.bytes seed) ≡ true = seed_is read.bytes Outside read.pairs seed found in (
      value_stands read read.pairs seed (value_edit NextHandle seed) (seed_in read.bytes read.pairs Outside seed found)
          (record {
            start = refl;
            end = refl;
            some = some_between read.bytes seed (some_handle (value_in read.bytes seed) handle);
            no_head = seed_no_head read.bytes Outside read.pairs seed found;
            text = seed_value read seed handle;
          }),
      tt,
    )

-- the edits of a drawing's sheet are at its pairs
edits_stand : PairsTile → GroupsFollow → (how : How) (read : Reading) (past : ℕ) → AreTiles 0 1 read.pairs past
    → AreInLines read.bytes read.pairs → drawing read.bytes ≡ Ok read.pairs
    → drawing_sheet how read.bytes ≡ Ok read.sheet → StandOn read read.pairs read.sheet.edits
edits_stand tile follow how read past tiles lines pairs_are is =
    let seed = seed_of read.bytes read.pairs in
    all_stand read read.pairs read.sheet.edits (each_edit read how tile pairs_are is (StandsOn read read.pairs)
    (kinds_stand read how seed (source_among follow read past tiles lines))
    (stand_all read read.pairs (seed_edits seed) (seed_stands read seed refl)))

from_first : GroupsFollow → (read : Reading) (past size : ℕ) (pairs : List Pair) → AreInLines read.bytes pairs
    → AreTiles 0 1 pairs past → past ≤ size → AreInOrder 0 read.sheet.edits size → StandOn read pairs read.sheet.edits
    → groups_of (spliced_from read.bytes (text_of read) 0 read.sheet.edits)
    ≡ flat_map (groups_in read read.sheet.edits) pairs
from_first follow read past size [] lines tiles inside order stand = absurd lines
from_first follow read past size (pair ∷ pairs) lines tiles inside order stand =
    let moved : AreTiles pair.start 1 (pair ∷ pairs) past =
    subst (λ (n : ℕ). AreTiles n 1 (pair ∷ pairs) past) (sym tiles.0) tiles in
    let ordered : AreInOrder pair.start read.sheet.edits size =
    subst (λ (n : ℕ). AreInOrder n read.sheet.edits size) (sym tiles.0) order in
    ap (λ (n : ℕ). groups_of (spliced_from read.bytes (text_of read) n read.sheet.edits)) (sym tiles.0)
    ∙ spliced_groups follow read 1 past size pair pairs read.sheet.edits lines moved inside ordered stand

pub written : PairsTile → PairsAreInLines → GroupsFollow → GroupsAreWritten
written tile in_lines follow how bytes pairs sheet images pairs_are sheet_is fit =
    let read : Reading = record { bytes = bytes; pairs = pairs; sheet = sheet; images = images } in
    let (past, inside, tiles) = tile bytes pairs pairs_are in
    let lines = in_lines bytes pairs pairs_are in ap (λ (r : Result (List Pair) PairFault). groups_of
    (splice_of bytes (λ (edit : Edit). text_by r bytes sheet images edit) sheet.edits)) pairs_are
    ∙ from_first follow read past (length bytes) pairs lines tiles inside
    (sheet_in_order bytes how pairs sheet (tile bytes pairs pairs_are) pairs_are sheet_is)
    (edits_stand tile follow how read past tiles lines pairs_are sheet_is)

-- ---- what is written of a drawing is a drawing: its last pair stays
-- ---- no edit is at the last pair
pub record IsAside (pair : Pair) (edit : Edit) : Type 0 where
  pub covering : covers pair edit ≡ false
  pub of_value : is_of_value pair edit ≡ false

abbrev IsAsideLast : List Pair → Edit → Type 0
IsAsideLast [] edit = ⊤
IsAsideLast (pair ∷ []) edit = IsAside pair edit
IsAsideLast (pair ∷ next ∷ pairs) edit = IsAsideLast (next ∷ pairs) edit

-- an edit that ends at one of the pairs or before them
ended_before : (start line past : ℕ) (pairs : List Pair) (edit : Edit) → AreTiles start line pairs past
    → edit.start < start → edit.end ≤ start → IsAsideLast pairs edit
ended_before start line past [] edit tiles begins ends = tt
ended_before start line past (pair ∷ []) edit tiles begins ends = grind (arith, ends)
ended_before start line past (pair ∷ next ∷ pairs) edit tiles begins ends =
    ended_before pair.end (line + 2) past (next ∷ pairs) edit tiles.5
    (omega (arith, tiles.0, tiles.2, tiles.3, tiles.4)) (omega (arith, tiles.0, tiles.2, tiles.3, tiles.4))

ended_at : (start line past : ℕ) (pairs : List Pair) (edit : Edit) → AreTiles start line pairs past → edit.start < start
    → StartsAt edit.end pairs → IsAsideLast pairs edit
ended_at start line past [] edit tiles begins ends = tt
ended_at start line past (pair ∷ pairs) edit tiles begins (inl at) =
    ended_before start line past (pair ∷ pairs) edit tiles begins (omega (arith, at, tiles.0))
ended_at start line past (pair ∷ []) edit tiles begins (inr at) = absurd at
ended_at start line past (pair ∷ next ∷ pairs) edit tiles begins (inr at) =
    ended_at pair.end (line + 2) past (next ∷ pairs) edit tiles.5 (omega (arith, tiles.0, tiles.2, tiles.3, tiles.4)) at

aside_last : (read : Reading) (start line past : ℕ) (pairs : List Pair) (edit : Edit) → AreInLines read.bytes pairs
    → AreTiles start line pairs past → StandsOn read pairs edit → IsAsideLast pairs edit
aside_last read start line past [] edit lines tiles on = tt
aside_last read start line past (pair ∷ []) edit lines tiles (inl value) =
    absurd (no_end read.bytes pair lines value.no_head)
aside_last read start line past (pair ∷ []) edit lines tiles (inr (inl whole)) = by_end whole.end
  where
    by_end : StartsAt edit.end (pair ∷ []) → IsAside pair edit
    by_end (inl at) = record {
      covering = grind (arith, nat_tests, at);
      of_value = grind (arith, nat_tests, whole.start, tiles.2);
    }
    by_end (inr at) = absurd at
aside_last read start line past (pair ∷ []) edit lines tiles (inr (inr on)) = absurd on
aside_last read start line past (pair ∷ next ∷ pairs) edit lines tiles (inl value) =
    ended_before pair.end (line + 2) past (next ∷ pairs) edit tiles.5 (omega (arith, value.start, value.some, tiles.4))
    (omega (arith, value.end, tiles.4))
aside_last read start line past (pair ∷ next ∷ pairs) edit lines tiles (inr (inl whole)) = by_end whole.end
  where
    begins : edit.start < pair.end
    begins = omega (arith, whole.start, tiles.2, tiles.3, tiles.4)

    by_end : StartsAt edit.end (pair ∷ next ∷ pairs) → IsAsideLast (next ∷ pairs) edit
    by_end (inl at) = ended_before pair.end (line + 2) past (next ∷ pairs) edit tiles.5 begins
        (omega (arith, at, tiles.2, tiles.3, tiles.4))
    by_end (inr at) = ended_at pair.end (line + 2) past (next ∷ pairs) edit tiles.5 begins at
aside_last read start line past (pair ∷ next ∷ pairs) edit lines tiles (inr (inr on)) =
    aside_last read pair.end (line + 2) past (next ∷ pairs) edit lines.1 tiles.5 on

abbrev AreAside : Pair → List Edit → Type 0
AreAside pair [] = ⊤
AreAside pair (edit ∷ edits) = IsAside pair edit × AreAside pair edits

none_covers : (pair : Pair) (edits : List Edit) → AreAside pair edits → list_any (covers pair) edits ≡ false
none_covers pair [] aside = refl
none_covers pair (edit ∷ edits) aside = let here = aside.0.covering in rw here (none_covers pair edits aside.1)

none_replaces : (pair : Pair) (edits : List Edit) → AreAside pair edits → find (is_of_value pair) edits ≡ None
none_replaces pair [] aside = refl
none_replaces pair (edit ∷ edits) aside = let here = aside.0.of_value in rw here (none_replaces pair edits aside.1)

-- ---- so the groups come to an end

abbrev AllAsideLast : List Pair → List Edit → Type 0
AllAsideLast pairs [] = ⊤
AllAsideLast pairs (edit ∷ edits) = IsAsideLast pairs edit × AllAsideLast pairs edits

all_aside : (read : Reading) (start line past : ℕ) (pairs : List Pair) (edits : List Edit) → AreInLines read.bytes pairs
    → AreTiles start line pairs past → StandOn read pairs edits → AllAsideLast pairs edits
all_aside read start line past pairs [] lines tiles stand = tt
all_aside read start line past pairs (edit ∷ edits) lines tiles stand =
    grind (arith, aside_last, (all_aside read start line past pairs edits lines tiles stand.1))

at_one : (pair : Pair) (edits : List Edit) → AllAsideLast (pair ∷ []) edits → AreAside pair edits
at_one pair [] aside = tt
at_one pair (edit ∷ edits) aside = (aside.0, at_one pair edits aside.1)

at_more : (pair next : Pair) (pairs : List Pair) (edits : List Edit) → AllAsideLast (pair ∷ next ∷ pairs) edits
    → AllAsideLast (next ∷ pairs) edits
at_more pair next pairs [] aside = tt
at_more pair next pairs (edit ∷ edits) aside = (aside.0, at_more pair next pairs edits aside.1)

last_ends : (read : Reading) (pairs : List Pair) (edits : List Edit) → AreInLines read.bytes pairs
    → AllAsideLast pairs edits → list_any ends (flat_map (groups_in read edits) pairs) ≡ true
last_ends read [] edits lines aside = absurd lines
last_ends read (pair ∷ []) edits lines aside =
    grind (arith, at_one, ends, append-nil, groups_in, any_behind, none_covers, none_replaces)
last_ends read (pair ∷ next ∷ pairs) edits lines aside =
    any_behind (groups_in read edits pair) (flat_map (groups_in read edits) (next ∷ pairs))
    (last_ends read (next ∷ pairs) edits lines.1 (at_more pair next pairs edits aside))

pub written_is_a_drawing : PairsTile → PairsAreInLines → GroupsFollow → WrittenIsADrawing
written_is_a_drawing tile in_lines follow how bytes sheet images sheet_is fits = by_pairs (drawing bytes) refl
  where
    text : List ℕ
    text = splice_of bytes (drawing_text bytes sheet images) sheet.edits

    by_pairs : (result : Result (List Pair) PairFault) → drawing bytes ≡ result
        → (pairs : List Pair) × (drawing text ≡ Ok pairs)
    by_pairs (Err fault) pairs_are = grind arith
    by_pairs (Ok pairs) pairs_are =
        let read : Reading = record { bytes = bytes; pairs = pairs; sheet = sheet; images = images } in
        let (past, inside, tiles) = tile bytes pairs pairs_are in
        let lines = in_lines bytes pairs pairs_are in
        let stand = edits_stand tile follow how read past tiles lines pairs_are sheet_is in
        let some : list_any ends (flat_map (groups_for read) pairs) ≡ true =
        last_ends read pairs sheet.edits lines (all_aside read 0 1 past pairs sheet.edits lines tiles stand) in
        let found = is_drawing text (subst (λ (groups : List Group). list_any ends groups ≡ true)
        (sym (written tile in_lines follow how bytes pairs sheet images pairs_are sheet_is fits)) some) in
        (found.pairs, found.is)
