-- The walk over the written drawing, entity by entity.
use Rattle.std.proofs.Common.{◌≡◌, ℕ, ◌<◌, ◌≤◌, ap, sym, ◌∙◌, subst, List, [], ◌∷◌, ◌++◌, filter, flat_map, arith, inl}
use Rattle.std.proofs.Common.{inr, Bool, true, false, cond, refl, ◌+◌, ℤ, pos, length, take, Option, Some, Ok, codes}
use Rattle.std.proofs.Common.{zero, suc}
use Rattle.std.proofs.lemmas.List.{append_assoc, append-nil, length-append}
use Rattle.std.proofs.lemmas.Grind.{flat_map-append}
use Rattle.std.specs.Prelude.{◌||◌, ◌⊎◌, ◌&&◌, bytes_eq}
use Rattle.std.specs.List.{list_any, prefix_len}
use Rattle.std.proofs.lemmas.Bool.Decides.{nat_tests, Decides-int_eq}
use Rattle.std.specs.Ordering.{int_eq}
use Rattle.sheet_base.specs.declared.edits.Edit.{Edit}
use Rattle.sheet_base.specs.declared.flags.How.{How}
use Rattle.sheet_base.specs.declared.paths.PathRow.{PathRow}
use Rattle.sheet_base.specs.ImageFits.{Runs}
use Rattle.dxf_pairs.specs.declared.pairs.Pair.{Pair}
use Rattle.dxf_pairs.specs.Groups.{Group, group_in, value_in}
use Rattle.dxf_pairs.specs.Laws.{AreTiles}
use Rattle.dxf_pairs.specs.InLines.{GroupsFollow, AreInLines}
use Rattle.dxf_entities.specs.Entities.{Entity, entity_end, is_coded, is_no_head, entity_of, past_pairs}
use Rattle.dxf_entities.specs.declared.drawing.VertexFields.{VertexFields}
use Rattle.dxf_entities.specs.declared.section_places.Where.{Where}
use Rattle.dxf_entities.specs.declared.section_places.Where.TheVariants.{Outside, Entities, Begun, Header, Other}
use Rattle.dxf_entities.specs.Sections.{is_end_of_section}
use Rattle.dxf_entities.specs.SectionPlaces.{section_behind, begins_entity, entities_from}
use Rattle.dxf_entities.specs.Shapes.{Shape}
use Rattle.dxf_copies.specs.PairGroups.{begins_at, covers, is_of_value, value_with}
use Rattle.dxf_copies.specs.Rendering.{Reading}
use Rattle.dxf_layer.specs.InsideEditOrder.{edit_among, in_order}
use Rattle.dxf_layer.specs.InsideWalks.{WalkPlace, free, staying, reading, Step, step, walk_of, shapes_read, step_free}
use Rattle.dxf_entities.proofs.WholeShapes.{AreWithin, paths_past, points_past, edits_with}
use Rattle.dxf_entities.proofs.Members.{IsIn, Follow, by_past, lies, tiles_follow}
use Rattle.dxf_entities.proofs.GroupShapes.{coded, is_seeded, Outline, Told, next}
use Rattle.dxf_entities.proofs.OutlineEnds.{imaged_outlines, rows_behind, points_of}
use Rattle.dxf_entities.proofs.Sections.{front_follows, spread, spread_earlier, laid}
use Rattle.dxf_copies.proofs.ValueTurns.{stand, IsPlaced, AreSilent, silent_front, silent_behind, all_behind, texts_in}
use Rattle.dxf_copies.proofs.ValueTurns.{first_of, itself_in, covered, some_at, AreGoodImages}
use Rattle.dxf_copies.proofs.WholeTurns.{IsSet}
use Rattle.dxf_copies.proofs.GroupDrawings.{Spot, turn_of, ends_sections, alone, kept, walk, turn, entities_told}
use Rattle.dxf_copies.proofs.GroupDrawings.{behind_group, begins_told, told_from, in_front, AreBack, none_back}
use Rattle.dxf_copies.proofs.GroupDrawings.{back_both, IsHeaded, entities_front, headed_front, imaged_both}
use Rattle.dxf_copies.proofs.GroupDrawings.{none_in_front, turn_walks}
use Rattle.dxf_copies.proofs.SplicedPairs.{tiles_behind, lines_behind, entity_is, AreBody}
use Rattle.dxf_copies.proofs.EntityPlaces.{ends_later, set_of, last_ends, IsHeadFirst, IsSplit, split_of, more_behind}
use Rattle.dxf_copies.proofs.EntityPlaces.{entities_behind, of_entity}
use Rattle.dxf_layer.proofs.WrittenDrawings.EntityCases.{written_for, texts_at, DotsAlone, LightsAreWritten, IsFound, IsNumbered}
use Rattle.dxf_layer.proofs.WrittenDrawings.EntityCases.{imaged_spot}
use Rattle.dxf_layer.proofs.EntityWalks.WalkTrails.{behind_first, behind_later, trail, own_edits, trail_on, trail_apart, own_apart}
use Rattle.dxf_layer.proofs.EntityWalks.StepGroups.{ReadingStep, one_vertex, the_end, reading_step, walked_on}
use Rattle.dxf_layer.proofs.WrittenDrawings.WrittenWalks.{each_same, IsKept, kept_none, kept_single, enough_points, IsHarmless}
use Rattle.dxf_layer.proofs.WrittenDrawings.WrittenWalks.{harmless_behind, begins_same, SilentOn, AreAgain, in_middle, rows_both}
use Rattle.dxf_layer.proofs.WrittenDrawings.WrittenWalks.{rows_count, points_count, dots_front, dots_behind, kept_entity}
use Rattle.dxf_layer.proofs.WrittenDrawings.StepWritten.{IsNear, other_value, StepWritten, free_written, kept_written, reading_written}

-- ---- what stands for the pairs of an entity and of those after it
-- each pair of the entity ends in it
record IsInside (entity : Entity) (pair : Pair) : Type 0 where
  placed : IsPlaced pair
  ends : pair.end ≤ entity_end entity

inside_entity : (bytes : List ℕ) (entity : Entity) → IsSet bytes entity → (pair : Pair)
    → IsIn pair (entity.head ∷ entity.pairs) → IsInside entity pair
inside_entity bytes entity set pair (inl is) = grind (arith, by_past)
inside_entity bytes entity set pair (inr is_in) = grind (arith, lies, some_at)

regrouped : (a t s r : List Group) → a ++ ((t ++ s) ++ r) ≡ (a ++ t) ++ (s ++ r)
regrouped a t s r = ap (λ (g : List Group). a ++ g) (append_assoc t s r) ∙ sym (append_assoc a t (s ++ r))

entity_groups : (read : Reading) (entity : Entity) (extra own rest : List Edit) (other : Pair) (others : List Pair)
    (past : ℕ) → IsSet read.bytes entity → AreWithin entity.head.start own (entity_end entity)
    → AreWithin (entity_end entity) rest past
    → ((pair : Pair) → IsIn pair (entity.head ∷ entity.pairs) → AreSilent pair extra) → other.start ≡ entity_end entity
    → other.start < other.value → other.start < other.end → Follow other.end others past
    → filter (begins_at other) extra ≡ []
    → flat_map (stand read (extra ++ (own ++ rest))) (entity.head ∷ (entity.pairs ++ (other ∷ others)))
    ≡ written_for read own entity ++ flat_map (stand read (extra ++ rest)) (other ∷ others)
entity_groups read entity extra own rest other others past set own_within rest_within silent starts code some follows
    no_text =
    let all = extra ++ (own ++ rest) in
    let here : flat_map (stand read all) (entity.head ∷ entity.pairs)
    ≡ flat_map (stand read own) (entity.head ∷ entity.pairs) =
    each_same (stand read all) (stand read own) (entity.head ∷ entity.pairs) (λ pair is_in.
    let inside = inside_entity read.bytes entity set pair is_in in
    silent_front read pair extra (own ++ rest) (silent pair is_in)
    ∙ silent_behind read pair own rest (all_behind pair (entity_end entity) past rest inside.placed inside.ends
    rest_within)) in
    let first : stand read all other ≡ texts_at read own (entity_end entity) ++ stand read (extra ++ rest) other =
    behind_first read other extra own rest entity.head.start (entity_end entity) no_text own_within
    (omega (arith, starts)) code ∙ ap (λ (n : ℕ). texts_at read own n ++ stand read (extra ++ rest) other) starts in
    let later : flat_map (stand read all) others ≡ flat_map (stand read (extra ++ rest)) others =
    each_same (stand read all) (stand read (extra ++ rest)) others (λ pair is_in.
    let at = lies other.end pair others past follows is_in in
    behind_later read pair extra own rest entity.head.start (entity_end entity) own_within
    (omega (arith, at.begins, starts, some)) at.code) in
    flat_map-append (stand read all) (entity.head ∷ entity.pairs) (other ∷ others)
    ∙ (ap (λ (g : List Group). g ++ (stand read all other ++ flat_map (stand read all) others)) here
    ∙ (ap (λ (g : List Group). flat_map (stand read own) (entity.head ∷ entity.pairs)
    ++ (g ++ flat_map (stand read all) others)) first
    ∙ (ap (λ (g : List Group). flat_map (stand read own) (entity.head ∷ entity.pairs)
    ++ ((texts_at read own (entity_end entity) ++ stand read (extra ++ rest) other) ++ g)) later
    ∙ regrouped (flat_map (stand read own) (entity.head ∷ entity.pairs)) (texts_at read own (entity_end entity))
    (stand read (extra ++ rest) other) (flat_map (stand read (extra ++ rest)) others))))

-- ---- the order of edits makes no difference to the groups that stand for a pair
-- edits that are chosen by where they start stay in order
abbrev ByStart : (Edit → Bool) → Type 0
ByStart p = (a b : Edit) → p a ≡ true → p b ≡ true → a.start ≡ b.start

chosen_among : (p : Edit → Bool) → ByStart p → (edit : Edit) (edits : List Edit)
    → filter p (edit_among edit edits) ≡ filter p (edit ∷ edits)
chosen_among p same edit [] = refl
chosen_among p same edit (other ∷ edits) = grind (arith, (chosen_among p same edit edits))

chosen_in_order : (p : Edit → Bool) → ByStart p → (edits : List Edit) → filter p (in_order edits) ≡ filter p edits
chosen_in_order p same [] = refl
chosen_in_order p same (edit ∷ edits) = grind (arith, chosen_among, (chosen_in_order p same edits))

any_among : (p : Edit → Bool) (edit : Edit) (edits : List Edit)
    → list_any p (edit_among edit edits) ≡ (p edit || list_any p edits)
any_among p edit [] = refl
any_among p edit (other ∷ edits) = grind (arith, (any_among p edit edits))

any_in_order : (p : Edit → Bool) (edits : List Edit) → list_any p (in_order edits) ≡ list_any p edits
any_in_order p [] = refl
any_in_order p (edit ∷ edits) = any_among p edit _ ∙ ap (λ (b : Bool). p edit || b) (any_in_order p edits)

begins_by_start : (pair : Pair) → ByStart (begins_at pair)
begins_by_start pair a b one two = grind (arith, nat_tests, one, two)

value_by_start : (pair : Pair) → ByStart (is_of_value pair)
value_by_start pair a b one two = grind (arith, nat_tests, one, two)

-- the order of the edits makes no difference
pub stand_in_order : (read : Reading) (edits : List Edit) (pair : Pair)
    → stand read (in_order edits) pair ≡ stand read edits pair
stand_in_order read edits pair =
    let of_value = filter (is_of_value pair) edits in
    let itself : itself_in read pair (filter (covers pair) (in_order edits)) of_value
    ≡ itself_in read pair (filter (covers pair) edits) of_value =
    sym (covered read pair (covers pair) (in_order edits) of_value)
    ∙ (ap (λ (b : Bool). cond b [] (record { code = pair.code; value = value_with read pair (first_of of_value) } ∷ []))
    (any_in_order (covers pair) edits) ∙ covered read pair (covers pair) edits of_value) in
    grind (arith, texts_in, itself_in, chosen_in_order, begins_by_start, value_by_start)

-- ---- what is written of a drawing is read again, with the ends of the images
-- one step, wherever the walk is
step_written : (read : Reading) (how : How) (seed : Option Pair) (count : ℕ) → GroupsFollow
    → AreGoodImages read.images count → LightsAreWritten read how seed count
    → (entity : Entity) (entities : List Entity) (path first : ℕ) → IsFound read entity
    → (spot : Spot) (place : WalkPlace) (here : Step) (more : List Shape) → IsNear read.images first spot place
    → step read.bytes how seed place entity ≡ Ok here → walk_of read.bytes how seed here.next entities ≡ Ok more
    → IsNumbered read count path first here.shapes → first + length (points_of (here.shapes ++ more)) ≤ count
    → StepWritten (group_in read.bytes entity.head) how (is_seeded seed) read.images spot
    (points_past first here.shapes) here.next (imaged_outlines read.images first here.shapes)
    (written_for read (own_edits path first place entity here) entity)
step_written read how seed count follow good lights entity entities path first at spot free here more near is more_is
    numbered inside = free_written read how seed count follow good lights entity path first at spot near here is
    numbered
step_written read how seed count follow good lights entity entities path first at spot staying here more near is more_is
    numbered inside =
    grind (arith, Spot, StepWritten, is_seeded, points_past, imaged_outlines, written_for, own_edits, kept_written)
step_written read how seed count follow good lights entity entities path first at spot (reading kind vertices) here more
    near is more_is numbered inside =
    subst (λ (s : Spot). StepWritten (group_in read.bytes entity.head) how (is_seeded seed) read.images s
    (points_past first here.shapes) here.next (imaged_outlines read.images first here.shapes)
    (written_for read (own_edits path first (reading kind vertices) entity here) entity)) (sym near)
    (reading_written read how seed count follow good lights entity path first at kind vertices here is
    (omega (arith, enough)) one_more)
  where
    whole : walk_of read.bytes how seed (reading kind vertices) (entity ∷ entities) ≡ Ok (here.shapes ++ more)
    whole = rw (is, more_is) refl

    enough : length vertices ≤ length (points_of (here.shapes ++ more))
    enough = enough_points read.bytes how seed kind vertices (entity ∷ entities) (here.shapes ++ more) whole

    one_more : (vertex : VertexFields) → here ≡ record { shapes = []; next = reading kind (vertices ++ vertex ∷ []) }
        → first + length vertices < count
    one_more vertex here_is =
        let rest : walk_of read.bytes how seed (reading kind (vertices ++ vertex ∷ [])) entities ≡ Ok more =
        subst (λ (h : Step). walk_of read.bytes how seed h.next entities ≡ Ok more) here_is more_is in
        let more_points = enough_points read.bytes how seed kind (vertices ++ vertex ∷ []) entities more rest in
        let none : first + length (points_of more) ≤ count =
        subst (λ (h : Step). first + length (points_of (h.shapes ++ more)) ≤ count) here_is inside in
        let size = length-append vertices (vertex ∷ []) in omega arith

module _ (read : Reading) (how : How) (seed : Option Pair) (count : ℕ) (follow : GroupsFollow)
    (good : AreGoodImages read.images count) (lights : LightsAreWritten read how seed count) (past : ℕ)
    (tiles : AreTiles 0 1 read.pairs past)
    (lines : AreInLines read.bytes read.pairs) (extra : List Edit)
    (harmless : (pair : Pair) → IsIn pair read.pairs → IsHarmless read extra pair) where
  abbrev pub new : ℕ → ℕ → WalkPlace → Where → List Pair → List Group
  new path first place section pairs = flat_map
      (stand read (extra ++ trail read.bytes how seed path first place (entities_from read.bytes section pairs))) pairs

  -- what is known of the pairs from here on
  pub record Known (front pairs : List Pair) (section : Where) (place : WalkPlace) (path first : ℕ)
      (shapes : List Shape)
      (before : List PathRow) : Type 0 where
    pub are : read.pairs ≡ front ++ pairs
    pub is : walk_of read.bytes how seed place (entities_from read.bytes section pairs) ≡ Ok shapes
    pub silent : SilentOn read.bytes extra (entities_from read.bytes section pairs)
    pub rows : read.sheet.paths ≡ before ++ rows_behind first shapes
    pub before_is : length before ≡ path
    pub inside : first + length (points_of shapes) ≤ count
    pub lone : DotsAlone read.images first shapes

  abbrev pub Answer : Where → WalkPlace → ℕ → ℕ → List Shape → List Pair → Type 0
  Answer section place path first shapes pairs =
      AreAgain read.bytes how (is_seeded seed) read.images first place section pairs
      (imaged_outlines read.images first shapes) (new path first place section pairs)

  no_pairs : (section : Where) (place : WalkPlace) (path first : ℕ) (shapes : List Shape)
      → walk_of read.bytes how seed place [] ≡ Ok shapes → Answer section place path first shapes []
  no_pairs section free path first shapes is =
      grind (arith, AreBack, imaged_outlines, none_back, kept, kept_none, Spot, alone, walk, is_seeded)
  no_pairs section staying path first shapes is =
      grind (arith, Spot, walk, is_seeded, AreBack, imaged_outlines, none_back, kept, kept_none)
  no_pairs section (reading kind vertices) path first shapes is = absurd (cc)

  -- the trail after a pair comes after it
  trail_behind : (section : Where) (place : WalkPlace) (path first : ℕ) (shapes : List Shape) (from : ℕ)
      (pairs : List Pair) → Follow from pairs past
      → walk_of read.bytes how seed place (entities_from read.bytes section pairs) ≡ Ok shapes
      → AreWithin from (trail read.bytes how seed path first place (entities_from read.bytes section pairs)) past
  trail_behind section place path first shapes from pairs follows is =
      let n = prefix_len is_no_head pairs in
      let front = by_past from (take n pairs) (past_pairs from (take n pairs))
      (front_follows n from pairs past follows) in
      (trail_apart _ how seed path first place _ shapes from past (spread_earlier from _ _ past front (spread read.bytes
      pairs section from past follows)) is).within

  here_tiles : (front : List Pair) (pair : Pair) (pairs : List Pair) → read.pairs ≡ front ++ pair ∷ pairs
      → (number : ℕ) × AreTiles pair.start number (pair ∷ pairs) past
  here_tiles front pair pairs are = tiles_behind front 0 1 past pair pairs
      (subst (λ (ps : List Pair). AreTiles 0 1 ps past) are tiles)

  here_lines : (front : List Pair) (pair : Pair) (pairs : List Pair) → read.pairs ≡ front ++ pair ∷ pairs
      → AreInLines read.bytes (pair ∷ pairs)
  here_lines front pair pairs are = lines_behind read.bytes front pair pairs (subst (AreInLines read.bytes) are lines)

  here_harmless : (front : List Pair) (pair : Pair) (pairs : List Pair) → read.pairs ≡ front ++ pair ∷ pairs
      → IsHarmless read extra pair
  here_harmless front pair pairs are = harmless pair (subst (IsIn pair) (sym are) (in_middle front pair pairs))

  -- what stands for a pair that is in no entity of those from here on
  stand_single : (front : List Pair) (pair : Pair) (pairs : List Pair) (section : Where) (place : WalkPlace)
      (path first : ℕ) (shapes : List Shape) → (are : read.pairs ≡ front ++ pair ∷ pairs)
      → walk_of read.bytes how seed place (entities_from read.bytes section pairs) ≡ Ok shapes
      → stand read (extra ++ trail read.bytes how seed path first place (entities_from read.bytes section pairs)) pair
      ≡ record { code = pair.code; value = (here_harmless front pair pairs are).value } ∷ []
  stand_single front pair [] section place path first shapes are is =
      ap (λ (e : List Edit). stand read e pair) (append-nil extra) ∙ (here_harmless front pair [] are).stand_is
  stand_single front pair (other ∷ pairs) section place path first shapes are is =
      let at = here_tiles front pair (other ∷ pairs) are in
      let on = here_lines front pair (other ∷ pairs) are in
      let t = at.1 in
      let later = ends_later read.bytes pair on.0 t.4 in
      let placed : IsPlaced pair = record { code = t.2; value = t.3; inside = t.4; some = omega (arith, t.3, later) } in
      let within = trail_behind section place path first shapes pair.end (other ∷ pairs)
      (tiles_follow pair.end (at.0 + 2) (other ∷ pairs) past t.5) is in
      silent_behind read pair extra (trail read.bytes how seed path first place
      (entities_from read.bytes section (other ∷ pairs)))
      (all_behind pair pair.end past (trail read.bytes how seed path first place
      (entities_from read.bytes section (other ∷ pairs))) placed (omega arith) within)
      ∙ (here_harmless front pair (other ∷ pairs) are).stand_is

  one_further : (front : List Pair) (pair : Pair) (pairs : List Pair) → read.pairs ≡ front ++ pair ∷ pairs
      → read.pairs ≡ (front ++ pair ∷ []) ++ pairs
  one_further front pair pairs are = are ∙ sym (append_assoc front (pair ∷ []) pairs)

  -- a pair that begins no entity
  single : (front : List Pair) (pair : Pair) (pairs : List Pair) (section : Where) (place : WalkPlace) (path first : ℕ)
      (shapes : List Shape) (before : List PathRow) → Known front (pair ∷ pairs) section place path first shapes before
      → begins_entity section pair ≡ false
      → (Known (front ++ pair ∷ []) pairs (section_behind read.bytes section pair) place path first shapes before
      → Answer (section_behind read.bytes section pair) place path first shapes pairs)
      → Answer section place path first shapes (pair ∷ pairs)
  single front pair pairs section place path first shapes before known off rest =
      let section_too = section_behind read.bytes section pair in
      let same : entities_from read.bytes section (pair ∷ pairs) ≡ entities_from read.bytes section_too pairs =
      rw off refl in
      let is_too = subst (λ (es : List Entity). walk_of read.bytes how seed place es ≡ Ok shapes) same known.is in
      let later = rest (record {
        are = one_further front pair pairs known.are;
        is = is_too;
        silent = subst (SilentOn read.bytes extra) same known.silent;
        rows = known.rows;
        before_is = known.before_is;
        inside = known.inside;
        lone = known.lone;
      }) in
      let h = here_harmless front pair pairs known.are in
      let group : Group = record { code = pair.code; value = h.value } in
      let groups : new path first place section (pair ∷ pairs) ≡ group ∷ new path first place section_too pairs =
      ap (λ (es : List Entity). flat_map (stand read (extra ++ trail read.bytes how seed path first place es))
      (pair ∷ pairs)) same ∙ ap (λ (own : List Group). own ++ new path first place section_too pairs)
      (stand_single front pair pairs section_too place path first shapes known.are is_too) in
      let begins : begins_told section group ≡ false = begins_same read section pair h.value ∙ off in
      let on : behind_group section group ≡ section_too = harmless_behind read extra pair section h in
      let entities : entities_told section (group ∷ new path first place section_too pairs)
      ≡ entities_told section_too (new path first place section_too pairs) = rw (begins, on) refl in
      record {
        again = λ spot near. let a = later.again spot near in record {
          outs = a.outs;
          walk_is = ap (λ (g : List Group). walk how (is_seeded seed) spot (entities_told section g)) groups
              ∙ (ap (walk how (is_seeded seed) spot) entities ∙ a.walk_is);
          same = a.same;
        };
        headed = λ begin. let both : true ≡ false = sym begin ∙ off in absurd (cc);
        kept = subst (IsKept read.bytes section (pair ∷ pairs)) (sym groups)
            (kept_single read extra pair pairs section h (here_lines front pair pairs known.are)
            (new path first place section_too pairs) later.kept);
      }

  ends_value : (code first second : Bool) → ((code && first) || (code && second)) ≡ true → (first || second) ≡ true
  ends_value true first second is = is
  ends_value false first second is = absurd (cc)

  abbrev section_value : List ℕ → Bool
  section_value value = bytes_eq value (codes "ENDSEC") || bytes_eq value (codes "EOF")

  -- what ends a section is read as nothing
  record IsEnd (place : WalkPlace) (entity : Entity) (here : Step) : Type 0 where
    here_is : here ≡ shapes_read []
    goes : (path first : ℕ) → own_edits path first place entity here ≡ []
    turns : (first : ℕ) (spot : Spot) → IsNear read.images first spot place → (made : Told)
        → made.head ≡ group_in read.bytes entity.head → turn how (is_seeded seed) spot made ≡ Some (turn_of [])

  end_step : (place : WalkPlace) (entity : Entity) (here : Step) → is_end_of_section read.bytes entity.head ≡ true
      → step read.bytes how seed place entity ≡ Ok here → IsEnd place entity here
  end_step place entity here ends is = by_place place is where
    value : section_value (value_in read.bytes entity.head) ≡ true
    value = ends_value (is_coded (pos 0) entity.head) (bytes_eq (value_in read.bytes entity.head) (codes "ENDSEC"))
        (bytes_eq (value_in read.bytes entity.head) (codes "EOF")) ends

    no_vertex : bytes_eq (value_in read.bytes entity.head) (codes "VERTEX") ≡ false
    no_vertex = other_value (value_in read.bytes entity.head) section_value (codes "VERTEX") value refl

    no_end : bytes_eq (value_in read.bytes entity.head) (codes "SEQEND") ≡ false
    no_end = other_value (value_in read.bytes entity.head) section_value (codes "SEQEND") value refl

    free_is : step_free read.bytes how seed entity ≡ Ok here → here ≡ shapes_read []
    free_is made = grind arith

    at_alone : (made : Told) → made.head ≡ group_in read.bytes entity.head
        → turn how (is_seeded seed) alone made ≡ Some (turn_of [])
    at_alone made head = let on : ends_sections made.head ≡ true = ap ends_sections head ∙ ends in rw on refl

    at_kept : (made : Told) → made.head ≡ group_in read.bytes entity.head
        → turn how (is_seeded seed) kept made ≡ Some (turn_of [])
    at_kept made head = grind (arith, ends_sections, no_vertex, no_end, at_alone)

    at_either : (spot : Spot) → (spot ≡ alone) ⊎ (spot ≡ kept) → (made : Told)
        → made.head ≡ group_in read.bytes entity.head → turn how (is_seeded seed) spot made ≡ Some (turn_of [])
    at_either spot (inl same) made head = ap (λ (s : Spot). turn how (is_seeded seed) s made) same ∙ at_alone made head
    at_either spot (inr same) made head = ap (λ (s : Spot). turn how (is_seeded seed) s made) same ∙ at_kept made head

    by_place : (place : WalkPlace) → step read.bytes how seed place entity ≡ Ok here → IsEnd place entity here
    by_place free made = grind (arith, free_is, edits_with, at_either)
    by_place staying made = grind (arith, no_vertex, no_end, free_is, edits_with, at_either)
    by_place (reading kind vertices) made =
        grind (arith, reading_step, ReadingStep, one_vertex, no_vertex, the_end, no_end)

  -- a pair that ends a section of entities
  section_end : (front : List Pair) (pair : Pair) (pairs : List Pair) (place : WalkPlace) (path first : ℕ)
      (shapes : List Shape) (before : List PathRow) → Known front (pair ∷ pairs) Entities place path first shapes before
      → is_coded (pos 0) pair ≡ true → is_end_of_section read.bytes pair ≡ true
      → (Known (front ++ pair ∷ []) pairs Outside free path first shapes before
      → Answer Outside free path first shapes pairs) → Answer Entities place path first shapes (pair ∷ pairs)
  section_end front pair pairs place path first shapes before known is_head ends rest =
      let entity = entity_of pair pairs in
      let same : entities_from read.bytes Entities (pair ∷ pairs) ≡ entity ∷ entities_from read.bytes Outside pairs =
      rw (ends, is_head) refl in
      let w = walked_on read.bytes how seed place entity (entities_from read.bytes Outside pairs) shapes
      (subst (λ (es : List Entity). walk_of read.bytes how seed place es ≡ Ok shapes) same known.is) in
      let e = end_step place entity w.here ends w.step_is in
      let more_same : shapes ≡ w.more = w.shapes_are ∙ ap (λ (h : Step). h.shapes ++ w.more) e.here_is in
      let is_too : walk_of read.bytes how seed free (entities_from read.bytes Outside pairs) ≡ Ok shapes =
      ap (λ (h : Step). walk_of read.bytes how seed h.next (entities_from read.bytes Outside pairs)) (sym e.here_is)
      ∙ (w.more_is ∙ ap Ok (sym more_same)) in
      let later = rest (record {
        are = one_further front pair pairs known.are;
        is = is_too;
        silent = (subst (SilentOn read.bytes extra) same known.silent).1;
        rows = known.rows;
        before_is = known.before_is;
        inside = known.inside;
        lone = known.lone;
      }) in
      let h = here_harmless front pair pairs known.are in
      let group : Group = record { code = pair.code; value = h.value } in
      let code : pair.code ≡ pos 0 = (Decides-int_eq pair.code (pos 0)).0 is_head in
      let no_five : is_coded (pos 5) pair ≡ false = ap (λ (c : ℤ). int_eq c (pos 5)) code in
      let group_is : group ≡ group_in read.bytes pair =
      ap (λ (v : List ℕ). record { code = pair.code; value = v }) (h.same no_five) in
      let trails : trail read.bytes how seed path first place (entities_from read.bytes Entities (pair ∷ pairs))
      ≡ trail read.bytes how seed path first free (entities_from read.bytes Outside pairs) =
      ap (trail read.bytes how seed path first place) same
      ∙ (trail_on read.bytes how seed path first place entity (entities_from read.bytes Outside pairs) w.here w.step_is
      ∙ (ap (λ (o : List Edit). o ++ trail read.bytes how seed (paths_past path first w.here.shapes)
      (points_past first w.here.shapes) w.here.next (entities_from read.bytes Outside pairs)) (e.goes path first)
      ∙ ap (λ (s : Step). trail read.bytes how seed (paths_past path first s.shapes) (points_past first s.shapes) s.next
      (entities_from read.bytes Outside pairs)) e.here_is)) in
      let rest_groups = new path first free Outside pairs in
      let groups : new path first place Entities (pair ∷ pairs) ≡ group ∷ rest_groups =
      ap (λ (t : List Edit). flat_map (stand read (extra ++ t)) (pair ∷ pairs)) trails
      ∙ ap (λ (own : List Group). own ++ rest_groups)
      (stand_single front pair pairs Outside free path first shapes known.are is_too) in
      let zero : coded (pos 0) group ≡ true = is_head in
      let outside : section_behind read.bytes Entities pair ≡ Outside =
      ap (λ (b : Bool). cond b Outside Entities) ends in
      let on : behind_group Entities group ≡ Outside = harmless_behind read extra pair Entities h ∙ outside in
      let entities : entities_told Entities (group ∷ rest_groups) ≡ told_from group rest_groups
      ∷ entities_told Outside rest_groups = begin_entity group rest_groups zero on in
      record {
        again = λ spot near. let a = later.again alone (inl refl) in record {
          outs = a.outs;
          walk_is = ap (λ (g : List Group). walk how (is_seeded seed) spot (entities_told Entities g)) groups
              ∙ (ap (walk how (is_seeded seed) spot) entities
              ∙ (turn_walks how (is_seeded seed) spot (told_from group rest_groups) (turn_of [])
              (entities_told Outside rest_groups) (e.turns first spot near (told_from group rest_groups) group_is)
              ∙ (sym (none_in_front (walk how (is_seeded seed) alone (entities_told Outside rest_groups)))
              ∙ a.walk_is)));
          same = a.same;
        };
        headed = λ begin. subst IsHeaded (sym groups) is_head;
        kept = subst (IsKept read.bytes Entities (pair ∷ pairs)) (sym groups)
            (kept_single read extra pair pairs Entities h (here_lines front pair pairs known.are) rest_groups
            (subst (λ (w : Where). IsKept read.bytes w pairs rest_groups) (sym outside) later.kept));
      }
    where
      begin_entity : (group : Group) (groups : List Group) → coded (pos 0) group ≡ true
          → behind_group Entities group ≡ Outside
          → entities_told Entities (group ∷ groups) ≡ told_from group groups ∷ entities_told Outside groups
      begin_entity group groups head on = rw (on, head) refl

-- ---- what is written of the entities of a drawing is read again, entity by entity
body_end : (start line past : ℕ) (body : List Pair) (pair : Pair) (pairs : List Pair)
    → AreTiles start line (body ++ pair ∷ pairs) past → pair.start ≡ past_pairs start body
body_end start line past [] pair pairs tiles = tiles.0
body_end start line past (first ∷ body) pair pairs tiles = body_end first.end (line + 2) past body pair pairs tiles.5

near_spot : (images : Runs) (first : ℕ) (place : WalkPlace) → (spot : Spot) × IsNear images first spot place
near_spot images first free = (alone, inl refl)
near_spot images first staying = (kept, refl)
near_spot images first (reading kind vertices) = (imaged_spot images first (reading kind vertices), refl)

-- what stands for an entity and for the pairs after it is read again, where each of the two is
joined : (bytes : List ℕ) (how : How) (seeded : Bool) (images : Runs) (head other : Pair) (body others tail : List Pair)
    (place next_place : WalkPlace) (first next_first : ℕ) (here more all : List Outline) (own rest groups : List Group)
    → tail ≡ body ++ (other ∷ others) → AreBody bytes body → is_end_of_section bytes head ≡ false
    → IsHeadFirst (other ∷ others) → groups ≡ own ++ rest → all ≡ here ++ more
    → ((spot : Spot) → IsNear images first spot place
    → StepWritten (group_in bytes head) how seeded images spot next_first next_place here own)
    → AreAgain bytes how seeded images next_first next_place Entities (other ∷ others) more rest
    → AreAgain bytes how seeded images first place Entities (head ∷ tail) all groups
joined bytes how seeded images head other body others tail place next_place first next_first here more all own rest
    groups are lines goes_on head_first groups_are all_are go later =
    let ns = near_spot images first place in
    let still = (go ns.0 ns.1).written in
    record {
      again = λ spot near.
          let sw = go spot near in
          let a = later.again sw.to sw.near in
          let wr = sw.written in
          record {
            outs = wr.outs ++ a.outs;
            walk_is = ap (λ (g : List Group). walk how seeded spot (entities_told Entities g)) (groups_are ∙ ap
                (λ (g : List Group). g ++ rest) wr.are) ∙ (ap (walk how seeded spot) (entities_front _ rest wr.whole
                (later.headed head_first)) ∙ (wr.walks (entities_told Entities rest) ∙ ap (next (in_front wr.outs))
                a.walk_is));
            same = subst (AreBack (wr.outs ++ a.outs)) (sym all_are)
                (back_both wr.outs a.outs here more wr.same a.same);
          };
      headed = λ begins. subst IsHeaded (sym (groups_are ∙ ap (λ (g : List Group). g ++ rest) still.are)) (headed_front
          _ rest still.whole (later.headed head_first));
      kept = subst (IsKept bytes Entities (head ∷ tail)) (sym (groups_are ∙ ap (λ (g : List Group). g ++ rest)
          still.are)) (kept_entity bytes head body _ tail _ rest are lines goes_on still.whole tt later.kept);
    }

module _ (read : Reading) (how : How) (seed : Option Pair) (count : ℕ) (follow : GroupsFollow)
    (good : AreGoodImages read.images count) (lights : LightsAreWritten read how seed count) (past : ℕ)
    (tiles : AreTiles 0 1 read.pairs past)
    (lines : AreInLines read.bytes read.pairs) (extra : List Edit)
    (harmless : (pair : Pair) → IsIn pair read.pairs → IsHarmless read extra pair) where
  abbrev State : List Pair → List Pair → Where → WalkPlace → ℕ → ℕ → List Shape → List PathRow → Type 0
  State front pairs section place path first shapes before =
      Known read how seed count follow good lights past tiles lines extra harmless front pairs section place path first
      shapes before

  abbrev Goal : Where → WalkPlace → ℕ → ℕ → List Shape → List Pair → Type 0
  Goal section place path first shapes pairs =
      Answer read how seed count follow good lights past tiles lines extra harmless section place path first shapes
      pairs

  abbrev made : ℕ → ℕ → WalkPlace → Where → List Pair → List Group
  made path first place section pairs = new read how seed count follow good lights past tiles lines extra harmless path
      first place section pairs

  -- an entity and those after it
  whole : (front : List Pair) (head next_pair : Pair) (pairs : List Pair) (place : WalkPlace) (path first : ℕ)
      (shapes : List Shape) (before : List PathRow)
      → State front (head ∷ next_pair ∷ pairs) Entities place path first shapes before
      → is_coded (pos 0) head ≡ true → is_end_of_section read.bytes head ≡ false
      → ((front_too pairs_too : List Pair) (place_too : WalkPlace) (path_too first_too : ℕ) (shapes_too : List Shape)
      (before_too : List PathRow) → length pairs_too < length (head ∷ next_pair ∷ pairs)
      → State front_too pairs_too Entities place_too path_too first_too shapes_too before_too
      → Goal Entities place_too path_too first_too shapes_too pairs_too)
      → Goal Entities place path first shapes (head ∷ next_pair ∷ pairs)
  whole front head next_pair pairs place path first shapes before known is_head goes_on rest =
      by_split (split_of (next_pair ∷ pairs)) where
        entity : Entity
        entity = entity_of head (next_pair ∷ pairs)

        at : (number : ℕ) × AreTiles head.start number (head ∷ next_pair ∷ pairs) past
        at = here_tiles read how seed count follow good lights past tiles lines extra harmless front head
            (next_pair ∷ pairs) known.are

        on : AreInLines read.bytes (head ∷ next_pair ∷ pairs)
        on = here_lines read how seed count follow good lights past tiles lines extra harmless front head
            (next_pair ∷ pairs) known.are

        set : IsSet read.bytes entity
        set = set_of read.bytes at.0 past head next_pair pairs at.1 on is_head

        by_rest : (behind_body : List Pair) → next_pair ∷ pairs ≡ entity.pairs ++ behind_body → IsHeadFirst behind_body
            → Goal Entities place path first shapes (head ∷ next_pair ∷ pairs)
        by_rest [] are head_first =
            let of = of_entity read.bytes head.end (at.0 + 2) past (next_pair ∷ pairs) at.1.5 on.1 in
            absurd (more_behind (next_pair ∷ pairs) entity.pairs [] are of.proper refl)
        by_rest (other ∷ others) are head_first =
            let entities_rest = entities_from read.bytes Entities (other ∷ others) in
            let first_step : entities_from read.bytes Entities (head ∷ next_pair ∷ pairs) ≡ entity
            ∷ entities_from read.bytes Entities (next_pair ∷ pairs) = rw (goes_on, is_head) refl in
            let same : entities_from read.bytes Entities (head ∷ next_pair ∷ pairs) ≡ entity ∷ entities_rest =
            first_step ∙ ap (λ (es : List Entity). entity ∷ es)
            (ap (entities_from read.bytes Entities) are
            ∙ entities_behind read.bytes entity.pairs (other ∷ others) set.lines.body) in
            let w = walked_on read.bytes how seed place entity entities_rest shapes
            (subst (λ (es : List Entity). walk_of read.bytes how seed place es ≡ Ok shapes) same known.is) in
            let silent = subst (SilentOn read.bytes extra) same known.silent in
            let path_too = paths_past path first w.here.shapes in
            let first_too = points_past first w.here.shapes in
            let all_pairs : read.pairs ≡ front ++ (head ∷ (entity.pairs ++ (other ∷ others))) = known.are
            ∙ ap (λ (ps : List Pair). front ++ (head ∷ ps)) are in
            let rows : read.sheet.paths ≡ before ++ rows_behind first (w.here.shapes ++ w.more) = known.rows
            ∙ ap (λ (s : List Shape). before ++ rows_behind first s) w.shapes_are in
            let inside : first + length (points_of (w.here.shapes ++ w.more)) ≤ count =
            subst (λ (s : List Shape). first + length (points_of s) ≤ count) w.shapes_are known.inside in
            let lone : DotsAlone read.images first (w.here.shapes ++ w.more) =
            subst (DotsAlone read.images first) w.shapes_are known.lone in
            let points = points_count first w.here.shapes w.more in
            let points_here = points_count first w.here.shapes [] in
            let nil_points : first + length (points_of (w.here.shapes ++ [])) ≡ first
            + length (points_of w.here.shapes) =
            ap (λ (s : List Shape). first + length (points_of s)) (append-nil w.here.shapes) in
            let found : IsFound read entity = record {
              set = set;
              goes_on = goes_on;
              found = entity_is read front past head (next_pair ∷ pairs) known.are tiles;
              front = front;
              behind = other ∷ others;
              are = all_pairs;
            } in
            let numbered : IsNumbered read count path first w.here.shapes = record {
              more = w.more;
              before = before;
              rows = rows;
              before_is = known.before_is;
              inside = omega arith;
              lone = dots_front read.images first w.here.shapes w.more lone;
            } in
            let own = own_edits path first place entity w.here in
            let trail_rest = trail read.bytes how seed path_too first_too w.here.next entities_rest in
            let shorter : length (other ∷ others) < length (head ∷ next_pair ∷ pairs) =
            omega (arith, ap length are, length-append entity.pairs (other ∷ others)) in
            let later = rest (front ++ (head ∷ entity.pairs)) (other ∷ others) w.here.next path_too first_too w.more
            (before ++ rows_behind first w.here.shapes) shorter (record {
              are = all_pairs ∙ sym (append_assoc front (head ∷ entity.pairs) (other ∷ others));
              is = w.more_is;
              silent = silent.1;
              rows = rows ∙ (ap (λ (r : List PathRow). before ++ r) (rows_both first w.here.shapes w.more)
                  ∙ sym (append_assoc before (rows_behind first w.here.shapes) (rows_behind first_too w.more)));
              before_is = length-append before (rows_behind first w.here.shapes)
                  ∙ (ap (λ (n : ℕ). n + length (rows_behind first w.here.shapes)) known.before_is
                  ∙ rows_count path first w.here.shapes);
              inside = omega arith;
              lone = dots_behind read.images first w.here.shapes w.more lone;
            }) in
            let groups : made path first place Entities (head ∷ next_pair ∷ pairs) ≡ written_for read own entity
            ++ made path_too first_too w.here.next Entities (other ∷ others) =
            let there = here_tiles read how seed count follow good lights past tiles lines extra harmless
            (front ++ (head ∷ entity.pairs)) other others
            (all_pairs ∙ sym (append_assoc front (head ∷ entity.pairs) (other ∷ others))) in
            let starts : other.start ≡ entity_end entity = body_end head.end (at.0 + 2) past entity.pairs other others
            (subst (λ (ps : List Pair). AreTiles head.end (at.0 + 2) ps past) are at.1.5) in
            let t = there.1 in
            let follows = tiles_follow other.end (there.0 + 2) others past t.5 in
            let own_within = (own_apart read.bytes how seed path first place entity w.here
            (laid head head.start past (next_pair ∷ pairs)
            (tiles_follow head.start at.0 (head ∷ next_pair ∷ pairs) past at.1)) w.step_is).within in
            let rest_within = trail_behind read how seed count follow good lights past tiles lines extra harmless
            Entities
            w.here.next path_too first_too w.more (entity_end entity) (other ∷ others)
            (subst (λ (n : ℕ). Follow n (other ∷ others) past) starts
            (tiles_follow other.start there.0 (other ∷ others) past t)) w.more_is in
            let no_text = (here_harmless read how seed count follow good lights past tiles lines extra harmless
            (front ++ (head ∷ entity.pairs)) other others
            (all_pairs ∙ sym (append_assoc front (head ∷ entity.pairs) (other ∷ others)))).no_text in
            ap (λ (es : List Entity). flat_map (stand read (extra ++ trail read.bytes how seed path first place es))
            (head ∷ next_pair ∷ pairs)) same
            ∙ (ap (λ (e : List Edit). flat_map (stand read (extra ++ e)) (head ∷ next_pair ∷ pairs))
            (trail_on read.bytes how seed path first place entity entities_rest w.here w.step_is)
            ∙ (ap (λ (ps : List Pair). flat_map (stand read (extra ++ (own ++ trail_rest))) (head ∷ ps)) are
            ∙ entity_groups read entity extra own trail_rest other others past set own_within rest_within
            (silent.0 goes_on)
            starts t.2 (omega (arith, t.2, t.3, t.4)) follows no_text)) in
            let go = λ (spot : Spot) (near : IsNear read.images first spot place).
            step_written read how seed count follow good lights entity entities_rest path first found spot place w.here
            w.more near w.step_is w.more_is numbered inside in
            joined read.bytes how (is_seeded seed) read.images head other entity.pairs others (next_pair ∷ pairs) place
            w.here.next first first_too (imaged_outlines read.images first w.here.shapes)
            (imaged_outlines read.images first_too w.more) (imaged_outlines read.images first shapes)
            (written_for read own entity) (made path_too first_too w.here.next Entities (other ∷ others))
            (made path first place Entities (head ∷ next_pair ∷ pairs)) are set.lines.body goes_on head_first groups
            (ap (imaged_outlines read.images first) w.shapes_are
            ∙ imaged_both read.images first w.here.shapes w.more) go later

        by_split : IsSplit (next_pair ∷ pairs) entity.pairs
            → Goal Entities place path first shapes (head ∷ next_pair ∷ pairs)
        by_split split = by_rest split.behind_body split.are split.first

  -- all pairs from here on
  pub all_again : (most : ℕ) (front pairs : List Pair) (section : Where) (place : WalkPlace) (path first : ℕ)
      (shapes : List Shape) (before : List PathRow) → length pairs ≤ most
      → State front pairs section place path first shapes before → Goal section place path first shapes pairs
  all_again most front [] section place path first shapes before few known = grind (arith, no_pairs)
  all_again zero front (pair ∷ pairs) section place path first shapes before few known = absurd (omega arith)
  all_again (suc most) front (pair ∷ pairs) section place path first shapes before few known =
      by_section section known (λ front_too pairs_too section_too place_too path_too first_too shapes_too before_too
      less state. all_again most front_too pairs_too section_too place_too path_too first_too shapes_too before_too
      less state) where
        alone_pair : (section : Where) → State front (pair ∷ pairs) section place path first shapes before
            → begins_entity section pair ≡ false
            → ((front_too pairs_too : List Pair) (section_too : Where) (place_too : WalkPlace) (path_too first_too : ℕ)
            (shapes_too : List Shape) (before_too : List PathRow) → length pairs_too ≤ most
            → State front_too pairs_too section_too place_too path_too first_too shapes_too before_too
            → Goal section_too place_too path_too first_too shapes_too pairs_too)
            → Goal section place path first shapes (pair ∷ pairs)
        alone_pair section known off rest =
            single read how seed count follow good lights past tiles lines extra harmless front pair pairs section place
            path first shapes before known off
            (λ state. rest (front ++ pair ∷ []) pairs (section_behind read.bytes section pair) place path first shapes
            before
            (omega arith) state)

        in_entities : (is_head ends : Bool) → is_coded (pos 0) pair ≡ is_head → is_end_of_section read.bytes pair ≡ ends
            → State front (pair ∷ pairs) Entities place path first shapes before
            → ((front_too pairs_too : List Pair) (section_too : Where) (place_too : WalkPlace) (path_too first_too : ℕ)
            (shapes_too : List Shape) (before_too : List PathRow) → length pairs_too ≤ most
            → State front_too pairs_too section_too place_too path_too first_too shapes_too before_too
            → Goal section_too place_too path_too first_too shapes_too pairs_too)
            → (more : List Pair) → more ≡ pairs → Goal Entities place path first shapes (pair ∷ pairs)
        in_entities false ends head_is ends_is known rest more more_is = alone_pair Entities known head_is rest
        in_entities true true head_is ends_is known rest more more_is =
            section_end read how seed count follow good lights past tiles lines extra harmless front pair pairs place
            path first shapes before known head_is ends_is
            (λ state. rest (front ++ pair ∷ []) pairs Outside free path first shapes before (omega arith) state)
        in_entities true false head_is ends_is known rest [] more_is =
            let on = here_lines read how seed count follow good lights past tiles lines extra harmless front pair pairs
            known.are in
            let last = last_ends read.bytes pair (subst (λ (ps : List Pair). AreInLines read.bytes (pair ∷ ps))
            (sym more_is) on) in
            let both : true ≡ false = sym last ∙ ends_is in absurd (cc)
        in_entities true false head_is ends_is known rest (next_pair ∷ others) more_is =
            subst (λ (ps : List Pair). Goal Entities place path first shapes (pair ∷ ps)) more_is
            (whole front pair next_pair others place path first shapes before
            (subst (λ (ps : List Pair). State front (pair ∷ ps) Entities place path first shapes before)
            (sym more_is) known) head_is ends_is
            (λ front_too pairs_too place_too path_too first_too shapes_too before_too less state.
            rest front_too pairs_too Entities place_too path_too first_too shapes_too before_too
            (omega (arith, ap length more_is, less)) state))

        by_section : (section : Where) → State front (pair ∷ pairs) section place path first shapes before
            → ((front_too pairs_too : List Pair) (section_too : Where) (place_too : WalkPlace) (path_too first_too : ℕ)
            (shapes_too : List Shape) (before_too : List PathRow) → length pairs_too ≤ most
            → State front_too pairs_too section_too place_too path_too first_too shapes_too before_too
            → Goal section_too place_too path_too first_too shapes_too pairs_too)
            → Goal section place path first shapes (pair ∷ pairs)
        by_section Outside known rest = alone_pair Outside known refl rest
        by_section Begun known rest = alone_pair Begun known refl rest
        by_section Header known rest = alone_pair Header known refl rest
        by_section Other known rest = alone_pair Other known refl rest
        by_section Entities known rest = in_entities (is_coded (pos 0) pair) (is_end_of_section read.bytes pair) refl
            refl
            known rest pairs refl
