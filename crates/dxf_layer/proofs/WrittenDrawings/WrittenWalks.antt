-- What is written of a walk, and the next handle in it.
use Rattle.std.proofs.Common.{◌≡◌, ℕ, Bool, true, false, cond, refl, ap, sym, ◌∙◌, List, [], ◌∷◌, ◌++◌, ◌+◌, ◌≤◌, ℤ}
use Rattle.std.proofs.Common.{pos, subst, filter, flat_map, length, Option, Some, Ok, arith, inl, inr, None}
use Rattle.std.proofs.Common.{bytes_eq, ◌==◌, ◌<◌, ◌^◌, zero, suc, take}
use Rattle.std.specs.Prelude.{⊤, ◌||◌, ◌&&◌, ◌⊎◌}
use Rattle.std.specs.List.{list_any}
use Rattle.std.proofs.lemmas.List.{append_assoc, length-append, length-map}
use Rattle.std.proofs.lemmas.Bool.{or_right}
use Rattle.std.proofs.lemmas.Bool.Decides.{Decides-int_eq, nat_tests}
use Rattle.std.specs.Ordering.{int_eq}
use Rattle.plain_laws.proofs.Booleans.{and_first}
use Rattle.sheet_base.specs.declared.edits.Edit.{Edit}
use Rattle.sheet_base.specs.declared.flags.How.{How}
use Rattle.sheet_base.specs.declared.paths.PathKind.{PathKind}
use Rattle.sheet_base.specs.ImageFits.{Runs}
use Rattle.sheet_base.specs.declared.edits.What.TheVariants as edits
use Rattle.dxf_pairs.specs.declared.pairs.Pair.{Pair}
use Rattle.dxf_pairs.specs.Groups.{Group, group_in, value_in}
use Rattle.dxf_pairs.specs.Pairs.{ends_drawing}
use Rattle.dxf_pairs.specs.InLines.{AreInLines, EndsDrawing}
use Rattle.dxf_pairs.specs.Laws.{AreTiles}
use Rattle.dxf_entities.specs.declared.section_places.Where.{Where}
use Rattle.dxf_entities.specs.declared.section_places.Where.TheVariants.{Outside, Header, Entities, Begun, Other}
use Rattle.dxf_entities.specs.Sections.{is_end_of_section}
use Rattle.dxf_entities.specs.Seeds.{as_seed, seed_of, seed_edits}
use Rattle.dxf_entities.specs.SectionPlaces.{seed_from, section_behind, begins_entity, names_seed, entities_from}
use Rattle.dxf_entities.specs.SectionPlaces.{entities_of}
use Rattle.dxf_entities.specs.declared.drawing.VertexFields.{VertexFields}
use Rattle.dxf_entities.specs.Entities.{Entity, is_coded, entity_of, entity_end}
use Rattle.dxf_entities.specs.Shapes.{Shape, rows_of, value_edit}
use Rattle.dxf_entities.specs.Handles.{is_handle}
use Rattle.dxf_entities.specs.declared.handles.TheConstants.{MOST_DIGITS}
use Rattle.dxf_copies.specs.PairGroups.{begins_at, covers, is_of_value}
use Rattle.dxf_copies.specs.Rendering.{Reading, text_of, next_behind}
use Rattle.dxf_layer.specs.InsideWalks.{WalkPlace, reading, Step, walk_of}
use Rattle.dxf_entities.proofs.GroupShapes.{is_seeded, Outline, Told}
use Rattle.dxf_entities.proofs.WrittenGroups.{ends, handle_written}
use Rattle.dxf_entities.proofs.Members.{IsIn, Follow, Lies, lies}
use Rattle.dxf_entities.proofs.WholeShapes.{path_behind, paths_past, points_past}
use Rattle.dxf_entities.proofs.OutlineEnds.{rows_behind, points_of}
use Rattle.dxf_entities.proofs.Sections.{IsAside, AreAside, front_follows, seed_in, seed_aside}
use Rattle.dxf_entities.proofs.SectionSeeds.{seed_is, found_as}
use Rattle.dxf_copies.proofs.GroupDrawings.{begins_seeded, seeded_from, walk, entities_told, behind_group, behind_told}
use Rattle.dxf_copies.proofs.GroupDrawings.{begins_told, is_group, names_next, groups_told, HaveNoHead, AreWholeTold}
use Rattle.dxf_copies.proofs.GroupDrawings.{Spot, AreBack, IsHeaded}
use Rattle.dxf_copies.proofs.SplicedPairs.{AreBody}
use Rattle.dxf_copies.proofs.ValueTurns.{stand, AreSilent, stand_silent, IsPlaced, edit_behind, edit_before, AreSome}
use Rattle.dxf_copies.proofs.ValueTurns.{some_at, one_of_three, same_place}
use Rattle.dxf_copies.proofs.EntityPlaces.{some_between, ends_later}
use Rattle.dxf_layer.proofs.EntityWalks.StepGroups.{walked_on, ReadingStep, one_vertex, the_end, reading_step}
use Rattle.dxf_layer.proofs.WrittenDrawings.EntityCases.{DotsAlone}
use Rattle.dxf_layer.proofs.WrittenDrawings.StepWritten.{IsNear}

-- ---- what is written has a next handle where the drawing has one, and comes to an end
abbrev pub HasSome : List Pair → Type 0
HasSome [] = ⊥
HasSome (pair ∷ pairs) = ⊤

-- the groups in the place of the pairs from here on give a next handle where these do, and one of them ends the drawing
pub record IsKept (bytes : List ℕ) (place : Where) (pairs : List Pair) (groups : List Group) : Type 0 where
  pub begins : place ≡ Header → begins_seeded groups ≡ is_seeded (as_seed bytes pairs)
  pub seeded : seeded_from place groups ≡ is_seeded (seed_from bytes place pairs)
  pub ending : HasSome pairs → list_any ends groups ≡ true

pub kept_none : (bytes : List ℕ) (place : Where) → IsKept bytes place [] []
kept_none bytes place = record { begins = λ is. refl; seeded = refl; ending = λ some. absurd some }

pub any_behind : (groups more : List Group) → list_any ends more ≡ true → list_any ends (groups ++ more) ≡ true
any_behind [] more is = is
any_behind (group ∷ groups) more is = or_right (ends group) (list_any ends (groups ++ more)) (any_behind groups more is)

-- no entity gives the next handle
seeded_body : (groups rest : List Group) → HaveNoHead groups
    → seeded_from Entities (groups ++ rest) ≡ seeded_from Entities rest
seeded_body [] rest none = refl
seeded_body (group ∷ groups) rest none = grind (arith, (seeded_body groups rest none.1))

seeded_front : (entities : List Told) (rest : List Group) → AreWholeTold entities
    → seeded_from Entities (groups_told entities ++ rest) ≡ seeded_from Entities rest
seeded_front [] rest whole = refl
seeded_front (entity ∷ entities) rest whole =
    grind (arith, append_assoc, groups_told, seeded_from, seeded_body, (seeded_front entities rest whole.1))

seed_body : (bytes : List ℕ) (body rest : List Pair) → AreBody bytes body
    → seed_from bytes Entities (body ++ rest) ≡ seed_from bytes Entities rest
seed_body bytes [] rest are = refl
seed_body bytes (pair ∷ body) rest are = grind (arith, (seed_body bytes body rest are.1.1))

-- an entity and those after it
pub kept_entity : (bytes : List ℕ) (head : Pair) (body rest pairs : List Pair) (entities : List Told)
    (groups : List Group) → pairs ≡ body ++ rest → AreBody bytes body → is_end_of_section bytes head ≡ false
    → AreWholeTold entities → HasSome rest
    → IsKept bytes Entities rest groups → IsKept bytes Entities (head ∷ pairs) (groups_told entities ++ groups)
kept_entity bytes head body rest pairs entities groups are lines goes_on whole some kept =
    grind (arith, seed_body, seeded_front, is_seeded, any_behind, groups_told)

-- ---- the walk over what is written of a drawing
-- rows, points and dots of shapes and of those after them
pub rows_both : (first : ℕ) (shapes more : List Shape)
    → rows_behind first (shapes ++ more) ≡ rows_behind first shapes ++ rows_behind (points_past first shapes) more
rows_both first [] more = refl
rows_both first (shape ∷ shapes) more =
    grind (arith, append_assoc, rows_behind, points_past, (rows_both (first + length shape.points) shapes more))

pub rows_count : (path first : ℕ) (shapes : List Shape)
    → path + length (rows_behind first shapes) ≡ paths_past path first shapes
rows_count path first [] = omega arith
rows_count path first (shape ∷ shapes) =
    let size = length-append (rows_of shape.kind first (first + length shape.points))
    (rows_behind (first + length shape.points) shapes) in
    let here : path + length (rows_behind first (shape ∷ shapes)) ≡ path_behind path first shape
    + length (rows_behind (first + length shape.points) shapes) = omega arith in
    here ∙ rows_count (path_behind path first shape) (first + length shape.points) shapes

pub points_count : (first : ℕ) (shapes more : List Shape)
    → points_past first shapes + length (points_of more) ≡ first + length (points_of (shapes ++ more))
points_count first [] more = refl
points_count first (shape ∷ shapes) more =
    let size = length-append shape.points (points_of (shapes ++ more)) in
    points_count (first + length shape.points) shapes more ∙ omega arith

pub dots_front : (images : Runs) (first : ℕ) (shapes more : List Shape) → DotsAlone images first (shapes ++ more)
    → DotsAlone images first shapes
dots_front images first [] more all = tt
dots_front images first (shape ∷ shapes) more all =
    (all.0, dots_front images (first + length shape.points) shapes more all.1)

pub dots_behind : (images : Runs) (first : ℕ) (shapes more : List Shape) → DotsAlone images first (shapes ++ more)
    → DotsAlone images (points_past first shapes) more
dots_behind images first [] more all = all
dots_behind images first (shape ∷ shapes) more all = dots_behind images (first + length shape.points) shapes more all.1

-- the points so far of a polyline are among those that are read
pub enough_points : (bytes : List ℕ) (how : How) (seed : Option Pair) (kind : PathKind) (vertices : List VertexFields)
    (entities : List Entity) (shapes : List Shape) → walk_of bytes how seed (reading kind vertices) entities ≡ Ok shapes
    → length vertices ≤ length (points_of shapes)
enough_points bytes how seed kind vertices [] shapes is = absurd (cc)
enough_points bytes how seed kind vertices (entity ∷ entities) shapes is =
    let w = walked_on bytes how seed (reading kind vertices) entity entities shapes is in
    by_step w.here w.more w.shapes_are w.more_is (reading_step bytes how seed kind vertices entity w.here w.step_is)
    (λ more_vertices rest more_is. enough_points bytes how seed kind more_vertices entities rest more_is) where
      by_step : (here : Step) (more : List Shape) → shapes ≡ here.shapes ++ more
          → walk_of bytes how seed here.next entities ≡ Ok more → ReadingStep bytes how seed kind vertices entity here
          → ((more_vertices : List VertexFields) (rest : List Shape)
          → walk_of bytes how seed (reading kind more_vertices) entities ≡ Ok rest
          → length more_vertices ≤ length (points_of rest)) → length vertices ≤ length (points_of shapes)
      by_step here more are more_is (the_end end) later = grind (arith, length-append, points_of, length-map)
      by_step here more are more_is (one_vertex vertex) later =
          let same = are ∙ ap (λ (h : Step). h.shapes ++ more) vertex.here_is in
          let rest : walk_of bytes how seed (reading kind (vertices ++ vertex.vertex ∷ [])) entities ≡ Ok more =
          subst (λ (h : Step). walk_of bytes how seed h.next entities ≡ Ok more) vertex.here_is more_is in
          let enough = later (vertices ++ vertex.vertex ∷ []) more rest in
          let size = length-append vertices (vertex.vertex ∷ []) in
          subst (λ (s : List Shape). length vertices ≤ length (points_of s)) (sym same) (omega arith)

-- edits that change no more than values of code 5
pub record IsHarmless (read : Reading) (extra : List Edit) (pair : Pair) : Type 0 where
  pub value : List ℕ
  pub no_text : filter (begins_at pair) extra ≡ []
  pub stand_is : stand read extra pair ≡ record { code = pair.code; value = value } ∷ []
  pub same : is_coded (pos 5) pair ≡ false → value ≡ value_in read.bytes pair
  pub handle : is_handle value ≡ is_handle (value_in read.bytes pair)

-- the pair goes on as it did
five_behind : (place : Where) (value other : List ℕ) → behind_group place (record { code = pos 5; value = value })
    ≡ behind_group place (record { code = pos 5; value = other })
five_behind Outside value other = refl
five_behind Begun value other = refl
five_behind Header value other = refl
five_behind Entities value other = refl
five_behind Other value other = refl

pub harmless_behind : (read : Reading) (extra : List Edit) (pair : Pair) (place : Where)
    → (h : IsHarmless read extra pair) → behind_group place (record { code = pair.code; value = h.value })
    ≡ section_behind read.bytes place pair
harmless_behind read extra pair place h = by_test (is_coded (pos 5) pair) refl ∙ sym (behind_told _ place pair) where
  by_test : (five : Bool) → is_coded (pos 5) pair ≡ five
      → behind_group place (record { code = pair.code; value = h.value })
      ≡ behind_group place (group_in read.bytes pair)
  by_test true five =
      let code : pair.code ≡ pos 5 = (Decides-int_eq pair.code (pos 5)).0 five in
      grind (arith, behind_group, five_behind)
  by_test false five = ap (λ (v : List ℕ). behind_group place (record { code = pair.code; value = v })) (h.same five)

pub begins_same : (read : Reading) (place : Where) (pair : Pair) (value : List ℕ)
    → begins_told place (record { code = pair.code; value = value }) ≡ begins_entity place pair
begins_same read Outside pair value = refl
begins_same read Begun pair value = refl
begins_same read Header pair value = refl
begins_same read Entities pair value = refl
begins_same read Other pair value = refl

-- edits that have nothing to do with the entities
abbrev pub SilentOn : List ℕ → List Edit → List Entity → Type 0
SilentOn bytes extra [] = ⊤
SilentOn bytes extra (entity ∷ entities) =
    (is_end_of_section bytes entity.head ≡ false → (pair : Pair) → IsIn pair (entity.head ∷ entity.pairs)
    → AreSilent pair extra) × SilentOn bytes extra entities

-- the walk over the groups has the ends of the images
pub record IsAgain (how : How) (seeded : Bool) (spot : Spot) (place : Where) (wanted : List Outline)
    (groups : List Group) : Type 0 where
  pub outs : List Outline
  pub walk_is : walk how seeded spot (entities_told place groups) ≡ Some outs
  pub same : AreBack outs wanted

abbrev pub BeginsWith : Where → List Pair → Type 0
BeginsWith place [] = ⊤
BeginsWith place (pair ∷ pairs) = begins_entity place pair ≡ true

pub record AreAgain (bytes : List ℕ) (how : How) (seeded : Bool) (images : Runs) (first : ℕ) (spot_place : WalkPlace)
    (place : Where) (pairs : List Pair) (wanted : List Outline) (groups : List Group) : Type 0 where
  pub again : (spot : Spot) → IsNear images first spot spot_place → IsAgain how seeded spot place wanted groups
  pub headed : BeginsWith place pairs → IsHeaded groups
  pub kept : IsKept bytes place pairs groups

pub in_middle : (front : List Pair) (pair : Pair) (pairs : List Pair) → IsIn pair (front ++ pair ∷ pairs)
in_middle [] pair pairs = inl refl
in_middle (first ∷ front) pair pairs = inr (in_middle front pair pairs)

pub each_same : (f g : Pair → List Group) (pairs : List Pair) → ((pair : Pair) → IsIn pair pairs → f pair ≡ g pair)
    → flat_map f pairs ≡ flat_map g pairs
each_same f g [] each = refl
each_same f g (pair ∷ pairs) each = ap (λ (own : List Group). own ++ flat_map f pairs) (each pair (inl refl))
    ∙ ap (λ (more : List Group). g pair ++ more) (each_same f g pairs (λ other is_in. each other (inr is_in)))

-- ---- A pair that is in no entity, in front of others, for the next handle and the end of the drawing
some_seed : (good : Bool) (pair : Pair) → good ≡ is_seeded (cond good (Some pair) None)
some_seed true pair = refl
some_seed false pair = refl

-- the pair names the next handle as it did
names_same : (read : Reading) (extra : List Edit) (pair : Pair) (place : Where) → (h : IsHarmless read extra pair)
    → names_next place (record { code = pair.code; value = h.value }) ≡ names_seed read.bytes place pair
names_same read extra pair Outside h = refl
names_same read extra pair Begun h = refl
names_same read extra pair Entities h = refl
names_same read extra pair Other h = refl
names_same read extra pair Header h = grind (arith, is_group, Decides-int_eq, bytes_eq)

header_stays : (bytes : List ℕ) (place : Where) (pair : Pair) → names_seed bytes place pair ≡ true
    → section_behind bytes place pair ≡ Header
header_stays bytes Outside pair is = absurd (cc)
header_stays bytes Begun pair is = absurd (cc)
header_stays bytes Entities pair is = absurd (cc)
header_stays bytes Other pair is = absurd (cc)
header_stays bytes Header pair is = grind (arith, and_first, Decides-int_eq)

pub kept_single : (read : Reading) (extra : List Edit) (pair : Pair) (pairs : List Pair) (place : Where)
    → (h : IsHarmless read extra pair) → AreInLines read.bytes (pair ∷ pairs) → (groups : List Group)
    → IsKept read.bytes (section_behind read.bytes place pair) pairs groups
    → IsKept read.bytes place (pair ∷ pairs) (record { code = pair.code; value = h.value } ∷ groups)
kept_single read extra pair pairs place h lines groups rest = record {
  begins = λ is. ap (λ (good : Bool). is_coded (pos 5) pair && good) h.handle ∙ some_seed _ pair;
  seeded = ap (λ (b : Bool). cond b (begins_seeded groups) (seeded_from (behind_group place group) groups))
      (names_same read extra pair place h)
      ∙ (ap (λ (w : Where). cond (names_seed read.bytes place pair) (begins_seeded groups) (seeded_from w groups))
      (harmless_behind read extra pair place h) ∙ by_names (names_seed read.bytes place pair) refl);
  ending = λ some. by_more pairs lines rest.ending;
} where
  group : Group
  group = record { code = pair.code; value = h.value }

  by_names : (names : Bool) → names_seed read.bytes place pair ≡ names
      → cond names (begins_seeded groups) (seeded_from (section_behind read.bytes place pair) groups)
      ≡ is_seeded (cond names (as_seed read.bytes pairs)
      (seed_from read.bytes (section_behind read.bytes place pair) pairs))
  by_names true is = rest.begins (header_stays _ place pair is)
  by_names false is = rest.seeded

  by_more : (more : List Pair) → AreInLines read.bytes (pair ∷ more) → (HasSome more → list_any ends groups ≡ true)
      → list_any ends (group ∷ groups) ≡ true
  by_more [] last later =
      let zero : is_coded (pos 0) pair ≡ true = and_first _ _ last.last in
      let code : pair.code ≡ pos 0 = (Decides-int_eq pair.code (pos 0)).0 zero in
      let no_five : is_coded (pos 5) pair ≡ false = ap (λ (c : ℤ). int_eq c (pos 5)) code in
      let here : ends group ≡ true = ap (ends_drawing pair.code) (h.same no_five) ∙ last.last in
      ap (λ (b : Bool). b || list_any ends groups) here
  by_more (next ∷ more) both later = or_right (ends group) (list_any ends groups) (later tt)

-- ---- the edit of the next handle is harmless, and has nothing to do with the entities
-- the text of the next handle is a handle
seed_is_handle : (read : Reading) (seed : Pair) → is_handle (value_in read.bytes seed) ≡ true
    → next_behind read < 16 ^ MOST_DIGITS → is_handle (text_of read (value_edit edits.NextHandle seed)) ≡ true
seed_is_handle read seed is few = grind (arith, handle_written)

none_harmless : (read : Reading) (pair : Pair) → IsHarmless read [] pair
none_harmless read pair = record {
  value = value_in read.bytes pair;
  no_text = refl;
  stand_is = refl;
  same = λ off. refl;
  handle = refl;
}

-- the edit of the next handle, at any of the pairs
seed_harmless : (read : Reading) (from past : ℕ) → Follow from read.pairs past → AreSome read.pairs → (seed : Pair)
    → IsIn seed read.pairs → is_coded (pos 5) seed ≡ true → is_handle (value_in read.bytes seed) ≡ true
    → next_behind read < 16 ^ MOST_DIGITS → (pair : Pair)
    → IsIn pair read.pairs → IsHarmless read (value_edit edits.NextHandle seed ∷ []) pair
seed_harmless read from past follow some seed seed_in five is_next few pair is_in =
    by_three (one_of_three from pair seed read.pairs past follow is_in seed_in) where
      own : Lies from pair past
      own = lies from pair read.pairs past follow is_in

      place : Lies from seed past
      place = lies from seed read.pairs past follow seed_in

      edit : Edit
      edit = value_edit edits.NextHandle seed

      placed : IsPlaced pair
      placed = record {
        code = own.code;
        value = own.value;
        inside = own.inside;
        some = some_at pair read.pairs some is_in;
      }

      silent : AreSilent pair (edit ∷ []) → IsHarmless read (edit ∷ []) pair
      silent all =
          let off = all.0.begins in
          record {
            value = value_in read.bytes pair;
            no_text = rw off refl;
            stand_is = stand_silent read pair (edit ∷ []) all;
            same = λ no_five. refl;
            handle = refl;
          }

      at_seed : (p : Pair) → p ≡ seed → IsPlaced p → IsHarmless read (edit ∷ []) p
      at_seed p is p_placed =
          let c = p_placed.code in
          let s : edit.start ≡ p.value = ap (λ (q : Pair). q.value) (sym is) in
          let no_begin : begins_at p edit ≡ false = grind (arith, nat_tests, c, s) in
          let no_cover : covers p edit ≡ false = grind (arith, nat_tests, c, s) in
          let here : is_of_value p edit ≡ true = ap (λ (n : ℕ). n == p.value) s ∙ same_place p.value in
          record {
            value = text_of read edit;
            no_text = rw no_begin refl;
            stand_is = rw (no_begin, no_cover, here) refl;
            same = λ no_five. let both : true ≡ false = sym five
                ∙ (ap (λ (q : Pair). is_coded (pos 5) q) (sym is) ∙ no_five) in absurd (cc);
            handle = seed_is_handle read seed is_next few
                ∙ sym (ap (λ (q : Pair). is_handle (value_in read.bytes q)) is ∙ is_next);
          }

      by_three : (pair ≡ seed) ⊎ ((pair.end ≤ seed.start) ⊎ (seed.end ≤ pair.start)) → IsHarmless read (edit ∷ []) pair
      by_three (inl is) = at_seed pair is placed
      by_three (inr (inl before)) = silent (edit_behind pair edit placed (omega (arith, place.code, before)), tt)
      by_three (inr (inr behind)) =
          let later = some_at seed read.pairs some seed_in in
          silent (edit_before pair edit placed (omega (arith, later, behind)) (omega (arith, place.inside, behind)), tt)

-- ---- the edit of the next handle has nothing to do with the entities of a drawing, and is harmless elsewhere
never_both : (b : Bool) → (b && false) ≡ true → ⊥
never_both true is = cc
never_both false is = cc

last_value : (bytes : List ℕ) (pair : Pair) → EndsDrawing bytes pair → value_in bytes pair ≡ [] → ⊥
last_value bytes pair last none = never_both _ (sym (ap (ends_drawing pair.code) none) ∙ last.last)

-- the value of each pair of a drawing begins before the pair ends
pub pairs_some : (bytes : List ℕ) (start line past : ℕ) (pairs : List Pair) → AreTiles start line pairs past
    → AreInLines bytes pairs → AreSome pairs
pairs_some bytes start line past [] tiles lines = tt
pairs_some bytes start line past (pair ∷ []) tiles last = grind (arith, some_between, last_value)
pairs_some bytes start line past (pair ∷ next ∷ pairs) tiles lines =
    let later = ends_later bytes pair lines.0 tiles.4 in
    (omega (arith, tiles.3, later), pairs_some bytes pair.end (line + 2) past (next ∷ pairs) tiles.5 lines.1)

some_taken : (n : ℕ) (pairs : List Pair) → AreSome pairs → AreSome (take n pairs)
some_taken zero pairs some = tt
some_taken (suc n) [] some = tt
some_taken (suc n) (pair ∷ pairs) some = (some.0, some_taken n pairs some.1)

silent_entity : (bytes : List ℕ) (seed : Pair) (low high : ℕ) → Lies low seed high → seed.value < seed.end
    → (entity : Entity) → Follow entity.head.start (entity.head ∷ entity.pairs) (entity_end entity)
    → AreSome (entity.head ∷ entity.pairs)
    → IsAside seed.start seed.end bytes entity → is_end_of_section bytes entity.head ≡ false → (pair : Pair)
    → IsIn pair (entity.head ∷ entity.pairs) → AreSilent pair (value_edit edits.NextHandle seed ∷ [])
silent_entity bytes seed low high place later entity follow some aside goes_on pair is_in = by_side aside where
  at : Lies entity.head.start pair (entity_end entity)
  at = lies entity.head.start pair (entity.head ∷ entity.pairs) (entity_end entity) follow is_in

  placed : IsPlaced pair
  placed = record {
    code = at.code;
    value = at.value;
    inside = at.inside;
    some = some_at pair (entity.head ∷ entity.pairs) some is_in;
  }

  by_side : IsAside seed.start seed.end bytes entity → AreSilent pair (value_edit edits.NextHandle seed ∷ [])
  by_side (inr ends) = let both : true ≡ false = sym ends ∙ goes_on in absurd (cc)
  by_side (inl (inl before)) = (
    edit_behind pair (value_edit edits.NextHandle seed) placed (omega (arith, at.ends, before, place.code)),
    tt,
  )
  by_side (inl (inr behind)) = (
    edit_before pair (value_edit edits.NextHandle seed) placed
        (omega (arith, later, behind, at.begins)) (omega (arith, place.inside, behind, at.begins)),
    tt,
  )

silent_from : (bytes : List ℕ) (seed : Pair) (low high : ℕ) → Lies low seed high → seed.value < seed.end
    → (pairs : List Pair) (place : Where) (from past : ℕ) → Follow from pairs past → AreSome pairs
    → AreAside seed.start seed.end bytes (entities_from bytes place pairs)
    → SilentOn bytes (value_edit edits.NextHandle seed ∷ []) (entities_from bytes place pairs)
silent_from bytes seed low high at later [] place from past follow some aside = tt
silent_from bytes seed low high at later (pair ∷ pairs) place from past follow some aside =
    by_test (begins_entity place pair) aside (silent_from bytes seed low high at later pairs
    (section_behind bytes place pair)
    pair.end past follow.4 some.1) where
      entity : Entity
      entity = entity_of pair pairs

      own : Follow pair.start (pair ∷ entity.pairs) (entity_end entity)
      own = grind (arith, front_follows)

      by_test : (begins : Bool) → AreAside seed.start seed.end bytes
          (cond begins (entity ∷ entities_from bytes (section_behind bytes place pair) pairs)
          (entities_from bytes (section_behind bytes place pair) pairs))
          → (AreAside seed.start seed.end bytes (entities_from bytes (section_behind bytes place pair) pairs)
          → SilentOn bytes (value_edit edits.NextHandle seed ∷ [])
          (entities_from bytes (section_behind bytes place pair) pairs))
          → SilentOn bytes (value_edit edits.NextHandle seed ∷ [])
          (cond begins (entity ∷ entities_from bytes (section_behind bytes place pair) pairs)
          (entities_from bytes (section_behind bytes place pair) pairs))
      by_test true all rest = (
        silent_entity bytes seed low high at later entity own (some.0, some_taken _ pairs some.1) all.0,
        rest all.1,
      )
      by_test false all rest = rest all

nothing_silent : (bytes : List ℕ) (entities : List Entity) → SilentOn bytes [] entities
nothing_silent bytes [] = tt
nothing_silent bytes (entity ∷ entities) = (λ goes_on pair is_in. tt, nothing_silent bytes entities)

pub seed_silent : (bytes : List ℕ) (pairs : List Pair) (past : ℕ) → Follow 0 pairs past → AreSome pairs
    → (seed : Option Pair) → seed_of bytes pairs ≡ seed → SilentOn bytes (seed_edits seed) (entities_of bytes pairs)
seed_silent bytes pairs past follow some None is = nothing_silent bytes _
seed_silent bytes pairs past follow some (Some seed) is =
    let found = found_as bytes pairs _ is in
    let is_in = seed_in bytes pairs Outside seed found in
    silent_from bytes seed 0 past (lies 0 seed pairs past follow is_in) (some_at seed pairs some is_in) pairs Outside 0
    past follow some (seed_aside bytes pairs seed Outside 0 past follow found)

-- the next handle has its code
first_five : (bytes : List ℕ) (pairs : List Pair) (seed : Pair) → as_seed bytes pairs ≡ Some seed
    → is_coded (pos 5) seed ≡ true
first_five bytes [] seed is = absurd (cc)
first_five bytes (pair ∷ pairs) seed is = grind arith

seed_five : (bytes : List ℕ) (place : Where) (pairs : List Pair) (seed : Pair) → seed_from bytes place pairs ≡ Some seed
    → is_coded (pos 5) seed ≡ true
seed_five bytes place [] seed is = absurd (cc)
seed_five bytes place (pair ∷ pairs) seed is =
    grind (arith, first_five, (seed_five bytes (section_behind bytes place pair) pairs seed))

pub seed_no_harm : (read : Reading) (past : ℕ) → Follow 0 read.pairs past → AreSome read.pairs
    → next_behind read < 16 ^ MOST_DIGITS → (seed : Option Pair) → seed_of read.bytes read.pairs ≡ seed → (pair : Pair)
    → IsIn pair read.pairs → IsHarmless read (seed_edits seed) pair
seed_no_harm read past follow some few None is pair is_in = none_harmless read pair
seed_no_harm read past follow some few (Some seed) is pair is_in =
    let found = found_as read.bytes read.pairs (Some seed) is in
    grind (arith, seed_harmless, seed_in, seed_five, seed_is)
