-- Polylines with vertices in fields: what is written of their fields is read again.
use Rattle.std.proofs.Common.{◌≡◌, ℕ, ◌+◌, ◌<◌, ◌≤◌, pos, Bool, true, false, cond, refl, List, [], ◌∷◌, ◌++◌, None}
use Rattle.std.proofs.Common.{Some, Result, Ok, arith, ℤ, ap, sym, ◌∙◌, subst, flat_map, length, Option, Err, inl}
use Rattle.std.proofs.Common.{inr, drop}
use Rattle.std.specs.Prelude.{◌||◌, ⊤, nat_lt}
use Rattle.std.specs.List.{prefix_len}
use Rattle.std.proofs.Math.Seq.{take-append_seam}
use Rattle.std.proofs.lemmas.List.{append_assoc}
use Rattle.std.proofs.lemmas.Bool.Decides.{nat_tests, Decides-int_eq}
use Rattle.std.proofs.lemmas.Bool.{and_parts}
use Rattle.mm_decimal.specs.MetresTexts.{mm_text}
use Rattle.plane_base.specs.declared.shapes.Pt.{Pt}
use Rattle.sheet_base.specs.declared.faults.LayerFault.{LayerFault}
use Rattle.sheet_base.specs.declared.faults.LayerFault.TheVariants as faults
use Rattle.sheet_base.specs.ImageFits.{Runs}
use Rattle.sheet_base.specs.declared.edits.Edit.{Edit}
use Rattle.sheet_base.specs.declared.edits.What.TheVariants as edits
use Rattle.sheet_base.specs.Faults.{and_then}
use Rattle.dxf_pairs.specs.declared.pairs.Pair.{Pair}
use Rattle.dxf_pairs.specs.Groups.{Group, group_in, groups_of, value_in}
use Rattle.dxf_pairs.specs.Lines.{between}
use Rattle.dxf_pairs.specs.Laws.{AreTiles}
use Rattle.dxf_pairs.specs.InLines.{StandsInLines, GroupsFollow}
use Rattle.dxf_entities.specs.declared.drawing.VertexFields.{VertexFields}
use Rattle.dxf_entities.specs.Entities.{is_coded, past_pairs}
use Rattle.dxf_entities.specs.Polylines.{is_group_code, fault_in_group, first_fault, past_group, vertex_of}
use Rattle.dxf_entities.specs.Polylines.{begins_vertex, is_number_pair, vertices_in, vertex_edits}
use Rattle.dxf_copies.specs.Rendering.{image_of, crossings_of, Reading, starts_before, coded_before, last_coded}
use Rattle.dxf_copies.specs.Rendering.{field_copy, field_copies, text_of}
use Rattle.dxf_entities.proofs.Members.{Follow, went, IsIn}
use Rattle.dxf_entities.proofs.GroupShapes.{coded, is_good_in_vertex, behind_vertex, is_coordinate, points_in}
use Rattle.dxf_entities.proofs.GroupShapes.{number_in}
use Rattle.dxf_entities.proofs.WrittenGroups.{number_written, plain_value, plain_written}
use Rattle.dxf_entities.proofs.EntityEdits.{no_fault, IsVertex, vertex_is, ordered}
use Rattle.dxf_entities.proofs.ChangedFields.{made, may_change, with_value, DoStay, left, made_both}
use Rattle.dxf_entities.proofs.WholeShapes.{StandApart}
use Rattle.dxf_copies.proofs.CopyTurns.{AllWithin}
use Rattle.dxf_copies.proofs.SplicedPairs.{between_both, AreBody, AddsAs, none_added, both_added, alone_added}
use Rattle.dxf_copies.proofs.SplicedPairs.{value_added, AreGroup, last_ten, last_twenty, tiles_behind}
use Rattle.dxf_copies.proofs.ValueTurns.{AreSome, some_at, AreGoodImages, image_within}
use Rattle.dxf_copies.proofs.WholeTurns.{range_within}

-- ---- the points that are read of a polyline's fields where further points come after each of its vertices
-- the groups of points, each of two numbers
abbrev pub point_groups : List Pt → List Group
point_groups [] = []
point_groups (point ∷ points) = (record { code = pos 10; value = mm_text point.x })
    ∷ (record { code = pos 20; value = mm_text point.y }) ∷ point_groups points

-- the images of vertices, with those of the crossings after each
abbrev pub spread : Runs → ℕ → List VertexFields → List Pt
spread images n [] = []
spread images n (vertex ∷ vertices) = image_of images n ∷ (crossings_of images n ++ spread images (n + 1) vertices)

-- between vertices there is no text, and at the end of each one's group the crossings after it
abbrev pub AreTexts : (ℕ → List Group) → Runs → ℕ → ℕ → List VertexFields → Type 0
AreTexts texts images n low [] = (place : ℕ) → low < place → texts place ≡ []
AreTexts texts images n low (vertex ∷ vertices) = ((place : ℕ) → low < place → place < vertex.past → texts place ≡ [])
    × (texts vertex.past ≡ point_groups (crossings_of images n))
    × AreTexts texts images (n + 1) vertex.past vertices

-- the values of vertices are their images
abbrev pub AreImages : (Pair → List ℕ) → Runs → ℕ → List VertexFields → Type 0
AreImages value images n [] = ⊤
AreImages value images n (vertex ∷ vertices) = (value vertex.spot.x.pair ≡ mm_text (image_of images n).x)
    × (value vertex.spot.y.pair ≡ mm_text (image_of images n).y) × AreImages value images (n + 1) vertices

-- the first vertex ends after this place
abbrev pub EndsBehind : ℕ → List VertexFields → Type 0
EndsBehind low [] = ⊤
EndsBehind low (vertex ∷ vertices) = low < vertex.past

pub behind_less : (low less : ℕ) (vertices : List VertexFields) → less ≤ low → EndsBehind low vertices
    → EndsBehind less vertices
behind_less low less [] below ends = tt
behind_less low less (vertex ∷ vertices) below ends = omega (arith, ends)

texts_more : (texts : ℕ → List Group) (images : Runs) (n low more : ℕ) (vertices : List VertexFields) → low ≤ more
    → AreTexts texts images n low vertices → AreTexts texts images n more vertices
texts_more texts images n low more [] above are = λ place less. are place (omega arith)
texts_more texts images n low more (vertex ∷ vertices) above are =
    ((λ place less upto. are.0 place (omega arith) upto), are.1, are.2)

no_text : (texts : ℕ → List Group) (images : Runs) (n low place : ℕ) (vertices : List VertexFields) → low < place
    → EndsBehind place vertices → AreTexts texts images n low vertices → texts place ≡ []
no_text texts images n low place [] less ends are = are place less
no_text texts images n low place (vertex ∷ vertices) less ends are = are.0 place less ends

either_off : (a b : Bool) → (a || b) ≡ false → (a ≡ false) × (b ≡ false)
either_off true b off = absurd (cc)
either_off false b off = (refl, off)

-- a group that is no number of a point
not_number : (exact : Bool) (group : Group) (more : List Group) → is_coordinate group ≡ false
    → points_in exact (group ∷ more) ≡ points_in exact more
not_number exact group [] off = rw off refl
not_number exact group (second ∷ more) off = grind (arith, either_off, coded)

-- a field of a group was good
was_good : (bytes : List ℕ) (pair : Pair) (rest : Result ℕ LayerFault) (upto : ℕ)
    → first_fault (fault_in_group bytes pair) rest ≡ Ok upto → is_good_in_vertex (group_in bytes pair) ≡ true
was_good bytes pair rest upto is = grind (arith, made)

group_below : (bytes : List ℕ) (from past : ℕ) (fields : List Pair) (upto : ℕ) → Follow from fields past
    → past_group bytes from fields ≡ Ok upto → from ≤ upto
group_below bytes from past [] upto follow is = let same : from ≡ upto = cc in omega (arith, same)
group_below bytes from past (pair ∷ fields) upto follow is =
    by_test (is_group_code pair) refl is (group_below bytes pair.end past fields upto follow.4) where
      by_test : (grouped : Bool) → is_group_code pair ≡ grouped
          → cond grouped (first_fault (fault_in_group bytes pair) (past_group bytes pair.end fields)) (Ok from)
          ≡ Ok upto
          → (past_group bytes pair.end fields ≡ Ok upto → pair.end ≤ upto) → from ≤ upto
      by_test true grouped made rest = grind (arith, no_fault, made)
      by_test false grouped made rest = let same : from ≡ upto = cc in omega (arith, same)

-- points in front of others
pub record AreCrossed (exact : Bool) (crossings points : List Pt) (more : List Group) : Type 0 where
  pub points_are : points_in exact (point_groups crossings ++ more) ≡ Some (crossings ++ points)
  pub behind : behind_vertex (point_groups crossings ++ more) ≡ Some tt

crossed : (exact : Bool) (crossings points : List Pt) (more : List Group) → AllWithin crossings
    → points_in exact more ≡ Some points → behind_vertex more ≡ Some tt → AreCrossed exact crossings points more
crossed exact [] points more within are ends = record { points_are = are; behind = ends }
crossed exact (point ∷ crossings) points more within are ends =
    grind (arith, number_written, (crossed exact crossings points more within.1 are ends))

-- ---- what is known of the vertices in fields: where their edits are, and that the texts of the crossings after them are
-- the groups of their points.
-- the room for crossings after a vertex
abbrev pub room : ℕ → VertexFields → Edit
room n vertex = record { start = vertex.past; end = vertex.past; what = edits.Vertices n }

pub in_six : (a b c d e f : List ℕ) → a ++ (b ++ ((c ++ d) ++ (e ++ f))) ≡ (a ++ (b ++ c)) ++ (d ++ (e ++ f))
in_six a b c d e f = simp append_assoc

-- two fields that follow each other, the numbers of a point
record AreFields (bytes : List ℕ) (x y : Pair) : Type 0 where
  x_lines : StandsInLines bytes x
  y_lines : StandsInLines bytes y
  ten : x.code ≡ pos 10
  twenty : y.code ≡ pos 20
  inside : x.value_end ≤ x.end
  next : y.start ≡ x.end
  behind : x.end ≤ y.value

field_added : GroupsFollow → (bytes : List ℕ) (x y : Pair) (image : Pt) → AreFields bytes x y
    → AddsAs (field_copy bytes x y image) (point_groups (image ∷ []))
field_added follow bytes x y image are =
    let ten = are.ten in
    let twenty = are.twenty in
    let x_no : is_coded (pos 0) x ≡ false = rw ten refl in
    let y_no : is_coded (pos 0) y ≡ false = rw twenty refl in
    let middle : between x.value_end y.value bytes ≡ between x.value_end x.end bytes ++ between y.start y.value bytes =
    between_both bytes x.value_end x.end y.value are.inside are.behind
    ∙ ap (λ (n : ℕ). between x.value_end x.end bytes ++ between n y.value bytes) (sym are.next) in
    let whole : field_copy bytes x y image ≡ (between x.start x.value bytes
    ++ (mm_text image.x ++ between x.value_end x.end bytes))
    ++ (between y.start y.value bytes ++ (mm_text image.y ++ between y.value_end y.end bytes)) =
    ap (λ (t : List ℕ). between x.start x.value bytes
    ++ (mm_text image.x ++ (t ++ (mm_text image.y ++ between y.value_end y.end bytes)))) middle
    ∙ in_six (between x.start x.value bytes) (mm_text image.x) (between x.value_end x.end bytes)
    (between y.start y.value bytes) (mm_text image.y) (between y.value_end y.end bytes) in
    let first = value_added follow bytes x (mm_text image.x) are.x_lines x_no
    (plain_value (mm_text image.x) (plain_written image.x)) in
    let second = value_added follow bytes y (mm_text image.y) are.y_lines y_no
    (plain_value (mm_text image.y) (plain_written image.y)) in
    let both = both_added (between x.start x.value bytes ++ (mm_text image.x ++ between x.value_end x.end bytes))
    (between y.start y.value bytes ++ (mm_text image.y ++ between y.value_end y.end bytes))
    (record { code = x.code; value = mm_text image.x } ∷ []) (record { code = y.code; value = mm_text image.y } ∷ [])
    first second in grind (arith, AddsAs)

fields_added : (bytes : List ℕ) (x y : Pair) (images : List Pt)
    → ((image : Pt) → AddsAs (field_copy bytes x y image) (point_groups (image ∷ [])))
    → AddsAs (flat_map (field_copy bytes x y) images) (point_groups images)
fields_added bytes x y [] each = none_added
fields_added bytes x y (image ∷ images) each =
    both_added (field_copy bytes x y image) (flat_map (field_copy bytes x y) images) (point_groups (image ∷ []))
    (point_groups images) (each image) (fields_added bytes x y images each)

-- the fields begin with a group that ends here
record IsGroup (last : Pair) (fields : List Pair) (upto : ℕ) : Type 0 where
  group : List Pair
  rest : List Pair
  whole : fields ≡ group ++ rest
  are : AreGroup group
  ends : past_pairs last.end group ≡ upto
  ending : Pair
  is_in : IsIn ending (last ∷ fields)
  at : ending.end ≡ upto

group_of : (bytes : List ℕ) (last : Pair) (fields : List Pair) (upto : ℕ) → past_group bytes last.end fields ≡ Ok upto
    → IsGroup last fields upto
group_of bytes last [] upto is = let same : last.end ≡ upto = cc in record {
  group = [];
  rest = [];
  whole = refl;
  are = tt;
  ends = same;
  ending = last;
  is_in = inl refl;
  at = same;
}
group_of bytes last (pair ∷ fields) upto is =
    by_test (is_group_code pair) refl is (group_of bytes pair fields upto) where
      by_test : (grouped : Bool) → is_group_code pair ≡ grouped
          → cond grouped (first_fault (fault_in_group bytes pair) (past_group bytes pair.end fields)) (Ok last.end)
          ≡ Ok upto
          → (past_group bytes pair.end fields ≡ Ok upto → IsGroup pair fields upto) → IsGroup last (pair ∷ fields) upto
      by_test true grouped made rest =
          let more = rest (no_fault (fault_in_group bytes pair) (past_group bytes pair.end fields) upto made) in
          record {
            group = pair ∷ more.group;
            rest = more.rest;
            whole = ap (λ (ps : List Pair). pair ∷ ps) more.whole;
            are = (grouped, more.are);
            ends = more.ends;
            ending = more.ending;
            is_in = inr more.is_in;
            at = more.at;
          }
      by_test false grouped made rest = let same : last.end ≡ upto = cc in record {
        group = [];
        rest = pair ∷ fields;
        whole = refl;
        are = tt;
        ends = same;
        ending = last;
        is_in = inl refl;
        at = same;
      }

-- as many pairs start before the end of some of the first as these are
pairs_forth : (front rest : List Pair) (start line past : ℕ) → AreTiles start line (front ++ rest) past
    → start ≤ past_pairs start front
pairs_forth [] rest start line past tiles = omega arith
pairs_forth (pair ∷ front) rest start line past tiles =
    omega (arith, tiles.2, tiles.3, tiles.4, pairs_forth front rest pair.end (line + 2) past tiles.5)

number_upto : (front rest : List Pair) (start line past : ℕ) → AreTiles start line (front ++ rest) past
    → prefix_len (starts_before (past_pairs start front)) (front ++ rest) ≡ length front
number_upto [] [] start line past tiles = refl
number_upto [] (pair ∷ rest) start line past tiles = let no : nat_lt pair.start start ≡ false =
    grind (arith, nat_tests, tiles.0) in rw no refl
number_upto (pair ∷ front) rest start line past tiles =
    grind (arith, pairs_forth, (number_upto front rest pair.end (line + 2) past tiles.5))

before_upto : (read : Reading) (code : ℤ) (front rest : List Pair) (past : ℕ) → read.pairs ≡ front ++ rest
    → AreTiles 0 1 read.pairs past → coded_before read code (past_pairs 0 front) ≡ last_coded code None front
before_upto read code front rest past are tiles = grind (arith, number_upto, take-append_seam)

past_over : (start : ℕ) (front rest : List Pair) (pair : Pair)
    → past_pairs start (front ++ pair ∷ rest) ≡ past_pairs pair.end rest
past_over start [] rest pair = refl
past_over start (first ∷ front) rest pair = past_over first.end front rest pair

room_text : GroupsFollow → (read : Reading) (past : ℕ) → AreTiles 0 1 read.pairs past
    → (front fields others : List Pair) (x y : Pair) (vertex : VertexFields) (n : ℕ)
    → read.pairs ≡ front ++ (x ∷ y ∷ (fields ++ others)) → AreFields read.bytes x y
    → IsGroup y fields vertex.past → groups_of (text_of read (room n vertex))
    ≡ point_groups (crossings_of read.images n)
room_text follow read past tiles front fields others x y vertex n are numbers ends =
    let images = crossings_of read.images n in
    let split : front ++ (x ∷ y ∷ ((ends.group ++ ends.rest) ++ others)) ≡ (front ++ (x ∷ y ∷ ends.group))
    ++ (ends.rest ++ others) = ap (λ (ps : List Pair). front ++ (x ∷ y ∷ ps)) (append_assoc ends.group ends.rest others)
    ∙ sym (append_assoc front (x ∷ y ∷ ends.group) (ends.rest ++ others)) in
    let all : read.pairs ≡ (front ++ (x ∷ y ∷ ends.group)) ++ (ends.rest ++ others) = are
    ∙ (ap (λ (ps : List Pair). front ++ (x ∷ y ∷ (ps ++ others))) ends.whole ∙ split) in
    let place : past_pairs 0 (front ++ (x ∷ y ∷ ends.group)) ≡ vertex.past = past_over 0 front (y ∷ ends.group) x
    ∙ ends.ends in
    let first : coded_before read (pos 10) vertex.past ≡ Some x = grind (arith, before_upto, last_ten) in
    let second : coded_before read (pos 20) vertex.past ≡ Some y =
    ap (λ (k : ℕ). coded_before read (pos 20) k) (sym place)
    ∙ (before_upto read (pos 20) (front ++ (x ∷ y ∷ ends.group)) (ends.rest ++ others) past all tiles
    ∙ last_twenty front x y ends.group numbers.twenty ends.are) in
    let text : text_of read (room n vertex) ≡ flat_map (field_copy read.bytes x y) images =
    ap (λ (o : Option Pair). field_copies read.bytes o (coded_before read (pos 20) vertex.past) images) first
    ∙ ap (λ (o : Option Pair). field_copies read.bytes (Some x) o images) second in
    ap groups_of text ∙ alone_added (flat_map (field_copy read.bytes x y) images) (point_groups images)
    (fields_added read.bytes x y images (λ image. field_added follow read.bytes x y image numbers))

-- a vertex and its edits, by all pairs of the entity
pub record IsKnown (read : Reading) (all : List Pair) (from n : ℕ) (vertex : VertexFields) : Type 0 where
  pub x_in : IsIn vertex.spot.x.pair all
  pub y_in : IsIn vertex.spot.y.pair all
  pub ten : vertex.spot.x.pair.code ≡ pos 10
  pub twenty : vertex.spot.y.pair.code ≡ pos 20
  pub low : from ≤ vertex.spot.x.pair.value
  pub order : vertex.spot.x.pair.value < vertex.spot.y.pair.value
  pub inside : vertex.spot.y.pair.value < vertex.spot.y.pair.end
  pub upto : vertex.spot.y.pair.end ≤ vertex.past
  pub ending : Pair
  pub ending_in : IsIn ending all
  pub at : ending.end ≡ vertex.past
  pub text : groups_of (text_of read (room n vertex)) ≡ point_groups (crossings_of read.images n)

abbrev pub AreKnown : Reading → List Pair → ℕ → ℕ → List VertexFields → Type 0
AreKnown read all from n [] = ⊤
AreKnown read all from n (vertex ∷ vertices) = IsKnown read all from n vertex × EndsBehind vertex.past vertices
    × AreKnown read all vertex.spot.y.pair.end (n + 1) vertices

known_less : (read : Reading) (all : List Pair) (from less n : ℕ) (vertices : List VertexFields) → less ≤ from
    → AreKnown read all from n vertices → AreKnown read all less n vertices
known_less read all from less n [] below known = tt
known_less read all from less n (vertex ∷ vertices) below known = grind arith

-- the first of the vertices after a group ends after it
ends_behind : (bytes : List ℕ) (exact : Bool) (fields : List Pair) (y : Pair) (past upto : ℕ) (vertices : List VertexFields)
    (read : Reading) (all : List Pair) (n : ℕ) → Follow y.end fields past → vertices_in bytes exact fields ≡ Ok vertices
    → past_group bytes y.end fields ≡ Ok upto → AreKnown read all y.end n vertices → EndsBehind upto vertices
ends_behind bytes exact fields y past upto vertices read all n follow is group known =
    by_vertices vertices ((ordered bytes exact fields y.end past vertices follow is).group y.end upto group
    (omega arith)).apart known where
      by_vertices : (vs : List VertexFields) → ((k : ℕ) → StandApart upto (vertex_edits k vs) past)
          → AreKnown read all y.end n vs → EndsBehind upto vs
      by_vertices [] apart known = tt
      by_vertices (vertex ∷ vs) apart known =
          let k = known.0 in
          let w = (apart n).within.0 in grind arith

one_known : GroupsFollow → (read : Reading) (past : ℕ) → AreTiles 0 1 read.pairs past → (all : List Pair) → AreSome all
    → (exact : Bool) (front fields others : List Pair) (x y : Pair) (vertex : VertexFields) (vertices : List VertexFields)
    (from last n : ℕ) → read.pairs ≡ front ++ (x ∷ y ∷ (fields ++ others)) → AreBody read.bytes (x ∷ y ∷ fields)
    → ((pair : Pair) → IsIn pair (x ∷ y ∷ fields) → IsIn pair all) → Follow from (x ∷ y ∷ fields) last → x.code ≡ pos 10
    → y.code ≡ pos 20 → IsVertex read.bytes x y fields vertex → vertices_in read.bytes exact fields ≡ Ok vertices
    → AreKnown read all y.end (n + 1) vertices → AreKnown read all from n (vertex ∷ vertices)
one_known follow read past tiles all some exact front fields others x y vertex vertices from last n are body inner
    follows ten twenty is more_is known =
    let here = tiles_behind front 0 1 past x (y ∷ (fields ++ others))
    (subst (λ (ps : List Pair). AreTiles 0 1 ps past) are tiles) in
    let t = here.1 in
    let numbers : AreFields read.bytes x y = record {
      x_lines = body.0;
      y_lines = body.1.1.0;
      ten = ten;
      twenty = twenty;
      inside = t.4;
      next = t.5.0;
      behind = omega (arith, t.5.0, t.5.2);
    } in
    let ends = group_of read.bytes y fields vertex.past is.past in
    let east = ap (λ (p : Pair). p.value) is.east in
    let north = ap (λ (p : Pair). p.value) is.north in
    let north_end = ap (λ (p : Pair). p.end) is.north in
    let x_some = some_at x all some (inner x (inl refl)) in
    let y_some = some_at y all some (inner y (inr (inl refl))) in
    let low = group_below read.bytes y.end last fields vertex.past follows.4.4 is.past in
    grind (arith, IsIn, room_text, ends_behind, known_less)

-- all vertices that are read
pub known_of : GroupsFollow → (read : Reading) (past : ℕ) → AreTiles 0 1 read.pairs past → (all : List Pair)
    → AreSome all → (exact : Bool) (front fields others : List Pair) (vertices : List VertexFields) (from last n : ℕ)
    → read.pairs ≡ front ++ (fields ++ others)
    → AreBody read.bytes fields → ((pair : Pair) → IsIn pair fields → IsIn pair all) → Follow from fields last
    → vertices_in read.bytes exact fields ≡ Ok vertices → AreKnown read all from n vertices
known_of follow read past tiles all some exact front [] others vertices from last n are body inner follows is =
    let none : [] ≡ vertices = cc in subst (AreKnown read all from n) none tt
known_of follow read past tiles all some exact front (pair ∷ []) others vertices from last n are body inner follows is =
    grind (arith, made)
known_of follow read past tiles all some exact front (x ∷ y ∷ fields) others vertices from last n are body inner follows
    is = by_tests (begins_vertex x y) (is_number_pair x) refl is
    (λ more more_is. known_of follow read past tiles all some exact (front ++ (x ∷ y ∷ [])) fields others more y.end
    last (n + 1) (are ∙ sym (append_assoc front (x ∷ y ∷ []) (fields ++ others))) body.1.1.1.1
    (λ pair is_in. inner pair (inr (inr is_in))) follows.4.4 more_is)
    (λ rest_is. known_of follow read past tiles all some exact (front ++ x ∷ []) (y ∷ fields) others vertices x.end last
    n (are ∙ sym (append_assoc front (x ∷ []) (y ∷ (fields ++ others)))) body.1.1
    (λ pair is_in. inner pair (inr is_in)) follows.4 rest_is) where
      by_tests : (begins number : Bool) → begins_vertex x y ≡ begins
          → cond begins (and_then (λ (vertex : VertexFields). and_then (λ (more : List VertexFields). Ok (vertex ∷ more))
          (vertices_in read.bytes exact fields)) (vertex_of read.bytes exact x y fields))
          (cond number (Err (faults.Count x.line)) (vertices_in read.bytes exact (y ∷ fields))) ≡ Ok vertices
          → ((more : List VertexFields) → vertices_in read.bytes exact fields ≡ Ok more
          → AreKnown read all y.end (n + 1) more)
          → (vertices_in read.bytes exact (y ∷ fields) ≡ Ok vertices → AreKnown read all x.end n vertices)
          → AreKnown read all from n vertices
      by_tests true number begins made behind later =
          let first = went (λ (vertex : VertexFields). and_then (λ (more : List VertexFields). Ok (vertex ∷ more))
          (vertices_in read.bytes exact fields)) (vertex_of read.bytes exact x y fields) vertices made in
          let second = went (λ (more : List VertexFields). Ok (first.value ∷ more)) (vertices_in read.bytes exact fields)
          vertices first.gives in
          let whole : first.value ∷ second.value ≡ vertices = cc in
          let codes = and_parts (is_coded (pos 10) x) (is_coded (pos 20) y) begins in
          subst (AreKnown read all from n) whole
          (one_known follow read past tiles all some exact front fields others x y first.value second.value from last n
          are body inner follows ((Decides-int_eq x.code (pos 10)).0 codes.0)
          ((Decides-int_eq y.code (pos 20)).0 codes.1)
          (vertex_is read.bytes exact x y fields first.value first.is) second.is (behind second.value second.is))
      by_tests false true begins made behind later = absurd (cc)
      by_tests false false begins made behind later =
          known_less read all x.end from n vertices (omega (arith, follows.0, follows.1, follows.2, follows.3))
          (later made)

-- ---- the fields of a polyline with the images of its vertices, and of the crossings after them, are read as all these
-- images.
drop_within : (points : List Pt) → AllWithin points → AllWithin (drop 1 points)
drop_within [] within = tt
drop_within (point ∷ points) within = within.1

stays_in_group : (pair : Pair) → is_group_code pair ≡ true → may_change pair.code ≡ false
stays_in_group pair group = by_tests (is_coded (pos 40) pair) (is_coded (pos 41) pair) (is_coded (pos 42) pair)
    (is_coded (pos 91) pair) refl refl refl refl group where
      coded_so : (code : ℤ) → is_coded code pair ≡ true → may_change code ≡ false → may_change pair.code ≡ false
      coded_so code is stays = subst (λ (c : ℤ). may_change c ≡ false) (sym ((Decides-int_eq pair.code code).0 is))
          stays

      by_tests : (a b c d : Bool) → is_coded (pos 40) pair ≡ a → is_coded (pos 41) pair ≡ b → is_coded (pos 42) pair ≡ c
          → is_coded (pos 91) pair ≡ d → (a || b || c || d) ≡ true → may_change pair.code ≡ false
      by_tests true b c d one two three four any = coded_so (pos 40) one refl
      by_tests false true c d one two three four any = coded_so (pos 41) two refl
      by_tests false false true d one two three four any = coded_so (pos 42) three refl
      by_tests false false false true one two three four any = coded_so (pos 91) four refl
      by_tests false false false false one two three four any = absurd (cc)

module _ (bytes : List ℕ) (exact : Bool) (images : Runs) (count : ℕ) (good : AreGoodImages images count)
    (value : Pair → List ℕ) (texts : ℕ → List Group) where
  -- after a vertex, with the points that are at the end of its group
  pub record IsGroupAgain (from n : ℕ) (crossings : List Pt) (fields : List Pair) (vertices : List VertexFields) : Type 0
    where
      pub points_are : points_in exact (made value texts from fields) ≡ Some (crossings ++ spread images n vertices)
      pub behind : behind_vertex (made value texts from fields) ≡ Some tt

  pub record AreAgain (from n : ℕ) (fields : List Pair) (vertices : List VertexFields) : Type 0 where
    pub ends : EndsBehind from vertices
    pub rest : AreTexts texts images n from vertices
        → points_in exact (left value texts fields) ≡ Some (spread images n vertices)
    pub group : (upto : ℕ) (crossings : List Pt) → past_group bytes from fields ≡ Ok upto → AllWithin crossings
        → ((place : ℕ) → from ≤ place → place < upto → texts place ≡ []) → texts upto ≡ point_groups crossings
        → AreTexts texts images n upto vertices → IsGroupAgain from n crossings fields vertices

  -- where a group ends
  group_ends : (from upto n : ℕ) (crossings : List Pt) (fields : List Pair) (vertices : List VertexFields) → from ≡ upto
      → AllWithin crossings → texts upto ≡ point_groups crossings → behind_vertex (left value texts fields) ≡ Some tt
      → points_in exact (left value texts fields) ≡ Some (spread images n vertices)
      → IsGroupAgain from n crossings fields vertices
  group_ends from upto n crossings fields vertices same within text closes are =
      let whole : made value texts from fields ≡ point_groups crossings ++ left value texts fields =
      grind (arith, made_both, left) in
      let all = crossed exact crossings (spread images n vertices) (left value texts fields) within are closes in
      record { points_are = ap (points_in exact) whole ∙ all.points_are; behind = ap behind_vertex whole ∙ all.behind }

  none_again : (from n : ℕ) → AreAgain from n [] []
  none_again from n = record {
    ends = tt;
    rest = λ texts_are. refl;
    group = λ upto crossings is within silent text later. let same : from ≡ upto =
        cc in group_ends from upto n crossings [] [] same within text refl refl;
  }

  -- a field that is no number of a point
  skipped : (pair : Pair) (fields : List Pair) (from past n : ℕ) (vertices : List VertexFields)
      → Follow from (pair ∷ fields) past → is_number_pair pair ≡ false → DoStay bytes value (pair ∷ fields)
      → AreAgain pair.end n fields vertices → AreAgain from n (pair ∷ fields) vertices
  skipped pair fields from past n vertices follow off stay again = record {
    ends = behind_less pair.end from vertices (omega arith) again.ends;
    rest = λ are. here are;
    group = λ upto crossings is within silent text later. by_test (is_group_code pair) refl upto crossings is within
        silent text later;
  } where
    forth : from < pair.end
    forth = omega (arith, follow.0, follow.1, follow.2, follow.3)

    here : AreTexts texts images n from vertices
        → points_in exact (left value texts (pair ∷ fields)) ≡ Some (spread images n vertices)
    here are = grind (arith, forth, no_text, made, left, made_both, not_number, with_value, points_in, texts_more)

    by_test : (grouped : Bool) → is_group_code pair ≡ grouped → (upto : ℕ) (crossings : List Pt)
        → past_group bytes from (pair ∷ fields) ≡ Ok upto → AllWithin crossings
        → ((place : ℕ) → from ≤ place → place < upto → texts place ≡ [])
        → texts upto ≡ point_groups crossings → AreTexts texts images n upto vertices
        → IsGroupAgain from n crossings (pair ∷ fields) vertices
    by_test true grouped upto crossings is within silent text later =
        let on = forth in
        let made_is : first_fault (fault_in_group bytes pair) (past_group bytes pair.end fields) ≡ Ok upto =
        rw grouped at is in
        let goes = no_fault (fault_in_group bytes pair) (past_group bytes pair.end fields) upto made_is in
        let low = group_below bytes pair.end past fields upto follow.4 goes in
        let none : texts from ≡ [] = silent from (omega arith) (omega arith) in
        let rest = again.group upto crossings goes within (λ place above under. silent place (omega arith) under) text
        later in
        let same : value pair ≡ value_in bytes pair = stay.0 (stays_in_group pair grouped) in
        let fine : is_good_in_vertex (with_value value pair) ≡ true =
        ap (λ (v : List ℕ). is_good_in_vertex (record { code = pair.code; value = v })) same
        ∙ was_good bytes pair (past_group bytes pair.end fields) upto made_is in
        let whole : made value texts from (pair ∷ fields) ≡ with_value value pair ∷ made value texts pair.end fields =
        ap (λ (g : List Group). g ++ (with_value value pair ∷ made value texts pair.end fields)) none in
        let closes = rest.behind in grind (arith, points_in, not_number, with_value, made, behind_vertex)
    by_test false out upto crossings is within silent text later =
        let same : from ≡ upto = let e : Ok from ≡ Ok upto = rw out at is in cc in
        group_ends from upto n crossings (pair ∷ fields) vertices same within text (rw out refl)
        (here (subst (λ (low : ℕ). AreTexts texts images n low vertices) (sym same) later))

  -- a vertex, and those after it
  one_again : (x y : Pair) (fields : List Pair) (from past n : ℕ) (vertex : VertexFields) (vertices : List VertexFields)
      → Follow from (x ∷ y ∷ fields) past → begins_vertex x y ≡ true → x.code ≡ pos 10
      → IsVertex bytes x y fields vertex → n < count
      → AreImages value images n (vertex ∷ vertices) → AreAgain y.end (n + 1) fields vertices
      → AreAgain from n (x ∷ y ∷ fields) (vertex ∷ vertices)
  one_again x y fields from past n vertex vertices follow begins ten is inside valued again = record {
    ends = omega (arith, low, forth, follow.4.0, follow.4.1, follow.4.2, follow.4.3);
    rest = λ are. here are;
    group = λ upto crossings made_is within silent text later. at_vertex upto crossings made_is within text later;
  } where
    forth : from < x.end
    forth = omega (arith, follow.0, follow.1, follow.2, follow.3)

    low : y.end ≤ vertex.past
    low = group_below bytes y.end past fields vertex.past follow.4.4 is.past

    here : AreTexts texts images n from (vertex ∷ vertices)
        → points_in exact (left value texts (x ∷ y ∷ fields)) ≡ Some (spread images n (vertex ∷ vertices))
    here are =
        let on = forth in
        let below = low in
        let none : texts x.end ≡ [] = are.0 x.end on (omega (arith, follow.4.0, follow.4.1, follow.4.2, follow.4.3)) in
        let image = image_of images n in
        let reach = image_within images count n good inside in
        let own : AllWithin (crossings_of images n) =
        drop_within _ (range_within images count n (n + 1) good (omega arith) (omega arith)) in
        let rest = again.group vertex.past (crossings_of images n) is.past own
        (λ place above under. are.0 place (omega (arith, follow.4.0, follow.4.1, follow.4.2, follow.4.3)) under)
        are.1 are.2 in
        let whole : left value texts (x ∷ y ∷ fields) ≡ with_value value x ∷ with_value value y
        ∷ made value texts y.end fields = cc in
        let east : number_in exact (value x) ≡ Some image.x = ap (λ (p : Pair). number_in exact (value p)) (sym is.east)
        ∙ (ap (number_in exact) valued.0 ∙ number_written exact image.x reach.0) in
        let north : number_in exact (value y) ≡ Some image.y =
        ap (λ (p : Pair). number_in exact (value p)) (sym is.north)
        ∙ (ap (number_in exact) valued.1 ∙ number_written exact image.y reach.1) in
        let later = rest.points_are in
        let closes = rest.behind in ap (points_in exact) whole ∙ rw (begins, east, north, later, closes) refl

    at_vertex : (upto : ℕ) (crossings : List Pt) → past_group bytes from (x ∷ y ∷ fields) ≡ Ok upto
        → AllWithin crossings → texts upto ≡ point_groups crossings → AreTexts texts images n upto (vertex ∷ vertices)
        → IsGroupAgain from n crossings (x ∷ y ∷ fields) (vertex ∷ vertices)
    at_vertex upto crossings made_is within text later =
        let out : is_group_code x ≡ false = rw ten refl in
        let same : from ≡ upto = let e : Ok from ≡ Ok upto = rw out at made_is in cc in
        group_ends from upto n crossings (x ∷ y ∷ fields) (vertex ∷ vertices) same within text (rw out refl)
        (here (subst (λ (place : ℕ). AreTexts texts images n place (vertex ∷ vertices)) (sym same) later))

  -- all vertices
  pub again : (fields : List Pair) (from past n : ℕ) (vertices : List VertexFields) → Follow from fields past
      → vertices_in bytes exact fields ≡ Ok vertices → n + length vertices ≤ count → DoStay bytes value fields
      → AreImages value images n vertices → AreAgain from n fields vertices
  again [] from past n vertices follow is inside stay valued = let none : [] ≡ vertices =
      cc in subst (AreAgain from n []) none (none_again from n)
  again (pair ∷ []) from past n vertices follow is inside stay valued = by_test (is_number_pair pair) refl is where
    by_test : (number : Bool) → is_number_pair pair ≡ number
        → cond number (Err (faults.Count pair.line)) (Ok []) ≡ Ok vertices → AreAgain from n (pair ∷ []) vertices
    by_test true number made_is = absurd (cc)
    by_test false number made_is = let none : [] ≡ vertices = cc in subst (AreAgain from n (pair ∷ [])) none
        (skipped pair [] from past n [] follow number stay (none_again pair.end n))
  again (x ∷ y ∷ fields) from past n vertices follow is inside stay valued =
      by_tests (begins_vertex x y) (is_number_pair x) refl refl is
      (λ more more_is less images_are. again fields y.end past (n + 1) more follow.4.4 more_is less stay.1.1 images_are)
      (λ rest_is. again (y ∷ fields) x.end past n vertices follow.4 rest_is inside stay.1 valued) where
        by_tests : (begins number : Bool) → begins_vertex x y ≡ begins → is_number_pair x ≡ number
            → cond begins (and_then (λ (vertex : VertexFields). and_then (λ (more : List VertexFields). Ok (vertex ∷ more))
            (vertices_in bytes exact fields)) (vertex_of bytes exact x y fields))
            (cond number (Err (faults.Count x.line)) (vertices_in bytes exact (y ∷ fields))) ≡ Ok vertices
            → ((more : List VertexFields) → vertices_in bytes exact fields ≡ Ok more → n + 1 + length more ≤ count
            → AreImages value images (n + 1) more → AreAgain y.end (n + 1) fields more)
            → (vertices_in bytes exact (y ∷ fields) ≡ Ok vertices → AreAgain x.end n (y ∷ fields) vertices)
            → AreAgain from n (x ∷ y ∷ fields) vertices
        by_tests true number begins number_is made_is behind later =
            let first = went (λ (vertex : VertexFields). and_then (λ (more : List VertexFields). Ok (vertex ∷ more))
            (vertices_in bytes exact fields)) (vertex_of bytes exact x y fields) vertices made_is in
            let second = went (λ (more : List VertexFields). Ok (first.value ∷ more)) (vertices_in bytes exact fields)
            vertices first.gives in
            let whole : first.value ∷ second.value ≡ vertices = cc in
            let room : n + length (first.value ∷ second.value) ≤ count = grind arith in
            let images_are : AreImages value images n (first.value ∷ second.value) =
            subst (AreImages value images n) (sym whole) valued in
            let codes = and_parts (is_coded (pos 10) x) (is_coded (pos 20) y) begins in
            subst (AreAgain from n (x ∷ y ∷ fields)) whole
            (one_again x y fields from past n first.value second.value follow begins
            ((Decides-int_eq x.code (pos 10)).0 codes.0) (vertex_is bytes exact x y fields first.value first.is)
            (omega arith) images_are
            (behind second.value second.is (omega arith) images_are.2))
        by_tests false true begins number_is made_is behind later = absurd (cc)
        by_tests false false begins number_is made_is behind later =
            skipped x (y ∷ fields) from past n vertices follow number_is stay (later made_is)
