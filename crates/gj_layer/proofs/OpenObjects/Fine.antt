-- What is read of a value: each path has points, and the edits are in order inside the value's text.
use Rattle.std.proofs.Common.{◌≡◌, ℕ, ◌+◌, ◌-◌, ◌<◌, ◌≤◌, ◌⊎◌, inl, inr, List, [], ◌∷◌, ◌++◌, length, map, take, refl}
use Rattle.std.proofs.Common.{sym, ap, ◌∙◌, subst, arith, length-append, Bool, true, false, ◌^◌}
use Rattle.std.specs.Prelude.{Option, Some, None, Result, Ok, Err, flat_map, codes, if◌then◌else◌}
use Rattle.std.specs.List.{AllByRecursion}
use Rattle.std.proofs.Common.{All}
use Rattle.std.proofs.lemmas.Bool.{and_parts}
use Rattle.std.proofs.lemmas.List.{length-map, length-take}
use Rattle.std.proofs.lemmas.List.Elements.{All-cons}
use Rattle.jtext.specs.Characters.{Char, units_of}
use Rattle.jtext.specs.Values.{Json, Elements, Members, null, array, object, no_element}
use Rattle.jtext.specs.Values.{element, no_member, member, spelling, elements_text, elements_behind, members_text}
use Rattle.jtext.specs.Values.{members_behind, quoted_text}
use Rattle.jtext.specs.Nodes.{inner_place, element_start, member_start, next_place}
use Rattle.jtext.specs.Lookups.{are_same}
use Rattle.mm_decimal.specs.declared.numerals.MmRead.{MmRead}
use Rattle.sheet_base.specs.PointHeights.{Position, heights_of, IsHeightWithinReach}
use Rattle.sheet_base.proofs.ListParts.{all_parts}
use Rattle.plain_laws.proofs.Lists.{all_append}
use Rattle.sheet_base.specs.declared.faults.LayerFault.{LayerFault}
use Rattle.sheet_base.specs.declared.paths.PathKind.{PathKind}
use Rattle.sheet_base.specs.declared.paths.PathKind.TheVariants as kinds
use Rattle.sheet_base.specs.declared.edits.Edit.{Edit}
use Rattle.sheet_base.specs.declared.edits.What.TheVariants.{Bounds}
use Rattle.sheet_base.specs.Splices.{AreInOrder}
use Rattle.sheet_base.specs.Sheets.{AreTiled, IsSheet}
use Rattle.gj_layer.specs.declared.forms.GeoType.{GeoType}
use Rattle.gj_layer.specs.declared.forms.Holder.{Holder}
use Rattle.gj_layer.specs.declared.forms.Holder.TheVariants as holders
use Rattle.gj_layer.specs.declared.forms.Trace.{Trace}
use Rattle.gj_layer.specs.declared.forms.Trace.TheVariants as traces
use Rattle.gj_layer.specs.declared.forms.ValueForm.{ValueForm}
use Rattle.gj_layer.specs.declared.forms.ValueForm.TheVariants as forms
use Rattle.gj_layer.specs.declared.positions.PositionRead.{PositionRead}
use Rattle.sheet_base.specs.Faults.{and_then}
use Rattle.gj_layer.specs.Members.{Member, members_at, all_named, find_member}
use Rattle.gj_layer.specs.Positions.{position_from, number, some_height, with_height, array_position, position}
use Rattle.gj_layer.specs.Positions.{positions, in_front, position_of}
use Rattle.sheet_base.proofs.RingLemmas.{closed_many}
use Rattle.gj_layer.specs.Paths.{Path, Part, nothing, joint_part, path_of, end_of, dot_of, line_of, ring_of, paths_of_trace}
use Rattle.gj_layer.specs.Paths.{part_of, rows_from, vertices_of, sheet_of, is_ring}
use Rattle.gj_layer.specs.Objects.{content_key, content_form, find_crs, type_in, object_type, with_content}
use Rattle.gj_layer.specs.Objects.{member_edits, object_part}
use Rattle.gj_layer.specs.Documents.{item_form, null_part, part_in, reading, readings, content_reading}
use Rattle.gj_layer.proofs.OpenObjects.EditLayout.{MembersFine}
use Rattle.gj_layer.proofs.Members.ObjectTypes.{kept_type}
use Rattle.gj_layer.proofs.Coordinates.ReadHeights.{position_reach}
use Rattle.gj_layer.proofs.OpenObjects.OpenValues.{no_content_read, fits_content, fits_without, at_most_is, at_most_none}
use Rattle.gj_layer.proofs.Coordinates.PathsSoFar.{length-vertices}

-- a step that came to a value
pub split_then : {A B : Type 0} (f : A → Result B LayerFault) (r : Result A LayerFault) (made : B)
    → and_then f r ≡ Ok made → (value : A) × (r ≡ Ok value) × (f value ≡ Ok made)
split_then f (Ok value) made h = (value, refl, h)
split_then f (Err fault) made h = cc

-- the height of a point is within reach
abbrev pub IsLevel : Position → Type 0
IsLevel vertex = IsHeightWithinReach vertex.height

-- the path has points, just one where it is a dot, and their heights are within reach
abbrev pub IsSound : Path → Type 0
IsSound path = (0 < length path.positions) × (path.kind ≡ kinds.Dot → length path.positions ≡ 1)
    × AllByRecursion IsLevel path.positions

pub record IsFine (from past : ℕ) (part : Part) : Type 0 where
  pub sound : AllByRecursion IsSound part.paths
  pub order : AreInOrder from part.edits past

pub order_wider : (from past : ℕ) (edits : List Edit) (earlier later : ℕ) → earlier ≤ from → past ≤ later
    → AreInOrder from edits past → AreInOrder earlier edits later
order_wider from past [] earlier later a b order = omega (arith, a, b, order)
order_wider from past (edit ∷ edits) earlier later a b order =
    (omega (arith, a, order.0), order.1, order_wider edit.end past edits edit.end later (omega arith) b order.2)

order_append : (from : ℕ) (xs : List Edit) (middle : ℕ) (ys : List Edit) (past : ℕ) → AreInOrder from xs middle
    → AreInOrder middle ys past → AreInOrder from (xs ++ ys) past
order_append from [] middle ys past first second = order_wider middle past ys from past first (omega arith) second
order_append from (edit ∷ xs) middle ys past first second =
    (first.0, first.1, order_append edit.end xs middle ys past first.2 second)

fine_wider : (from past : ℕ) (part : Part) (earlier later : ℕ) → earlier ≤ from → past ≤ later
    → IsFine from past part → IsFine earlier later part
fine_wider from past part earlier later a b fine =
    record { sound = fine.sound; order = order_wider from past part.edits earlier later a b fine.order }

fine_joined : (from middle past : ℕ) (one next : Part) → IsFine from middle one → IsFine middle past next
    → IsFine from past (joint_part one next)
fine_joined from middle past one next first second = grind (arith, all_append, order_append)

fine_nothing : (from past : ℕ) → from ≤ past → IsFine from past nothing
fine_nothing from past le = record { sound = tt; order = le }

-- positions follow one another
abbrev AreSpanned : ℕ → List PositionRead → ℕ → Type 0
AreSpanned from [] past = from ≤ past
AreSpanned from (one ∷ more) past = (from ≤ one.start) × (one.start ≤ one.end) × AreSpanned one.end more past

spanned_wider : (from past : ℕ) (all : List PositionRead) (earlier later : ℕ) → earlier ≤ from → past ≤ later
    → AreSpanned from all past → AreSpanned earlier all later
spanned_wider from past [] earlier later a b are = omega (arith, a, b, are)
spanned_wider from past (one ∷ more) earlier later a b are =
    (omega (arith, a, are.0), are.1, spanned_wider one.end past more one.end later (omega arith) b are.2)

spanned_end : (one : PositionRead) (more : List PositionRead) (past : ℕ) → AreSpanned one.end more past
    → (one.end ≤ end_of one more) × (end_of one more ≤ past)
spanned_end one [] past are = (omega arith, are)
spanned_end one (next ∷ more) past are = let later =
    spanned_end next more past are.2 in (omega (arith, are.0, are.1, later.0), later.1)

from_is : (start end : ℕ) (x y : Result MmRead LayerFault) (z : Result (Option MmRead) LayerFault) (one : PositionRead)
    → position_from start end x y z ≡ Ok one → (one.start ≡ start) × (one.end ≡ end)
from_is start end (Ok x) (Ok y) (Ok z) one is = grind (arith)
from_is start end x y z one is = cc

with_is : (exact : Bool) (place : ℕ) (elements : Elements) (start end : ℕ) (x y : Result MmRead LayerFault)
    (one : PositionRead) → with_height exact place elements (position_from start end x y) ≡ Ok one
    → (one.start ≡ start) × (one.end ≡ end)
with_is exact place no_element start end x y one is = from_is start end x y (Ok None) one is
with_is exact place (element before z after no_element) start end x y one is =
    from_is start end x y (some_height (number exact _ z)) one is
with_is exact place (element before z after (element blank fourth more rest)) start end x y one is = cc

array_is : (exact : Bool) (start end place : ℕ) (elements : Elements) (one : PositionRead)
    → array_position exact start end place elements ≡ Ok one → (one.start ≡ start) × (one.end ≡ end)
array_is exact start end place (element before x behind (element ahead y after rest)) one is =
    with_is exact _ rest start end (number exact _ x) (number exact _ y) one is
array_is exact start end place elements one is = cc

pub position_is : (exact : Bool) (start : ℕ) (value : Json) (one : PositionRead) → position exact start value ≡ Ok one
    → (one.start ≡ start) × (one.end ≡ start + length (spelling value))
position_is exact start (array blank elements) one is =
    array_is exact start (start + length (spelling (array blank elements))) (inner_place start blank) elements one is
position_is exact start _ one is = cc

-- how long elements are, from the first on and from after a comma on
pub text_length : (before : List ℕ) (value : Json) (after : List ℕ) (rest : Elements) (place : ℕ)
    → place + length (elements_text (element before value after rest)) ≡ element_start place before
    + length (spelling value) + length after + length (elements_behind rest)
text_length before value after rest place = grind (arith, length-append)

positions_spanned : (exact : Bool) (place : ℕ) (elements : Elements) (all : List PositionRead)
    → positions exact place elements ≡ Ok all → AreSpanned place all (place + length (elements_text elements))
positions_spanned exact place no_element all is = let none : [] ≡ all =
    cc in subst (λ (ps : List PositionRead). AreSpanned place ps (place + length (elements_text no_element))) none
    (omega arith)
positions_spanned exact place (element before value after rest) all is =
    let start = element_start place before in
    let (one, one_is, onward) = split_then (λ one. and_then (in_front one)
    (positions exact (next_place start value after) rest)) (position exact start value) all is in
    let (more, more_is, made) = split_then (in_front one) (positions exact (next_place start value after) rest) all
    onward in
    let same : one ∷ more ≡ all = cc in
    let ends = position_is exact start value one one_is in
    let here = text_length before value after rest place in
    let others = positions_spanned exact (next_place start value after) rest more more_is in
    subst (λ (ps : List PositionRead). AreSpanned place ps
    (place + length (elements_text (element before value after rest)))) same (
      omega (arith, ends.0),
      omega (arith, ends.0, ends.1),
      rest_spanned rest one.end (next_place start value after)
          (place + length (elements_text (element before value after rest))) more more_is
          (omega (arith, ends.1)) (omega (arith, ends.1, here)) (λ some. omega (arith, here, some)) others,
    )
  where
    rest_spanned : (rest : Elements) (from next past : ℕ) (more : List PositionRead)
        → positions exact next rest ≡ Ok more
        → from ≤ next → from ≤ past
        → (length (elements_behind rest) ≡ 1 + length (elements_text rest) → next + length (elements_text rest) ≤ past)
        → AreSpanned next more (next + length (elements_text rest)) → AreSpanned from more past
    rest_spanned no_element from next past more is a b fits are = let none : [] ≡ more =
        cc in subst (λ (ps : List PositionRead). AreSpanned from ps past) none b
    rest_spanned (element before value after rest) from next past more is a b fits are = grind (arith, spanned_wider)

-- their heights are within reach
positions_reach : (exact : Bool) (place : ℕ) (elements : Elements) (all : List PositionRead)
    → positions exact place elements ≡ Ok all → AllByRecursion IsLevel (map position_of all)
positions_reach exact place no_element all is = let none : [] ≡ all =
    cc in subst (λ (ps : List PositionRead). AllByRecursion IsLevel (map position_of ps)) none tt
positions_reach exact place (element before value after rest) all is =
    let start = element_start place before in
    let (one, one_is, onward) = split_then (λ one. and_then (in_front one)
    (positions exact (next_place start value after) rest)) (position exact start value) all is in
    let (more, more_is, made) = split_then (in_front one) (positions exact (next_place start value after) rest) all
    onward in
    let same : one ∷ more ≡ all = cc in
    subst (λ (ps : List PositionRead). AllByRecursion IsLevel (map position_of ps)) same (
      position_reach exact start value one one_is,
      positions_reach exact (next_place start value after) rest more
          more_is,
    )

-- one path of positions that are there
path_fine : (number from past : ℕ) (kind : PathKind) (vertices : List Position) (all : List PositionRead) (part : Part)
    → AreSpanned from all past → (0 < length all → (0 < length vertices) × (kind ≡ kinds.Dot → length vertices ≡ 1))
    → AllByRecursion IsLevel vertices → part_of number (path_of kind vertices all) ≡ Ok part → IsFine from past part
path_fine number from past kind vertices [] part are sound reach is =
    let none : nothing ≡ part = cc in subst (IsFine from past) none (fine_nothing from past are)
path_fine number from past kind vertices (one ∷ more) part are sound reach is = grind (arith, spanned_end)

dot_fine : (exact : Bool) (number start : ℕ) (value : Json) (part : Part)
    → and_then (part_of number) (and_then dot_of (position exact start value)) ≡ Ok part
    → IsFine start (start + length (spelling value)) part
dot_fine exact number start value part is = grind (arith, split_then, position_is, path_fine, position_reach)

array_spanned : (exact : Bool) (start : ℕ) (blank : List ℕ) (elements : Elements) (all : List PositionRead)
    → positions exact (inner_place start blank) elements ≡ Ok all
    → AreSpanned start all (start + length (spelling (array blank elements)))
array_spanned exact start blank elements all is =
    let text = length-append blank (elements_text elements ++ 93 ∷ []) in
    let inner = length-append (elements_text elements) (93 ∷ []) in
    spanned_wider (inner_place start blank) (inner_place start blank + length (elements_text elements)) all start
    (start + length (spelling (array blank elements))) (omega arith) (omega (arith, text, inner))
    (positions_spanned exact (inner_place start blank) elements all is)

pub closed_ring : (start : ℕ) (all : List PositionRead) (paths : List Path) → ring_of start all ≡ Ok paths
    → (is_ring (map position_of all) ≡ true) × (path_of kinds.Loop
    (take (length (map position_of all) - 1) (map position_of all)) all ≡ paths)
closed_ring start all paths is = grind (arith)

pub ring_many : (ring : List Position) → is_ring ring ≡ true → 4 ≤ length ring
ring_many ring closed = grind (arith, closed_many, and_parts, length-map)

traced_fine : (exact : Bool) (trace : Trace) (number start : ℕ) (blank : List ℕ) (elements : Elements) (part : Part)
    → and_then (part_of number) (paths_of_trace exact trace start (array blank elements)) ≡ Ok part
    → IsFine start (start + length (spelling (array blank elements))) part
traced_fine exact traces.Point number start blank no_element part is = let none : nothing ≡ part =
    cc in subst (IsFine start (start + length (spelling (array blank no_element)))) none
    (fine_nothing start _ (omega arith))
traced_fine exact traces.Point number start blank (element before value after rest) part is =
    dot_fine exact number start (array blank (element before value after rest)) part is
traced_fine exact traces.Position number start blank elements part is =
    dot_fine exact number start (array blank elements) part is
traced_fine exact traces.Line number start blank elements part is =
    let (paths, read, made) = split_then (part_of number)
    (and_then line_of (positions exact (inner_place start blank) elements)) part is in
    let (all, all_is, line) = split_then line_of (positions exact (inner_place start blank) elements) paths read in
    let same : path_of kinds.Line (map position_of all) all ≡ paths = cc in
    path_fine number start (start + length (spelling (array blank elements))) kinds.Line (map position_of all) all part
    (array_spanned exact start blank elements all all_is)
    (λ some. (omega (arith, some, length-map all position_of), λ dot. cc))
    (positions_reach exact (inner_place start blank) elements all all_is) (ap (part_of number) same ∙ made)
traced_fine exact traces.Ring number start blank elements part is =
    let (paths, read, made) = split_then (part_of number)
    (and_then (ring_of start) (positions exact (inner_place start blank) elements)) part is in
    let (all, all_is, ring) = split_then (ring_of start) (positions exact (inner_place start blank) elements) paths
    read in
    let vertices = map position_of all in
    let (closed, same) = closed_ring start all paths ring in
    let four = ring_many vertices closed in
    let kept = length-take (length vertices - 1) vertices in
    path_fine number start (start + length (spelling (array blank elements))) kinds.Loop
    (take (length vertices - 1) vertices) all part (array_spanned exact start blank elements all all_is)
    (λ some. (omega (arith, kept, four), λ dot. cc))
    (all_parts IsLevel (length vertices - 1) vertices
    (positions_reach exact (inner_place start blank) elements all all_is)).0 (ap (part_of number) same ∙ made)

pub tested : (test : Bool) → (test ≡ true) ⊎ (test ≡ false)
tested true = inl refl
tested false = inr refl

pub member_length : (before key_text behind ahead text after rest : List ℕ)
    → length (before ++ (key_text ++ (behind ++ 58 ∷ (ahead ++ (text ++ (after ++ rest)))))) ≡ length before
    + length key_text + length behind + 1 + length ahead + length text + length after + length rest
member_length before key_text behind ahead text after rest = simp length-append (omega arith)

members_length : (place : ℕ) (before : List ℕ) (key : List Char) (behind ahead : List ℕ) (value : Json) (after : List ℕ)
    (rest : Members)
    → place + length (members_text (member before key behind ahead value after rest))
    ≡ member_start place before key behind ahead + length (spelling value) + length after + length (members_behind rest)
members_length place before key behind ahead value after rest =
    let whole = member_length before (quoted_text key) behind ahead (spelling value) after
    (members_behind rest) in omega (arith, whole)

-- so do those of all members, one after the other
members_order : (edits : Member → List Edit) (place : ℕ) (members : Members)
    → MembersFine edits (members_at place members)
    → AreInOrder place (flat_map edits (members_at place members)) (place + length (members_text members))
members_order edits place no_member fine = omega arith
members_order edits place (member before key behind ahead value after rest) fine =
    let start = member_start place before key behind ahead in
    let one : Member = record { key_start = element_start place before; key = key; start = start; value = value } in
    let whole = members_length place before key behind ahead value after rest in
    order_append place (edits one) (start + length (spelling value))
    (flat_map edits (members_at (next_place start value after) rest))
    (place + length (members_text (member before key behind ahead value after rest)))
    (order_wider start (start + length (spelling value)) (edits one) place (start + length (spelling value))
    (omega arith) (omega arith) fine.0)
    (rest_order rest (start + length (spelling value)) (next_place start value after)
    (place + length (members_text (member before key behind ahead value after rest))) (omega arith)
    (omega (arith, whole))
    (λ some. omega (arith, whole, some)) (members_order edits (next_place start value after) rest fine.1))
  where
    rest_order : (rest : Members) (from next past : ℕ) → from ≤ next → from ≤ past
        → (length (members_behind rest) ≡ 1 + length (members_text rest) → next + length (members_text rest) ≤ past)
        → AreInOrder next (flat_map edits (members_at next rest)) (next + length (members_text rest))
        → AreInOrder from (flat_map edits (members_at next rest)) past
    rest_order no_member from next past a b fits order = b
    rest_order (member before key behind ahead value after rest) from next past a b fits order =
        grind (arith, order_wider)

-- what is looked at of an object whose type is read
found_content : (holder : Holder) (start : ℕ) (members : List Member) (type : GeoType)
    → object_type holder start members ≡ Ok type
    → (found : Option Member) × (find_member (content_key type) members ≡ Ok found)
found_content holder start members type is =
    let (told, told_is, a) = split_then _ (find_member (codes "type") members) type is in
    let (bbox, bbox_is, b) = split_then _ (find_member (codes "bbox") members) type a in
    let (crs, crs_is, c) = split_then _ (find_crs holder members) type b in
    let (kind, kind_is, d) = split_then _ (type_in holder start told) type c in
    let (found, found_is, e) = split_then (with_content kind start) (find_member (content_key kind) members) type d in
    let same = kept_type kind start found type (sym e) in
    (found, ap (λ t. find_member (content_key t) members) same ∙ found_is)

null_fine : (form : ValueForm) (start past : ℕ) (part : Part) → start ≤ past → null_part form start ≡ Ok part
    → IsFine start past part
null_fine forms.Optional start past part le is = let none : nothing ≡ part =
    cc in subst (IsFine start past) none (fine_nothing start past le)
null_fine form start past part le is = cc

object_length : (start : ℕ) (blank : List ℕ) (members : Members)
    → inner_place start blank + length (members_text members) ≤ start + length (spelling (object blank members))
object_length start blank members = grind (arith, length-append)

array_length : (start : ℕ) (blank : List ℕ) (elements : Elements)
    → inner_place start blank + length (elements_text elements) ≤ start + length (spelling (array blank elements))
array_length start blank elements = grind (arith, length-append)

-- an object, where its content is fine
object_fine : (exact : Bool) (holder : Holder) (number start : ℕ) (blank : List ℕ) (members : Members) (part : Part)
    → ((type : GeoType) (inside : Part) (one : Member)
    → content_reading exact number (inner_place start blank) members type ≡ Ok inside
    → all_named (content_key type) (members_at (inner_place start blank) members) ≡ one ∷ []
    → IsFine one.start (one.start + length (spelling one.value)) inside)
    → part_in (Some holder) number start (members_at (inner_place start blank) members)
    (content_reading exact number (inner_place start blank) members) ≡ Ok part
    → IsFine start (start + length (spelling (object blank members))) part
object_fine exact holder number start blank members part content is =
    let all = members_at (inner_place start blank) members in
    let (type, type_is, rest) = split_then (λ type. and_then (λ inside. Ok (object_part holder type number all inside))
    (content_reading exact number (inner_place start blank) members type)) (object_type holder start all) part is in
    let (inside, inside_is, made) = split_then (λ inside. Ok (object_part holder type number all inside))
    (content_reading exact number (inner_place start blank) members type) part rest in
    let same : object_part holder type number all inside ≡ part = cc in
    let (found, found_is) = found_content holder start all type type_is in
    subst (IsFine start (start + length (spelling (object blank members)))) same
    (by holder type inside inside_is found found_is)
  where
    by : (holder : Holder) (type : GeoType) (inside : Part)
        → content_reading exact number (inner_place start blank) members type ≡ Ok inside → (found : Option Member)
        → find_member (content_key type) (members_at (inner_place start blank) members) ≡ Ok found
        → IsFine start (start + length (spelling (object blank members)))
        (object_part holder type number (members_at (inner_place start blank) members) inside)
    by holder type inside inside_is (Some one) found_is =
        let only = at_most_is (all_named (content_key type) (members_at (inner_place start blank) members)) one
        found_is in
        let fine = content type inside one inside_is only in
        record {
          sound = fine.sound;
          order = order_wider (inner_place start blank) (inner_place start blank + length (members_text members)) _
              start _ (omega arith) (object_length start blank members)
              (members_order (member_edits holder type (Bounds number (number + length inside.paths)) inside.edits)
              (inner_place start blank) members
              (fits_content holder type (inner_place start blank) members (Bounds number (number + length inside.paths))
              one inside.edits only fine.order));
        }
    by holder type inside inside_is None found_is =
        let none = at_most_none (all_named (content_key type) (members_at (inner_place start blank) members))
        found_is in
        let same : nothing ≡ inside = let read =
        no_content_read exact number (inner_place start blank) members type none in cc in
        subst (λ i. IsFine start (start + length (spelling (object blank members)))
        (object_part holder type number (members_at (inner_place start blank) members) i)) same
        (record {
          sound = tt;
          order = order_wider (inner_place start blank) (inner_place start blank + length (members_text members)) _
              start _ (omega arith) (object_length start blank members)
              (members_order (member_edits holder type (Bounds number (number + 0)) []) (inner_place start blank)
              members
              (fits_without holder type (inner_place start blank) members (Bounds number (number + 0)) none));
        })

rest_fine : (exact : Bool) (form : ValueForm) (rest : Elements) (number from next past : ℕ) (others : Part)
    → readings exact form number next rest ≡ Ok others → from ≤ next → from ≤ past
    → (length (elements_behind rest) ≡ 1 + length (elements_text rest) → next + length (elements_text rest) ≤ past)
    → IsFine next (next + length (elements_text rest)) others → IsFine from past others
rest_fine exact form no_element number from next past others is a b fits fine = let none : nothing ≡ others =
    cc in subst (IsFine from past) none (fine_nothing from past b)
rest_fine exact form (element before value after rest) number from next past others is a b fits fine =
    grind (arith, fine_wider)

mutual
  pub value_fine : (value : Json) (exact : Bool) (form : ValueForm) (number start : ℕ) (part : Part)
      → reading exact form number start value ≡ Ok part → IsFine start (start + length (spelling value)) part
  value_fine null exact form number start part is = null_fine form start _ part (omega arith) is
  value_fine (array blank elements) exact (forms.List all) number start part is =
      fine_wider (inner_place start blank) (inner_place start blank + length (elements_text elements)) part start
      (start + length (spelling (array blank elements))) (omega arith) (array_length start blank elements)
      (elements_fine elements exact (item_form all) number (inner_place start blank) part is)
  value_fine (array blank elements) exact (forms.Path trace) number start part is =
      traced_fine exact trace number start blank elements part is
  value_fine (object blank members) exact (forms.Object holder) number start part is =
      object_fine exact holder number start blank members part
      (λ type inside one read only. content_fine members exact number (inner_place start blank) type inside one []
      read only) is
  value_fine (object blank members) exact forms.Optional number start part is =
      object_fine exact holders.Geometries number start blank members part
      (λ type inside one read only. content_fine members exact number (inner_place start blank) type inside one []
      read only) is
  value_fine _ exact form number start part is = cc

  elements_fine : (elements : Elements) (exact : Bool) (form : ValueForm) (number place : ℕ) (part : Part)
      → readings exact form number place elements ≡ Ok part
      → IsFine place (place + length (elements_text elements)) part
  elements_fine no_element exact form number place part is = let none : nothing ≡ part =
      cc in subst (IsFine place (place + length (elements_text no_element))) none (fine_nothing place _ (omega arith))
  elements_fine (element before value after rest) exact form number place part is =
      let start = element_start place before in
      let next = next_place start value after in
      let past = place + length (elements_text (element before value after rest)) in
      let (one, one_is, onward) = split_then (λ one. and_then (λ others. Ok (joint_part one others))
      (readings exact form (number + length one.paths) next rest)) (reading exact form number start value) part
      is in
      let (others, others_are, made) = split_then (λ others. Ok (joint_part one others))
      (readings exact form (number + length one.paths) next rest) part onward in
      let same : joint_part one others ≡ part = cc in
      let whole = text_length before value after rest place in
      subst (IsFine place past) same
      (fine_joined place (start + length (spelling value)) past one others
      (fine_wider start (start + length (spelling value)) one place (start + length (spelling value)) (omega arith)
      (omega arith) (value_fine value exact form number start one one_is))
      (rest_fine exact form rest (number + length one.paths) (start + length (spelling value)) next past others
      others_are (omega arith) (omega (arith, whole)) (λ some. omega (arith, whole, some))
      (elements_fine rest exact form (number + length one.paths) next others others_are)))

  content_fine : (members : Members) (exact : Bool) (number place : ℕ) (type : GeoType) (inside : Part) (one : Member)
      (more : List Member) → content_reading exact number place members type ≡ Ok inside
      → all_named (content_key type) (members_at place members) ≡ one ∷ more
      → IsFine one.start (one.start + length (spelling one.value)) inside
  content_fine no_member exact number place type inside one more is only = cc
  content_fine (member before key behind ahead value after rest) exact number place type inside one more is only =
      let start = member_start place before key behind ahead in
      let next = next_place start value after in
      let here : Member = record { key_start = element_start place before; key = key; start = start; value = value } in
      let others = all_named (content_key type) (members_at next rest) in
      elim (tested (are_same (units_of key) (content_key type))) [
        | inl t ↦
            let same : here ∷ others ≡ one ∷ more = sym (ap (λ b. if b then here ∷ others else others) t) ∙ only in
            let head : here ≡ one = cc in
            let read = sym (ap (λ b. if b then reading exact (content_form type) number start value else content_reading
            exact number next rest type) t) ∙ is in
            subst (λ (m : Member). IsFine m.start (m.start + length (spelling m.value)) inside) head
            (value_fine value exact (content_form type) number start inside read)
        | inr t ↦
            content_fine rest exact number next type inside one more
            (sym (ap (λ b. if b then reading exact (content_form type) number start value else content_reading exact
            number next rest type) t) ∙ is)
            (sym (ap (λ b. if b then here ∷ others else others) t) ∙ only)
      ]

tiled : (first past : ℕ) (paths : List Path) → AllByRecursion IsSound paths
    → past ≡ first + length (vertices_of paths) → AreTiled (rows_from first paths) first past
tiled first past [] are end = omega (arith, end)
tiled first past (path ∷ paths) are end =
    grind (arith, length-append, (tiled (first + length path.positions) past paths are.1))

-- ---- the sheet of a part
vertices_reach : (paths : List Path) → AllByRecursion IsSound paths → AllByRecursion IsLevel (vertices_of paths)
vertices_reach [] sound = tt
vertices_reach (path ∷ paths) sound =
    all_append IsLevel path.positions (vertices_of paths) sound.0.2 (vertices_reach paths sound.1)

none_listed : All IsHeightWithinReach []
none_listed k d h = absurd (omega (arith, h))

heights_reach : (vertices : List Position) → AllByRecursion IsLevel vertices
    → All IsHeightWithinReach (heights_of vertices)
heights_reach [] reach = none_listed
heights_reach (vertex ∷ vertices) reach =
    All-cons IsHeightWithinReach vertex.height (heights_of vertices) reach.0 (heights_reach vertices reach.1)

heights_count : (vertices : List Position) → length (heights_of vertices) ≡ length vertices
heights_count vertices = length-map vertices (λ (vertex : Position). vertex.height)

-- what a sheet keeps of the paths of a part
pub record IsPartOfSheet (part : Part) : Type 0 where
  pub tiled : AreTiled (sheet_of part).paths 0 (length (sheet_of part).points)
  pub one_height_each : length (sheet_of part).heights ≡ length (sheet_of part).points
  pub heights_in_reach : All IsHeightWithinReach (sheet_of part).heights

pub sheet_kept : (part : Part) → AllByRecursion IsSound part.paths → IsPartOfSheet part
sheet_kept part sound = grind (arith, length-vertices, heights_count, tiled, heights_reach, vertices_reach)

pub part_is_sheet : (part : Part) → AllByRecursion IsSound part.paths → length (sheet_of part).points < 2 ^ 32
    → IsSheet (sheet_of part)
part_is_sheet part sound few = grind (arith, sheet_kept, tiled)
