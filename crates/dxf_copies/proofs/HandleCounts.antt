-- How many handles edits in order take.
use Rattle.std.proofs.Common.{◌≡◌, ℕ, suc, zero, ◌+◌, ◌*◌, ◌-◌, ◌^◌, ◌≤◌, ◌<◌, List, [], ◌∷◌, length, take, drop, Bool}
use Rattle.std.proofs.Common.{true, false, cond, arith, add-zero, refl, subst, Option, None, Some}
use Rattle.std.specs.Prelude.{filter, sum_by, nat_lt, slice_index_or}
use Rattle.std.specs.List.{prefix_len}
use Rattle.std.proofs.lemmas.Bool.Decides.{nat_tests}
use Rattle.std.proofs.lemmas.List.{length-take, length-drop}
use Rattle.std.proofs.lemmas.List.Sums.{sum_by-cons, sum_by_more, prefix_len-le-length}
use Rattle.sheet_base.specs.declared.edits.Edit.{Edit}
use Rattle.sheet_base.specs.declared.edits.What.{What}
use Rattle.sheet_base.specs.declared.edits.What.TheVariants as edits
use Rattle.sheet_base.specs.declared.paths.PathRow.{PathRow}
use Rattle.sheet_base.specs.ImageFits.{Runs, HaveHeights, images_of, path_images, positions_of, path_positions}
use Rattle.sheet_base.specs.Splices.{AreInOrder}
use Rattle.sheet_base.proofs.SpliceLaws.{no_edit, next_edit}
use Rattle.dxf_pairs.specs.declared.pairs.Pair.{Pair}
use Rattle.dxf_entities.specs.Entities.{Entity}
use Rattle.dxf_copies.specs.Rendering.{Reading, starts_before, number_at, taken_by, taken_as, handles_of_edit}
use Rattle.dxf_copies.specs.Rendering.{first_handle, next_at, is_earlier}
use Rattle.sheet_base.proofs.DrawnPaths.{paired_length}
use Rattle.sheet_base.proofs.PositionLists.{paired_few}

-- more pairs come before a later place
front_grows : (near far : ℕ) (pairs : List Pair) → near ≤ far
    → prefix_len (starts_before near) pairs ≤ prefix_len (starts_before far) pairs
front_grows near far [] later = omega arith
front_grows near far (pair ∷ pairs) later = grind (arith, (front_grows near far pairs later))

number_grows : (read : Reading) (near far : ℕ) → near ≤ far → number_at read near ≤ number_at read far
number_grows read near far later = front_grows near far read.pairs later

pub number_within : (read : Reading) (place : ℕ) → number_at read place ≤ length read.pairs
number_within read place = prefix_len-le-length (starts_before place) read.pairs

few_images : (images : Runs) (first past : ℕ) → length (images_of images first past) ≤ length images.points
few_images images first past = simp (length-take, length-drop) (omega arith)

few_positions : (images : Runs) (first past : ℕ) → length (positions_of images first past) ≤ length images.points
few_positions images first past =
    let few = paired_few images.points images.heights in simp (length-take, length-drop) (omega (arith, few))

-- there are as many images with their heights
pub positions_count : (images : Runs) → HaveHeights images → (paths : List PathRow) (path : ℕ)
    → length (path_positions paths images path) ≡ length (path_images paths images path)
positions_count images kept paths path = grind (arith, paired_length, length-take, length-drop)

few_taken : (found : Option Entity) (copies : ℕ) → taken_by found copies ≤ copies
few_taken None copies = omega arith
few_taken (Some entity) copies = grind arith

-- one copy keeps the handle that there is
pub few_copies : (found : Option Entity) (copies : ℕ) → copies ≤ 1 → taken_by found copies ≡ 0
few_copies None copies few = refl
few_copies (Some entity) copies few = grind arith

-- an edit takes no more handles than there are images
as_few : (read : Reading) (place : ℕ) (what : What) → taken_as read place what ≤ length read.images.points
as_few read place (edits.Lines path) = grind (arith, few_taken, few_positions)
as_few read place (edits.Vertex point) = grind (arith, few_taken, few_images)
as_few read place (edits.WktList path) = omega arith
as_few read place (edits.WktRing path) = omega arith
as_few read place (edits.GeoList path) = omega arith
as_few read place (edits.GeoRing path) = omega arith
as_few read place (edits.Bounds first past) = omega arith
as_few read place edits.Null = omega arith
as_few read place (edits.X point) = omega arith
as_few read place (edits.Y point) = omega arith
as_few read place (edits.Vertices point) = omega arith
as_few read place (edits.Tally first past) = omega arith
as_few read place edits.NextHandle = omega arith
as_few read place edits.Drop = omega arith

-- and none where its span is empty
spans_take : (read : Reading) (edit : Edit) → length read.images.points < 2 ^ 32 → edit.start ≤ edit.end
    → handles_of_edit read edit + 2 ^ 32 * edit.start ≤ 2 ^ 32 * edit.end
spans_take read edit few ends = grind (arith, as_few)

none_taken : (read : Reading) (edit : Edit) → edit.end ≤ edit.start → handles_of_edit read edit ≡ 0
none_taken read edit empty = let is : nat_lt edit.start edit.end ≡ false = grind (arith, nat_tests) in rw is refl

none_earlier : (read : Reading) (place from : ℕ) (edits : List Edit) (past : ℕ) → AreInOrder from edits past
    → place ≤ from → sum_by (handles_of_edit read) (filter (is_earlier place) edits) ≡ 0
none_earlier read place from [] past order before = refl
none_earlier read place from (edit ∷ edits) past order before =
    grind (arith, (none_earlier read place edit.end edits past order.2 (omega (arith, order.0, order.1))))

starts_behind : (from : ℕ) (edits : List Edit) (past i : ℕ) → AreInOrder from edits past → i < length edits
    → from ≤ (slice_index_or edits i no_edit).start
starts_behind from [] past i order within = absurd (omega arith)
starts_behind from (edit ∷ edits) past zero order within = order.0
starts_behind from (edit ∷ edits) past (suc i) order within =
    omega (arith, order.0, order.1, starts_behind edit.end edits past i order.2 (omega arith))

-- the edits before one in order take what those that begin earlier take
pub earlier_take : (read : Reading) (from : ℕ) (edits : List Edit) (past i : ℕ) → AreInOrder from edits past
    → i < length edits
    → sum_by (handles_of_edit read) (filter (is_earlier (slice_index_or edits i no_edit).start) edits)
    ≡ sum_by (handles_of_edit read) (take i edits)
earlier_take read from [] past i order within = absurd (omega arith)
earlier_take read from (edit ∷ edits) past zero order within = grind (arith, none_earlier)
earlier_take read from (edit ∷ edits) past (suc i) order within =
    by_test (is_earlier place edit) refl (earlier_take read edit.end edits past i order.2 (omega arith))
    (starts_behind edit.end edits past i order.2 (omega arith)) where
      place : ℕ
      place = (slice_index_or edits i no_edit).start

      by_test : (earlier : Bool) → is_earlier place edit ≡ earlier
          → sum_by (handles_of_edit read) (filter (is_earlier place) edits) ≡ sum_by (handles_of_edit read) (take i edits)
          → edit.end ≤ place → sum_by (handles_of_edit read) (cond earlier (edit ∷ filter (is_earlier place) edits)
          (filter (is_earlier place) edits)) ≡ sum_by (handles_of_edit read) (edit ∷ take i edits)
      by_test true is rest behind = rw (
        sum_by-cons (handles_of_edit read) edit (filter (is_earlier place) edits),
        sum_by-cons (handles_of_edit read) edit (take i edits),
        rest,
      ) refl
      by_test false is rest behind = grind (arith, place, sum_by-cons, none_taken)

-- after this many edits, up to a place: no more pairs were passed than come before it, and the handles of these edits
-- were counted
pub record AreCounted (read : Reading) (edits : List Edit) (size i number next : ℕ) : Type 0 where
  pub from : ℕ
  pub order : AreInOrder from (drop i edits) size
  pub front : number ≤ number_at read from
  pub so_far : next ≡ first_handle read + sum_by (handles_of_edit read) (take i edits)
  pub small : next ≤ first_handle read + 2 ^ 32 * from

pub one_counted : (read : Reading) (edits : List Edit) (i number next place taking : ℕ)
    → length read.images.points < 2 ^ 32 → i < length edits → AreCounted read edits (length read.bytes) i number next
    → place ≤ number_at read (slice_index_or edits i no_edit).start
    → taking ≡ handles_of_edit read (slice_index_or edits i no_edit)
    → AreCounted read edits (length read.bytes) (i + 1) place (next + taking)
one_counted read edits i number next place taking few more counted passed taking_is =
    grind (arith, no_edit, next_edit, number_grows, sum_by_more, spans_take)

-- the next handle is small before each of the edits, and after it
pub counts_small : (read : Reading) (edits : List Edit) (i number next : ℕ) → length read.images.points < 2 ^ 32
    → length read.bytes ≤ 2 ^ 26 → first_handle read < 2 ^ 60 → i < length edits
    → AreCounted read edits (length read.bytes) i number next
    → next + handles_of_edit read (slice_index_or edits i no_edit) < 2 ^ 63
counts_small read edits i number next few short small more counted = grind (arith, no_edit, next_edit, spans_take)

-- the pairs that were passed come before the next of the edits
pub passed_before : (read : Reading) (edits : List Edit) (i number next : ℕ) → i < length edits
    → AreCounted read edits (length read.bytes) i number next
    → number ≤ number_at read (slice_index_or edits i no_edit).start
passed_before read edits i number next more counted = grind (arith, no_edit, next_edit, number_grows)

-- an edit that takes none was counted
pub none_more : (read : Reading) (edits : List Edit) (i number next : ℕ) → length read.images.points < 2 ^ 32
    → i < length edits → AreCounted read edits (length read.bytes) i number next
    → 0 ≡ handles_of_edit read (slice_index_or edits i no_edit) → AreCounted read edits (length read.bytes) (i + 1) number next
none_more read edits i number next few more counted none =
    subst (λ (now : ℕ). AreCounted read edits (length read.bytes) (i + 1) number now) (add-zero next)
    (one_counted read edits i number next number 0 few more counted
    (passed_before read edits i number next more counted) none)

-- the next handle is the one where the next edit is
pub next_is : (read : Reading) (edits : List Edit) (i number next : ℕ) → edits ≡ read.sheet.edits
    → AreInOrder 0 edits (length read.bytes) → i < length edits
    → AreCounted read edits (length read.bytes) i number next
    → next_at read (slice_index_or edits i no_edit).start ≡ next
next_is read edits i number next edits_are order more counted = grind (arith, no_edit, earlier_take)
