-- The pairs of a spliced text, of edits and of copies.
use Rattle.std.proofs.Common.{◌≡◌, ℕ, ◌+◌, ◌≤◌, ◌<◌, pos, List, [], ◌∷◌, ◌++◌, length, true, false, refl, ap, ◌∙◌}
use Rattle.std.proofs.Common.{arith, inl, inr, None, zero, suc, ◌-◌, take, drop, Bool, sym, subst, Option, Some, map, ℤ}
use Rattle.std.proofs.Common.{cond}
use Rattle.std.specs.Prelude.{◌⊎◌, ⊤, nat_lt, filter, flat_map, if◌then◌else◌}
use Rattle.std.specs.List.{find, list_any, prefix_len}
use Rattle.std.proofs.lemmas.Bool.Decides.{nat_tests, Decides-int_eq}
use Rattle.std.proofs.lemmas.List.{length-append, length-take, append-nil, append_assoc, drop-drop, take-append-drop}
use Rattle.std.proofs.Math.Seq.{take-add, take-append_seam, drop-append_seam}
use Rattle.plain_laws.proofs.Booleans.{and_first}
use Rattle.sheet_base.specs.declared.edits.Edit.{Edit}
use Rattle.sheet_base.specs.Splices.{AreInOrder, spliced_from}
use Rattle.sheet_base.proofs.SpliceLaws.{order_earlier}
use Rattle.dxf_pairs.specs.declared.pairs.Pair.{Pair}
use Rattle.dxf_pairs.specs.declared.line_ends.TheConstants.{LINE_FEED}
use Rattle.dxf_pairs.specs.Lines.{between}
use Rattle.dxf_pairs.specs.Groups.{Group, groups_of, group_in, first_group, value_in}
use Rattle.dxf_pairs.specs.Laws.{AreTiles}
use Rattle.dxf_pairs.specs.InLines.{IsValue, StandsInLines, EndsDrawing, AreInLines, GroupsFollow}
use Rattle.dxf_pairs.specs.Pairs.{ends_drawing}
use Rattle.dxf_pairs.proofs.PairTiles.{tiles_upto}
use Rattle.dxf_entities.specs.Entities.{is_coded, Entity, entity_end, entity_of}
use Rattle.dxf_entities.specs.Fields.{entity_fields}
use Rattle.dxf_entities.specs.Polylines.{is_group_code}
use Rattle.dxf_copies.specs.Rendering.{Reading, text_of, value_for, value_text, copied_with, copied_from, copy_text}
use Rattle.dxf_copies.specs.Rendering.{starts_before, entity_at, coded_before, last_coded}
use Rattle.dxf_copies.specs.PairGroups.{begins_at, covers, is_of_value, value_with}
use Rattle.dxf_copies.specs.declared.copies.Copied.{Copied}
use Rattle.dxf_copies.specs.declared.copies.Value.{Value}
use Rattle.dxf_copies.specs.declared.copies.Value.TheVariants as values
use Rattle.dxf_entities.proofs.WrittenGroups.{plain_value, plain_digits, plain_written}
use Rattle.dxf_entities.proofs.ChangedFields.{with_value}

-- ---- edits that are at the pairs of a drawing, and the groups of a pair by the edits that are left
-- a text of whole pairs adds its groups in front of another
abbrev pub AddsGroups : List ℕ → Type 0
AddsGroups text = (more : List ℕ) → groups_of (text ++ more) ≡ groups_of text ++ groups_of more

-- an edit replaces the value of the pair
pub record IsOfValue (read : Reading) (pair : Pair) (edit : Edit) : Type 0 where
  pub start : edit.start ≡ pair.value
  pub end : edit.end ≡ pair.value_end
  pub some : pair.value < pair.value_end
  pub no_head : is_coded (pos 0) pair ≡ false
  pub text : IsValue (text_of read edit)

-- one of the pairs starts at this place
abbrev pub StartsAt : ℕ → List Pair → Type 0
StartsAt place [] = ⊥
StartsAt place (pair ∷ pairs) = (pair.start ≡ place) ⊎ StartsAt place pairs

-- an edit replaces pairs from the first one on, or none
pub record IsOfPairs (read : Reading) (pair : Pair) (pairs : List Pair) (edit : Edit) : Type 0 where
  pub start : edit.start ≡ pair.start
  pub end : StartsAt edit.end (pair ∷ pairs)
  pub text : AddsGroups (text_of read edit)

abbrev pub StandsOn : Reading → List Pair → Edit → Type 0
StandsOn read [] edit = ⊥
StandsOn read (pair ∷ pairs) edit = IsOfValue read pair edit
    ⊎ (IsOfPairs read pair pairs edit ⊎ StandsOn read pairs edit)

abbrev pub StandOn : Reading → List Pair → List Edit → Type 0
StandOn read pairs [] = ⊤
StandOn read pairs (edit ∷ edits) = StandsOn read pairs edit × StandOn read pairs edits

-- the groups that stand for a pair, by these edits
abbrev pub kept_in : Reading → List Edit → Pair → List Group
kept_in read edits pair = if list_any (covers pair) edits then [] else
    record { code = pair.code; value = value_with read pair (find (is_of_value pair) edits) } ∷ []

abbrev pub groups_in : Reading → List Edit → Pair → List Group
groups_in read edits pair = flat_map (λ (edit : Edit). groups_of (text_of read edit)) (filter (begins_at pair) edits)
    ++ kept_in read edits pair

-- a pair that goes on has its line feed after its value
feed_behind : (bytes : List ℕ) (pair : Pair) → StandsInLines bytes pair → pair.value_end < pair.end
feed_behind bytes pair (first, before, behind, is) =
    let size : length (between pair.value_end pair.end bytes) ≡ length (behind ++ LINE_FEED ∷ []) = cc in
    let sizes : length (behind ++ LINE_FEED ∷ []) ≡ length behind + length (LINE_FEED ∷ []) =
    length-append behind (LINE_FEED ∷ []) in omega (arith, simp length-take at size)

-- an edit of pairs from this place on starts there or later
starts_behind : (read : Reading) (start line past : ℕ) (pairs : List Pair) (edit : Edit)
    → AreTiles start line pairs past → StandsOn read pairs edit → start ≤ edit.start
starts_behind read start line past [] edit tiles on = absurd on
starts_behind read start line past (pair ∷ pairs) edit tiles (inl value) = omega (arith, tiles.2, value.start)
starts_behind read start line past (pair ∷ pairs) edit tiles (inr (inl whole)) = omega (arith, tiles.0, whole.start)
starts_behind read start line past (pair ∷ pairs) edit tiles (inr (inr on)) =
    omega (arith, tiles.2, tiles.3, tiles.4, starts_behind read pair.end (line + 2) past pairs edit tiles.5 on)

-- an edit that starts after the first pair is at the others
stands_later : (read : Reading) (start line past : ℕ) (pair : Pair) (pairs : List Pair) (edit : Edit)
    → pair.value_end < pair.end → AreTiles start line (pair ∷ pairs) past → pair.end ≤ edit.start
    → StandsOn read (pair ∷ pairs) edit → StandsOn read pairs edit
stands_later read start line past pair pairs edit feed tiles behind (inl value) =
    absurd (omega (arith, tiles.3, value.start))
stands_later read start line past pair pairs edit feed tiles behind (inr (inl whole)) =
    absurd (omega (arith, tiles.0, tiles.2, tiles.3, whole.start))
stands_later read start line past pair pairs edit feed tiles behind (inr (inr on)) = on

stand_later : (read : Reading) (start line past place size : ℕ) (pair : Pair) (pairs : List Pair)
    (edits : List Edit) → pair.value_end < pair.end → AreTiles start line (pair ∷ pairs) past → pair.end ≤ place
    → AreInOrder place edits size → StandOn read (pair ∷ pairs) edits → StandOn read pairs edits
stand_later read start line past place size pair pairs [] feed tiles behind order on = tt
stand_later read start line past place size pair pairs (edit ∷ edits) feed tiles behind order on = (
  stands_later read start line past pair pairs edit feed tiles (omega (arith, order.0)) on.0,
  stand_later read start line past edit.end size pair pairs edits feed tiles (omega (arith, order.0, order.1)) order.2
      on.1,
)

-- no edit after a pair's start begins there, none after it covers it, and none after its value's start replaces that
none_begins : (pair : Pair) (from size : ℕ) (edits : List Edit) → pair.start < from → AreInOrder from edits size
    → filter (begins_at pair) edits ≡ []
none_begins pair from size [] behind order = refl
none_begins pair from size (edit ∷ edits) behind order =
    grind (arith, (none_begins pair edit.end size edits (omega (arith, order.0, order.1)) order.2))

none_covers : (pair : Pair) (from size : ℕ) (edits : List Edit) → pair.start < from → AreInOrder from edits size
    → list_any (covers pair) edits ≡ false
none_covers pair from size [] behind order = refl
none_covers pair from size (edit ∷ edits) behind order =
    grind (arith, (none_covers pair edit.end size edits (omega (arith, order.0, order.1)) order.2))

none_replaces : (pair : Pair) (from size : ℕ) (edits : List Edit) → pair.value < from → AreInOrder from edits size
    → find (is_of_value pair) edits ≡ None
none_replaces pair from size [] behind order = refl
none_replaces pair from size (edit ∷ edits) behind order =
    grind (arith, (none_replaces pair edit.end size edits (omega (arith, order.0, order.1)) order.2))

-- a pair that no edit is at stands for itself
pub kept : (read : Reading) (pair : Pair) (from size : ℕ) (edits : List Edit) → pair.start < pair.value
    → pair.value < from → AreInOrder from edits size → groups_in read edits pair ≡ group_in read.bytes pair ∷ []
kept read pair from size edits code behind order = grind (arith, none_begins, none_covers, none_replaces)

-- an edit that ends by a pair's start, and begins before it, is not at it
passed_one : (read : Reading) (pair : Pair) (edit : Edit) (edits : List Edit) → edit.start < pair.start
    → edit.end ≤ pair.start → pair.start < pair.value → groups_in read (edit ∷ edits) pair ≡ groups_in read edits pair
passed_one read pair edit edits before ends code = grind arith

passed : (read : Reading) (start line past : ℕ) (pairs : List Pair) (edit : Edit) (edits : List Edit)
    → AreTiles start line pairs past → edit.start < start → edit.end ≤ start
    → flat_map (groups_in read (edit ∷ edits)) pairs ≡ flat_map (groups_in read edits) pairs
passed read start line past [] edit edits tiles before ends = refl
passed read start line past (pair ∷ pairs) edit edits tiles before ends =
    let here : groups_in read (edit ∷ edits) pair ≡ groups_in read edits pair =
    passed_one read pair edit edits (omega (arith, tiles.0)) (omega (arith, tiles.0))
    (omega (arith, tiles.0, tiles.2)) in
    let rest : flat_map (groups_in read (edit ∷ edits)) pairs ≡ flat_map (groups_in read edits) pairs =
    passed read pair.end (line + 2) past pairs edit edits tiles.5 (omega (arith, tiles.2, tiles.3, tiles.4))
    (omega (arith, tiles.2, tiles.3, tiles.4)) in cc

-- the first pair that an edit covers stands for the edit's text, and the others for nothing
covered_first : (read : Reading) (pair : Pair) (edit : Edit) (edits : List Edit) (size : ℕ)
    → edit.start ≡ pair.start → pair.start < edit.end → AreInOrder edit.end edits size
    → groups_in read (edit ∷ edits) pair ≡ groups_of (text_of read edit)
covered_first read pair edit edits size starts inside order = grind (arith, none_begins, append-nil)

covered_later : (read : Reading) (pair : Pair) (edit : Edit) (edits : List Edit) (size : ℕ)
    → edit.start < pair.start → pair.start < edit.end → AreInOrder edit.end edits size
    → groups_in read (edit ∷ edits) pair ≡ []
covered_later read pair edit edits size starts inside order = grind (arith, none_begins)

-- an edit that replaces nothing comes before what the other edits make of the pair
inserted : (read : Reading) (pair : Pair) (edit : Edit) (edits : List Edit) → edit.start ≡ pair.start
    → edit.end ≡ pair.start → pair.start < pair.value
    → groups_in read (edit ∷ edits) pair ≡ groups_of (text_of read edit) ++ groups_in read edits pair
inserted read pair edit edits starts ends code = grind (arith, append_assoc)

-- a pair whose value an edit replaces
replaced : (read : Reading) (pair : Pair) (edit : Edit) (edits : List Edit) (size : ℕ) → edit.start ≡ pair.value
    → pair.start < pair.value → pair.value ≤ edit.end → AreInOrder edit.end edits size
    → groups_in read (edit ∷ edits) pair ≡ record { code = pair.code; value = text_of read edit } ∷ []
replaced read pair edit edits size starts code ends order = grind (arith, none_begins, none_covers)

-- ---- the groups of spliced bytes, where the edits are at the pairs
-- bytes from one place to another, by a place between them
pub between_both : (bytes : List ℕ) (from middle past : ℕ) → from ≤ middle → middle ≤ past
    → between from past bytes ≡ between from middle bytes ++ between middle past bytes
between_both bytes from middle past first second =
    let counts : past - from ≡ (middle - from) + (past - middle) = omega arith in
    let at : (middle - from) + from ≡ middle = omega arith in
    let behind : drop (middle - from) (drop from bytes) ≡ drop middle bytes =
    rw (drop-drop (middle - from) from bytes) (ap (λ (n : ℕ). drop n bytes) (omega arith)) in grind (arith, take-add)

drop_both : (bytes : List ℕ) (from middle : ℕ) → from ≤ middle
    → drop from bytes ≡ between from middle bytes ++ drop middle bytes
drop_both bytes from middle first =
    let behind : drop (middle - from) (drop from bytes) ≡ drop middle bytes =
    rw (drop-drop (middle - from) from bytes) (ap (λ (n : ℕ). drop n bytes) (omega arith)) in
    grind (arith, take-append-drop)

-- what is spliced from a place on, where no edit starts before another place
on_to : (bytes : List ℕ) (text : Edit → List ℕ) (from middle size : ℕ) (edits : List Edit) → from ≤ middle
    → AreInOrder middle edits size → spliced_from bytes text from edits ≡ between from middle bytes
    ++ spliced_from bytes text middle edits
on_to bytes text from middle size [] first order = drop_both bytes from middle first
on_to bytes text from middle size (edit ∷ edits) first order =
    ap (λ (front : List ℕ). front ++ (text edit ++ spliced_from bytes text edit.end edits))
    (between_both bytes from middle edit.start first order.0)
    ∙ append_assoc (between from middle bytes) (between middle edit.start bytes)
    (text edit ++ spliced_from bytes text edit.end edits)

not_last : (pair : Pair) (value : List ℕ) → is_coded (pos 0) pair ≡ false → ends_drawing pair.code value ≡ false
not_last pair value no_head = rw no_head refl

pub no_end : (bytes : List ℕ) (pair : Pair) → EndsDrawing bytes pair → is_coded (pos 0) pair ≡ false → ⊥
no_end bytes pair ends no_head = grind (arith, and_first)

-- a pair with a value in front of a text
pair_follows : GroupsFollow → (bytes : List ℕ) (pair : Pair) (value more : List ℕ) → StandsInLines bytes pair
    → IsValue value → ends_drawing pair.code value ≡ false
    → groups_of (between pair.start pair.value bytes ++ (value ++ (between pair.value_end pair.end bytes ++ more)))
    ≡ record { code = pair.code; value = value } ∷ groups_of more
pair_follows follow bytes pair value more lines is goes_on = follow bytes pair value more lines is ∙ ap
    (λ (last : Bool). first_group (record { code = pair.code; value = value }) last (groups_of more)) goes_on

-- the pair itself
pair_stays : GroupsFollow → (bytes : List ℕ) (pair : Pair) (more : List ℕ) → StandsInLines bytes pair
    → groups_of (between pair.start pair.value bytes
    ++ (value_in bytes pair ++ (between pair.value_end pair.end bytes ++ more))) ≡ group_in bytes pair ∷ groups_of more
pair_stays follow bytes pair more lines = grind (arith, pair_follows)

case_kept : GroupsFollow → (read : Reading) (line past size : ℕ) (pair : Pair) (pairs : List Pair) (edits : List Edit)
    → AreTiles pair.start line (pair ∷ pairs) past → StandsInLines read.bytes pair → AreInOrder pair.end edits size
    → groups_of (spliced_from read.bytes (text_of read) pair.end edits) ≡ flat_map (groups_in read edits) pairs
    → groups_of (spliced_from read.bytes (text_of read) pair.start edits)
    ≡ flat_map (groups_in read edits) (pair ∷ pairs)
case_kept follow read line past size pair pairs edits tiles lines order rest =
    let text = text_of read in
    let feed = feed_behind read.bytes pair lines in
    let one = on_to read.bytes text pair.start pair.value size edits (omega (arith, tiles.2))
    (order_earlier pair.value pair.end edits size (omega (arith, tiles.3, tiles.4)) order) in
    let two = on_to read.bytes text pair.value pair.value_end size edits tiles.3
    (order_earlier pair.value_end pair.end edits size tiles.4 order) in
    let three = on_to read.bytes text pair.value_end pair.end size edits tiles.4 order in
    let whole : spliced_from read.bytes text pair.start edits ≡ between pair.start pair.value read.bytes
    ++ (value_in read.bytes pair ++ (between pair.value_end pair.end read.bytes
    ++ spliced_from read.bytes text pair.end edits)) =
    one ∙ ap (λ (t : List ℕ). between pair.start pair.value read.bytes ++ t)
    (two ∙ ap (λ (t : List ℕ). value_in read.bytes pair ++ t) three) in
    let here : groups_in read edits pair ≡ group_in read.bytes pair ∷ [] =
    kept read pair pair.end size edits tiles.2 (omega (arith, tiles.3, feed)) order in grind (arith, pair_stays)

case_value : GroupsFollow → (read : Reading) (line past size : ℕ) (pair : Pair) (pairs : List Pair) (edit : Edit)
    (edits : List Edit) → AreTiles pair.start line (pair ∷ pairs) past → StandsInLines read.bytes pair
    → IsOfValue read pair edit → AreInOrder pair.end edits size → AreInOrder edit.end edits size
    → groups_of (spliced_from read.bytes (text_of read) pair.end edits) ≡ flat_map (groups_in read edits) pairs
    → groups_of (spliced_from read.bytes (text_of read) pair.start (edit ∷ edits))
    ≡ flat_map (groups_in read (edit ∷ edits)) (pair ∷ pairs)
case_value follow read line past size pair pairs edit edits tiles lines value order behind rest =
    grind (arith, on_to, replaced, passed, pair_follows, not_last)

-- an edit's text at the start of a pair
at_start : (read : Reading) (pair : Pair) (edit : Edit) (edits : List Edit) → edit.start ≡ pair.start
    → AddsGroups (text_of read edit)
    → groups_of (spliced_from read.bytes (text_of read) pair.start (edit ∷ edits)) ≡ groups_of (text_of read edit)
    ++ groups_of (spliced_from read.bytes (text_of read) edit.end edits)
at_start read pair edit edits starts adds =
    let none : pair.start - pair.start ≡ 0 = omega arith in
    let front : between pair.start edit.start read.bytes ≡ [] = ap (λ (n : ℕ). between pair.start n read.bytes) starts
    ∙ ap (λ (n : ℕ). take n (drop pair.start read.bytes)) none in grind arith

case_inserted : (read : Reading) (line past size : ℕ) (pair : Pair) (pairs : List Pair) (edit : Edit)
    (edits : List Edit) → AreTiles pair.start line (pair ∷ pairs) past → edit.start ≡ pair.start → edit.end ≡ pair.start
    → AddsGroups (text_of read edit) → groups_of (spliced_from read.bytes (text_of read) pair.start edits)
    ≡ flat_map (groups_in read edits) (pair ∷ pairs)
    → groups_of (spliced_from read.bytes (text_of read) pair.start (edit ∷ edits))
    ≡ flat_map (groups_in read (edit ∷ edits)) (pair ∷ pairs)
case_inserted read line past size pair pairs edit edits tiles starts ends adds rest =
    grind (arith, inserted, passed, at_start, append_assoc)

-- the pairs from the one on that an edit ends at
record IsPast (read : Reading) (past size : ℕ) (pairs : List Pair) (edit : Edit) (edits : List Edit) : Type 0 where
  first : Pair
  rest : List Pair
  line : ℕ
  starts : first.start ≡ edit.end
  short : length (first ∷ rest) ≤ length pairs
  tiles : AreTiles first.start line (first ∷ rest) past
  lines : AreInLines read.bytes (first ∷ rest)
  stand : StandOn read (first ∷ rest) edits
  groups : flat_map (groups_in read (edit ∷ edits)) pairs ≡ flat_map (groups_in read edits) (first ∷ rest)

starts_past : (start line past place : ℕ) (pairs : List Pair) → AreTiles start line pairs past → StartsAt place pairs
    → start ≤ place
starts_past start line past place [] tiles at = absurd at
starts_past start line past place (pair ∷ pairs) tiles (inl at) = omega (arith, tiles.0)
starts_past start line past place (pair ∷ pairs) tiles (inr at) =
    omega (arith, tiles.2, tiles.3, tiles.4, starts_past pair.end (line + 2) past place pairs tiles.5 at)

past_covered : (read : Reading) (start line past size : ℕ) (pairs : List Pair) (edit : Edit) (edits : List Edit)
    → AreTiles start line pairs past → AreInLines read.bytes pairs → StartsAt edit.end pairs → edit.start < start
    → AreInOrder edit.end edits size → StandOn read pairs edits → IsPast read past size pairs edit edits
past_covered read start line past size [] edit edits tiles lines at before order stand = absurd at
past_covered read start line past size (pair ∷ pairs) edit edits tiles lines (inl at) before order stand = record {
  first = pair;
  rest = pairs;
  line = line;
  starts = at;
  short = omega arith;
  tiles = subst (λ (n : ℕ). AreTiles n line (pair ∷ pairs) past) (sym tiles.0) tiles;
  lines = lines;
  stand = stand;
  groups = passed read start line past (pair ∷ pairs) edit edits tiles before (omega (arith, tiles.0));
}
past_covered read start line past size (pair ∷ []) edit edits tiles lines (inr at) before order stand = absurd at
past_covered read start line past size (pair ∷ next ∷ pairs) edit edits tiles lines (inr at) before order stand =
    let feed = feed_behind read.bytes pair lines.0 in
    let upto : pair.end ≤ edit.end = starts_past pair.end (line + 2) past edit.end (next ∷ pairs) tiles.5 at in
    let later = past_covered read pair.end (line + 2) past size (next ∷ pairs) edit edits tiles.5 lines.1 at
    (omega (arith, tiles.2, tiles.3, tiles.4)) order
    (stand_later read start line past edit.end size pair (next ∷ pairs) edits feed tiles upto order stand) in
    let here : groups_in read (edit ∷ edits) pair ≡ [] =
    covered_later read pair edit edits size (omega (arith, tiles.0))
    (omega (arith, tiles.0, tiles.2, tiles.3, tiles.4)) order in grind arith

case_covering : (read : Reading) (line past size : ℕ) (pair : Pair) (pairs : List Pair) (edit : Edit)
    (edits : List Edit) → AreTiles pair.start line (pair ∷ pairs) past → edit.start ≡ pair.start → pair.start < edit.end
    → AreInOrder edit.end edits size → AddsGroups (text_of read edit) → (upto : IsPast read past size pairs edit edits)
    → groups_of (spliced_from read.bytes (text_of read) upto.first.start edits)
    ≡ flat_map (groups_in read edits) (upto.first ∷ upto.rest)
    → groups_of (spliced_from read.bytes (text_of read) pair.start (edit ∷ edits))
    ≡ flat_map (groups_in read (edit ∷ edits)) (pair ∷ pairs)
case_covering read line past size pair pairs edit edits tiles starts inside order adds upto rest =
    grind (arith, covered_first, at_start)

-- the groups from a pair on
abbrev pub AreSpliced : Reading → Pair → List Pair → List Edit → Type 0
AreSpliced read pair pairs edits = groups_of (spliced_from read.bytes (text_of read) pair.start edits)
    ≡ flat_map (groups_in read edits) (pair ∷ pairs)

at_end : (read : Reading) (pair next : Pair) (pairs : List Pair) (edits : List Edit) → next.start ≡ pair.end
    → AreSpliced read next pairs edits → groups_of (spliced_from read.bytes (text_of read) pair.end edits)
    ≡ flat_map (groups_in read edits) (next ∷ pairs)
at_end read pair next pairs edits starts rest =
    ap (λ (n : ℕ). groups_of (spliced_from read.bytes (text_of read) n edits)) (sym starts) ∙ rest

moved : (start other line past : ℕ) (pairs : List Pair) → other ≡ start → AreTiles start line pairs past
    → AreTiles other line pairs past
moved start other line past pairs same tiles = subst (λ (n : ℕ). AreTiles n line pairs past) (sym same) tiles

ordered_at : (start other : ℕ) (edits : List Edit) (size : ℕ) → other ≡ start → AreInOrder start edits size
    → AreInOrder other edits size
ordered_at start other edits size same order = subst (λ (n : ℕ). AreInOrder n edits size) (sym same) order

-- edits after one that ends by the pair's value come after the pair
behind_pair : (read : Reading) (line past place size : ℕ) (pair : Pair) (pairs : List Pair) (edits : List Edit)
    → pair.value_end < pair.end → AreTiles pair.start line (pair ∷ pairs) past → pair.value < place → place ≤ pair.end
    → AreInOrder place edits size → pair.end ≤ size → StandOn read (pair ∷ pairs) edits → AreInOrder pair.end edits size
behind_pair read line past place size pair pairs [] feed tiles behind upto order inside stand = inside
behind_pair read line past place size pair pairs (edit ∷ edits) feed tiles behind upto order inside stand =
    grind (arith, starts_behind)

-- the pairs are spliced so, for fewer pairs and edits
abbrev pub AreSplicedBelow : ℕ → Reading → ℕ → ℕ → Type 0
AreSplicedBelow n read past size =
    (line : ℕ) (pair : Pair) (pairs : List Pair) (edits : List Edit) → length pairs + length edits < n
    → AreInLines read.bytes (pair ∷ pairs) → AreTiles pair.start line (pair ∷ pairs) past
    → AreInOrder pair.start edits size → StandOn read (pair ∷ pairs) edits → AreSpliced read pair pairs edits

insert_step : (n : ℕ) (read : Reading) (line past size : ℕ) (pair : Pair) (pairs : List Pair) (edit : Edit)
    (edits : List Edit) → length pairs + length (edit ∷ edits) < suc n → AreInLines read.bytes (pair ∷ pairs)
    → AreTiles pair.start line (pair ∷ pairs) past
    → AreInOrder pair.start (edit ∷ edits) size → StandOn read (pair ∷ pairs) edits → edit.start ≡ pair.start
    → pair.start ≡ edit.end → AddsGroups (text_of read edit) → AreSplicedBelow n read past size
    → AreSpliced read pair pairs (edit ∷ edits)
insert_step n read line past size pair pairs edit edits less lines tiles order stand starts ends adds below =
    grind (arith, case_inserted, ordered_at)

cover_step : (n : ℕ) (read : Reading) (line past size : ℕ) (pair next : Pair) (pairs : List Pair) (edit : Edit)
    (edits : List Edit) → length (next ∷ pairs) + length (edit ∷ edits) < suc n
    → AreInLines read.bytes (pair ∷ next ∷ pairs)
    → AreTiles pair.start line (pair ∷ next ∷ pairs) past → AreInOrder pair.start (edit ∷ edits) size
    → StandOn read (pair ∷ next ∷ pairs) edits → edit.start ≡ pair.start → StartsAt edit.end (next ∷ pairs)
    → AddsGroups (text_of read edit)
    → AreSplicedBelow n read past size → AreSpliced read pair (next ∷ pairs) (edit ∷ edits)
cover_step n read line past size pair next pairs edit edits less lines tiles order stand starts ends adds below =
    let feed = feed_behind read.bytes pair lines.0 in
    let upto_end : pair.end ≤ edit.end = starts_past pair.end (line + 2) past edit.end (next ∷ pairs) tiles.5 ends in
    let upto = past_covered read pair.end (line + 2) past size (next ∷ pairs) edit edits tiles.5 lines.1 ends
    (omega (arith, tiles.2, tiles.3, tiles.4)) order.2
    (stand_later read pair.start line past edit.end size pair (next ∷ pairs) edits feed tiles upto_end order.2 stand) in
    case_covering read line past size pair (next ∷ pairs) edit edits tiles starts
    (omega (arith, tiles.2, tiles.3, tiles.4)) order.2 adds upto
    (below upto.line upto.first upto.rest edits (omega (arith, upto.short)) upto.lines upto.tiles
    (ordered_at edit.end upto.first.start edits size upto.starts order.2) upto.stand)

value_step : GroupsFollow → (n : ℕ) (read : Reading) (line past size : ℕ) (pair next : Pair) (pairs : List Pair)
    (edit : Edit) (edits : List Edit) → length (next ∷ pairs) + length (edit ∷ edits) < suc n
    → AreInLines read.bytes (pair ∷ next ∷ pairs)
    → AreTiles pair.start line (pair ∷ next ∷ pairs) past → past ≤ size → AreInOrder pair.start (edit ∷ edits) size
    → StandOn read (pair ∷ next ∷ pairs) edits → IsOfValue read pair edit → AreSplicedBelow n read past size
    → AreSpliced read pair (next ∷ pairs) (edit ∷ edits)
value_step follow n read line past size pair next pairs edit edits less lines tiles inside order stand value below =
    let feed = feed_behind read.bytes pair lines.0 in
    let behind : AreInOrder pair.end edits size =
    behind_pair read line past edit.end size pair (next ∷ pairs) edits feed tiles (omega (arith, value.end, value.some))
    (omega (arith, value.end, tiles.4)) order.2
    (omega (arith, tiles_upto pair.end (line + 2) past (next ∷ pairs) tiles.5)) stand in
    case_value follow read line past size pair (next ∷ pairs) edit edits tiles lines.0 value behind order.2
    (at_end read pair next pairs edits tiles.5.0
    (below (line + 2) next pairs edits (omega arith) lines.1
    (moved pair.end next.start (line + 2) past (next ∷ pairs) tiles.5.0 tiles.5)
    (ordered_at pair.end next.start edits size tiles.5.0 behind)
    (stand_later read pair.start line past pair.end size pair (next ∷ pairs) edits feed tiles (omega arith) behind
    stand)))

keep_step : GroupsFollow → (n : ℕ) (read : Reading) (line past size : ℕ) (pair next : Pair) (pairs : List Pair)
    (edits : List Edit) → length (next ∷ pairs) + length edits < suc n → AreInLines read.bytes (pair ∷ next ∷ pairs)
    → AreTiles pair.start line (pair ∷ next ∷ pairs) past → AreInOrder pair.end edits size
    → StandOn read (pair ∷ next ∷ pairs) edits → AreSplicedBelow n read past size
    → AreSpliced read pair (next ∷ pairs) edits
keep_step follow n read line past size pair next pairs edits less lines tiles order stand below =
    let feed = feed_behind read.bytes pair lines.0 in
    case_kept follow read line past size pair (next ∷ pairs) edits tiles lines.0 order
    (at_end read pair next pairs edits tiles.5.0
    (below (line + 2) next pairs edits (omega arith) lines.1
    (moved pair.end next.start (line + 2) past (next ∷ pairs) tiles.5.0 tiles.5)
    (ordered_at pair.end next.start edits size tiles.5.0 order)
    (stand_later read pair.start line past pair.end size pair (next ∷ pairs) edits feed tiles (omega arith) order
    stand)))

one_step : GroupsFollow → (n : ℕ) (read : Reading) (line past size : ℕ) (pair : Pair) (pairs : List Pair)
    (edits : List Edit) → length pairs + length edits < suc n → AreInLines read.bytes (pair ∷ pairs)
    → AreTiles pair.start line (pair ∷ pairs) past
    → past ≤ size → AreInOrder pair.start edits size → StandOn read (pair ∷ pairs) edits
    → AreSplicedBelow n read past size → AreSpliced read pair pairs edits
one_step follow n read line past size pair [] [] less lines tiles inside order stand below = lines.groups
one_step follow n read line past size pair (next ∷ pairs) [] less lines tiles inside order stand below =
    keep_step follow n read line past size pair next pairs [] less lines tiles
    (omega (arith, tiles_upto pair.end (line + 2) past (next ∷ pairs) tiles.5)) stand below
one_step follow n read line past size pair [] (edit ∷ edits) less lines tiles inside order stand below =
    by_place stand.0 where
      by_place : StandsOn read (pair ∷ []) edit → AreSpliced read pair [] (edit ∷ edits)
      by_place (inl value) = absurd (no_end read.bytes pair lines value.no_head)
      by_place (inr (inl whole)) = by_end whole.end where
        by_end : StartsAt edit.end (pair ∷ []) → AreSpliced read pair [] (edit ∷ edits)
        by_end (inl at) = insert_step n read line past size pair [] edit edits less lines tiles order stand.1
            whole.start at
            whole.text below
        by_end (inr at) = absurd at
      by_place (inr (inr on)) = absurd on
one_step follow n read line past size pair (next ∷ pairs) (edit ∷ edits) less lines tiles inside order stand below =
    by_place stand.0 where
      by_place : StandsOn read (pair ∷ next ∷ pairs) edit → AreSpliced read pair (next ∷ pairs) (edit ∷ edits)
      by_place (inl value) = value_step follow n read line past size pair next pairs edit edits less lines tiles inside
          order stand.1 value below
      by_place (inr (inl whole)) = by_end whole.end where
        by_end : StartsAt edit.end (pair ∷ next ∷ pairs) → AreSpliced read pair (next ∷ pairs) (edit ∷ edits)
        by_end (inl at) = insert_step n read line past size pair (next ∷ pairs) edit edits less lines tiles order
            stand.1
            whole.start at whole.text below
        by_end (inr at) = cover_step n read line past size pair next pairs edit edits less lines tiles order stand.1
            whole.start at whole.text below
      by_place (inr (inr on)) = keep_step follow n read line past size pair next pairs (edit ∷ edits) less lines tiles
          (starts_behind read pair.end (line + 2) past (next ∷ pairs) edit tiles.5 on, order.1, order.2) stand below

all_spliced : GroupsFollow → (n : ℕ) (read : Reading) (past size : ℕ) → past ≤ size → AreSplicedBelow n read past size
all_spliced follow zero read past size inside line pair pairs edits less lines tiles order stand = absurd (omega arith)
all_spliced follow (suc n) read past size inside line pair pairs edits less lines tiles order stand =
    one_step follow n read line past size pair pairs edits less lines tiles inside order stand
    (all_spliced follow n read past size inside)

-- the groups of what is spliced from the first pair on are those that stand for the pairs
pub spliced_groups : GroupsFollow → (read : Reading) (line past size : ℕ) (pair : Pair) (pairs : List Pair)
    (edits : List Edit) → AreInLines read.bytes (pair ∷ pairs) → AreTiles pair.start line (pair ∷ pairs) past
    → past ≤ size
    → AreInOrder pair.start edits size → StandOn read (pair ∷ pairs) edits → AreSpliced read pair pairs edits
spliced_groups follow read line past size pair pairs edits lines tiles inside order stand =
    all_spliced follow (length pairs + length edits + 1) read past size inside line pair pairs edits (omega arith) lines
    tiles order stand

-- ---- copies of pairs with other values are whole pairs
pub nothing_adds : AddsGroups []
nothing_adds more = refl

pub both_add : (text rest : List ℕ) → AddsGroups text → AddsGroups rest → AddsGroups (text ++ rest)
both_add text rest first second more = grind (arith, append_assoc)

-- a text that is one group in front of each other
one_adds : (text : List ℕ) (group : Group) → ((more : List ℕ) → groups_of (text ++ more) ≡ group ∷ groups_of more)
    → AddsGroups text
one_adds text group is more =
    let alone : groups_of text ≡ group ∷ [] = ap groups_of (sym (append-nil text)) ∙ is [] in grind arith

in_three : (a b c more : List ℕ) → (a ++ (b ++ c)) ++ more ≡ a ++ (b ++ (c ++ more))
in_three a b c more = simp append_assoc

-- a pair of the bytes with another value, and with its own
pub value_adds : GroupsFollow → (bytes : List ℕ) (pair : Pair) (value : List ℕ) → StandsInLines bytes pair
    → is_coded (pos 0) pair ≡ false → IsValue value
    → AddsGroups (between pair.start pair.value bytes ++ (value ++ between pair.value_end pair.end bytes))
value_adds follow bytes pair value lines no_head is =
    one_adds (between pair.start pair.value bytes ++ (value ++ between pair.value_end pair.end bytes))
    (record { code = pair.code; value = value })
    (λ more. ap groups_of (in_three (between pair.start pair.value bytes) value (between pair.value_end pair.end bytes)
    more) ∙ pair_follows follow bytes pair value more lines is (not_last pair value no_head))

pub pair_adds : GroupsFollow → (bytes : List ℕ) (pair : Pair) → StandsInLines bytes pair → pair.start < pair.value
    → pair.value ≤ pair.value_end → pair.value_end ≤ pair.end → AddsGroups (between pair.start pair.end bytes)
pair_adds follow bytes pair lines code value inside =
    let whole : between pair.start pair.end bytes ≡ between pair.start pair.value bytes
    ++ (between pair.value pair.value_end bytes ++ between pair.value_end pair.end bytes) =
    grind (arith, between_both) in subst AddsGroups (sym whole)
    (one_adds (between pair.start pair.value bytes ++ (value_in bytes pair ++ between pair.value_end pair.end bytes))
    (group_in bytes pair)
    (λ more. ap groups_of (in_three (between pair.start pair.value bytes) (value_in bytes pair)
    (between pair.value_end pair.end bytes) more) ∙ pair_stays follow bytes pair more lines))

-- pairs that begin no entity, each on its two lines
abbrev pub AreBody : List ℕ → List Pair → Type 0
AreBody bytes [] = ⊤
AreBody bytes (pair ∷ pairs) = StandsInLines bytes pair × ((is_coded (pos 0) pair ≡ false) × AreBody bytes pairs)

-- the first of the pairs
abbrev pub IsFront : List Pair → List Pair → Type 0
IsFront [] pairs = ⊤
IsFront (field ∷ fields) [] = ⊥
IsFront (field ∷ fields) (pair ∷ pairs) = (field ≡ pair) × IsFront fields pairs

pub front_taken : (n : ℕ) (pairs : List Pair) → IsFront (take n pairs) pairs
front_taken zero pairs = tt
front_taken (suc n) [] = tt
front_taken (suc n) (pair ∷ pairs) = (refl, front_taken n pairs)

value_is : (value : Value) → IsValue (value_text value)
value_is (values.Metres mm) = plain_value _ (plain_written mm)
value_is (values.Handle number) = plain_value _ (plain_digits 16 true number)

-- a copy from a place on begins with the bytes up to another that no field comes before
pub copied_on : (bytes : List ℕ) (copied : Copied) (past from middle start line : ℕ) (fields pairs : List Pair)
    → from ≤ middle → middle ≤ start → AreTiles start line pairs past → IsFront fields pairs
    → copied_from bytes copied past fields from ≡ between from middle bytes
    ++ copied_from bytes copied past fields middle
copied_on bytes copied past from middle start line [] pairs first second tiles front =
    between_both bytes from middle past first (omega (arith, tiles_upto start line past pairs tiles))
copied_on bytes copied past from middle start line (field ∷ fields) [] first second tiles front = absurd front
copied_on bytes copied past from middle start line (field ∷ fields) (pair ∷ pairs) first second tiles front =
    by_value (value_for copied field.code) (copied_on bytes copied past from middle pair.end (line + 2) fields pairs
    first (omega (arith, tiles.0, tiles.2, tiles.3, tiles.4)) tiles.5 front.1) where
      rest : List ℕ
      rest = copied_from bytes copied past fields field.value_end

      value_at : middle ≤ field.value
      value_at = omega (arith, tiles.0, tiles.2, ap (λ (p : Pair). p.value) front.0)

      by_value : (value : Option Value) → copied_from bytes copied past fields from ≡ between from middle bytes
          ++ copied_from bytes copied past fields middle
          → copied_with (λ (f : Pair). copied_from bytes copied past fields f.value_end) bytes from field value
          (copied_from bytes copied past fields from)
          ≡ between from middle bytes ++ copied_with (λ (f : Pair). copied_from bytes copied past fields f.value_end)
          bytes middle field value (copied_from bytes copied past fields middle)
      by_value None same = same
      by_value (Some value) same = ap (λ (t : List ℕ). t ++ (value_text value ++ rest))
          (between_both bytes from middle field.value first value_at)
          ∙ append_assoc (between from middle bytes) (between middle field.value bytes) (value_text value ++ rest)

-- a copy from the first pair on, which keeps its value
copied_kept : (bytes : List ℕ) (copied : Copied) (past start line : ℕ) (pair : Pair) (fields pairs : List Pair)
    → AreTiles start line (pair ∷ pairs) past → IsFront fields pairs
    → copied_from bytes copied past fields start ≡ between pair.start pair.end bytes
    ++ copied_from bytes copied past fields pair.end
copied_kept bytes copied past start line pair fields pairs tiles front =
    copied_on bytes copied past start pair.end pair.end (line + 2) fields pairs
    (omega (arith, tiles.2, tiles.3, tiles.4)) (omega arith) tiles.5 front
    ∙ ap (λ (n : ℕ). between n pair.end bytes ++ copied_from bytes copied past fields pair.end) (sym tiles.0)

-- and which has another one
copied_changed : (bytes : List ℕ) (copied : Copied) (past start line : ℕ) (field pair : Pair)
    (fields pairs : List Pair) (value : Value) → AreTiles start line (pair ∷ pairs) past → field ≡ pair
    → IsFront fields pairs
    → between start field.value bytes ++ (value_text value ++ copied_from bytes copied past fields field.value_end)
    ≡ (between pair.start pair.value bytes ++ (value_text value ++ between pair.value_end pair.end bytes))
    ++ copied_from bytes copied past fields pair.end
copied_changed bytes copied past start line field pair fields pairs value tiles same front =
    let behind : copied_from bytes copied past fields pair.value_end ≡ between pair.value_end pair.end bytes
    ++ copied_from bytes copied past fields pair.end =
    copied_on bytes copied past pair.value_end pair.end pair.end (line + 2) fields pairs tiles.4 (omega arith)
    tiles.5 front in grind (arith, in_three)

pub copied_adds : GroupsFollow → (bytes : List ℕ) (copied : Copied) (past start line : ℕ) (fields pairs : List Pair)
    → AreTiles start line pairs past → AreBody bytes pairs → IsFront fields pairs
    → AddsGroups (copied_from bytes copied past fields start)
copied_adds follow bytes copied past start line [] [] tiles body front =
    let none : past - start ≡ 0 = omega (arith, tiles) in grind (arith, nothing_adds)
copied_adds follow bytes copied past start line (field ∷ fields) [] tiles body front = absurd front
copied_adds follow bytes copied past start line [] (pair ∷ pairs) tiles body front =
    let whole : between start past bytes ≡ between pair.start pair.end bytes ++ between pair.end past bytes =
    grind (arith, between_both, tiles_upto) in subst AddsGroups (sym whole)
    (both_add (between pair.start pair.end bytes) (between pair.end past bytes)
    (pair_adds follow bytes pair body.0 (omega (arith, tiles.0, tiles.2)) tiles.3 tiles.4)
    (copied_adds follow bytes copied past pair.end (line + 2) [] pairs tiles.5 body.1.1 tt))
copied_adds follow bytes copied past start line (field ∷ fields) (pair ∷ pairs) tiles body front =
    by_value (value_for copied field.code) (copied_adds follow bytes copied past pair.end (line + 2) fields pairs
    tiles.5 body.1.1 front.1) where
      rest : List ℕ
      rest = copied_from bytes copied past fields pair.end

      by_value : (value : Option Value) → AddsGroups (copied_from bytes copied past fields pair.end)
          → AddsGroups (copied_with (λ (f : Pair). copied_from bytes copied past fields f.value_end) bytes start field
          value (copied_from bytes copied past fields start))
      by_value None later =
          let whole = copied_kept bytes copied past start line pair fields pairs tiles front.1 in
          grind (arith, both_add, rest, pair_adds)
      by_value (Some value) later =
          let whole = copied_changed bytes copied past start line field pair fields pairs value tiles front.0 front.1 in
          subst AddsGroups (sym whole)
          (both_add (between pair.start pair.value bytes ++ (value_text value ++ between pair.value_end pair.end bytes))
          rest (value_adds follow bytes pair (value_text value) body.0 body.1.0 (value_is value)) later)

-- ---- the groups of copies of an entity: those of its pairs, with the values of some fields replaced
-- a text that is these groups in front of those of any other
abbrev pub AddsAs : List ℕ → List Group → Type 0
AddsAs text groups = (more : List ℕ) → groups_of (text ++ more) ≡ groups ++ groups_of more

pub none_added : AddsAs [] []
none_added more = refl

pub both_added : (text rest : List ℕ) (groups others : List Group) → AddsAs text groups → AddsAs rest others
    → AddsAs (text ++ rest) (groups ++ others)
both_added text rest groups others first second more = grind (arith, append_assoc)

-- the groups of such a text alone
pub alone_added : (text : List ℕ) (groups : List Group) → AddsAs text groups → groups_of text ≡ groups
alone_added text groups adds = ap groups_of (sym (append-nil text)) ∙ (adds [] ∙ append-nil groups)

pub value_added : GroupsFollow → (bytes : List ℕ) (pair : Pair) (value : List ℕ) → StandsInLines bytes pair
    → is_coded (pos 0) pair ≡ false → IsValue value
    → AddsAs (between pair.start pair.value bytes ++ (value ++ between pair.value_end pair.end bytes))
    (record { code = pair.code; value = value } ∷ [])
value_added follow bytes pair value lines no_head is more = grind (arith, in_three, pair_follows, not_last)

pair_added : GroupsFollow → (bytes : List ℕ) (pair : Pair) → StandsInLines bytes pair → pair.start < pair.value
    → pair.value ≤ pair.value_end → pair.value_end ≤ pair.end
    → AddsAs (between pair.start pair.end bytes) (group_in bytes pair ∷ [])
pair_added follow bytes pair lines code value inside more =
    let whole : between pair.start pair.end bytes ≡ between pair.start pair.value bytes
    ++ (between pair.value pair.value_end bytes ++ between pair.value_end pair.end bytes) =
    between_both bytes pair.start pair.value pair.end (omega arith) (omega arith)
    ∙ ap (λ (t : List ℕ). between pair.start pair.value bytes ++ t)
    (between_both bytes pair.value pair.value_end pair.end value inside) in grind (arith, in_three, pair_stays)

-- the value of a field in a copy
abbrev pub value_of_copy : List ℕ → Pair → Option Value → List ℕ
value_of_copy bytes pair None = value_in bytes pair
value_of_copy bytes pair (Some value) = value_text value

abbrev pub copy_value : List ℕ → Copied → Pair → List ℕ
copy_value bytes copied pair = value_of_copy bytes pair (value_for copied pair.code)

-- the groups of a copy after its head: this many are fields
abbrev pub copy_groups : List ℕ → Copied → List Pair → List Pair → List Group
copy_groups bytes copied [] pairs = map (group_in bytes) pairs
copy_groups bytes copied (field ∷ fields) [] = []
copy_groups bytes copied (field ∷ fields) (pair ∷ pairs) =
    with_value (copy_value bytes copied) pair ∷ copy_groups bytes copied fields pairs

copied_added : GroupsFollow → (bytes : List ℕ) (copied : Copied) (past start line : ℕ) (fields pairs : List Pair)
    → AreTiles start line pairs past → AreBody bytes pairs → IsFront fields pairs
    → AddsAs (copied_from bytes copied past fields start) (copy_groups bytes copied fields pairs)
copied_added follow bytes copied past start line [] [] tiles body front =
    let none : past - start ≡ 0 = omega (arith, tiles) in grind (arith, none_added)
copied_added follow bytes copied past start line (field ∷ fields) [] tiles body front = absurd front
copied_added follow bytes copied past start line [] (pair ∷ pairs) tiles body front =
    let whole : between start past bytes ≡ between pair.start pair.end bytes ++ between pair.end past bytes =
    grind (arith, between_both, tiles_upto) in
    subst (λ (t : List ℕ). AddsAs t (map (group_in bytes) (pair ∷ pairs))) (sym whole)
    (both_added (between pair.start pair.end bytes) (between pair.end past bytes) (group_in bytes pair ∷ [])
    (map (group_in bytes) pairs) (pair_added follow bytes pair body.0 (omega (arith, tiles.0, tiles.2)) tiles.3
    tiles.4)
    (copied_added follow bytes copied past pair.end (line + 2) [] pairs tiles.5 body.1.1 tt))
copied_added follow bytes copied past start line (field ∷ fields) (pair ∷ pairs) tiles body front =
    by_value (value_for copied field.code) refl
    (copied_added follow bytes copied past pair.end (line + 2) fields pairs tiles.5 body.1.1 front.1) where
      rest : List ℕ
      rest = copied_from bytes copied past fields pair.end

      groups : List Group
      groups = copy_groups bytes copied fields pairs

      by_value : (value : Option Value) → value_for copied field.code ≡ value
          → AddsAs (copied_from bytes copied past fields pair.end) groups
          → AddsAs (copied_with (λ (f : Pair). copied_from bytes copied past fields f.value_end) bytes start field value
          (copied_from bytes copied past fields start)) (with_value (copy_value bytes copied) pair ∷ groups)
      by_value None none later =
          let whole = copied_kept bytes copied past start line pair fields pairs tiles front.1 in
          let kept : value_for copied pair.code ≡ None = cc in
          let own : value_in bytes pair ≡ copy_value bytes copied pair = sym (ap (value_of_copy bytes pair) kept) in
          subst (λ (v : List ℕ). AddsAs (copied_from bytes copied past fields start)
          (record { code = pair.code; value = v } ∷ groups)) own
          (subst (λ (t : List ℕ). AddsAs t (group_in bytes pair ∷ groups)) (sym whole)
          (both_added (between pair.start pair.end bytes) rest (group_in bytes pair ∷ []) groups
          (pair_added follow bytes pair body.0 (omega (arith, tiles.0, tiles.2)) tiles.3 tiles.4) later))
      by_value (Some value) some later =
          let whole = copied_changed bytes copied past start line field pair fields pairs value tiles front.0 front.1 in
          let kept : value_for copied pair.code ≡ Some value = cc in
          let own : value_text value ≡ copy_value bytes copied pair = sym (ap (value_of_copy bytes pair) kept) in
          subst (λ (v : List ℕ). AddsAs (copied_with (λ (f : Pair). copied_from bytes copied past fields f.value_end)
          bytes start field (Some value) (copied_from bytes copied past fields start))
          (record { code = pair.code; value = v } ∷ groups)) own
          (subst (λ (t : List ℕ). AddsAs t (record { code = pair.code; value = value_text value } ∷ groups)) (sym whole)
          (both_added (between pair.start pair.value bytes
          ++ (value_text value ++ between pair.value_end pair.end bytes)) rest
          (record { code = pair.code; value = value_text value } ∷ []) groups
          (value_added follow bytes pair (value_text value) body.0 body.1.0 (value_is value)) later))

-- an entity whose pairs are on their lines, one after the other
pub record IsInLines (bytes : List ℕ) (entity : Entity) : Type 0 where
  pub head : StandsInLines bytes entity.head
  pub body : AreBody bytes entity.pairs
  pub code : entity.head.start < entity.head.value
  pub value : entity.head.value ≤ entity.head.value_end
  pub inside : entity.head.value_end ≤ entity.head.end
  pub line : ℕ
  pub tiles : AreTiles entity.head.end line entity.pairs (entity_end entity)

-- a copy of the entity
pub copy_added : GroupsFollow → (bytes : List ℕ) (entity : Entity) (copied : Copied) → IsInLines bytes entity
    → AddsAs (copy_text bytes copied entity) (group_in bytes entity.head
    ∷ copy_groups bytes copied (entity_fields entity) entity.pairs)
copy_added follow bytes entity copied lines =
    let fields = entity_fields entity in
    let front : IsFront fields entity.pairs = grind (arith, front_taken) in
    let whole : copy_text bytes copied entity ≡ between entity.head.start entity.head.end bytes
    ++ copied_from bytes copied (entity_end entity) fields entity.head.end =
    copied_on bytes copied (entity_end entity) entity.head.start entity.head.end entity.head.end lines.line fields
    entity.pairs (omega (arith, lines.code, lines.value, lines.inside)) (omega arith) lines.tiles front in
    subst (λ (t : List ℕ). AddsAs t (group_in bytes entity.head ∷ copy_groups bytes copied fields entity.pairs))
    (sym whole)
    (both_added (between entity.head.start entity.head.end bytes)
    (copied_from bytes copied (entity_end entity) fields entity.head.end) (group_in bytes entity.head ∷ [])
    (copy_groups bytes copied fields entity.pairs)
    (pair_added follow bytes entity.head lines.head lines.code lines.value lines.inside)
    (copied_added follow bytes copied (entity_end entity) entity.head.end lines.line fields entity.pairs lines.tiles
    lines.body front))

-- ---- what is at a place of a drawing and before it, by the pairs in front of that place
-- pairs after others start after them
starts_after : (front : List Pair) (start line past : ℕ) (pair : Pair) (pairs : List Pair)
    → AreTiles start line (front ++ pair ∷ pairs) past → start ≤ pair.start
starts_after [] start line past pair pairs tiles = omega (arith, tiles.0)
starts_after (first ∷ front) start line past pair pairs tiles =
    omega (arith, tiles.2, tiles.3, tiles.4, starts_after front first.end (line + 2) past pair pairs tiles.5)

-- as many pairs start before a pair as come before it
front_number : (front : List Pair) (start line past : ℕ) (pair : Pair) (pairs : List Pair)
    → AreTiles start line (front ++ pair ∷ pairs) past
    → prefix_len (starts_before pair.start) (front ++ pair ∷ pairs) ≡ length front
front_number [] start line past pair pairs tiles = let no : nat_lt pair.start pair.start ≡ false =
    grind (arith, nat_tests) in rw no refl
front_number (first ∷ front) start line past pair pairs tiles =
    grind (arith, starts_after, (front_number front first.end (line + 2) past pair pairs tiles.5))

-- the entity that a pair begins is the one at its place
pub entity_is : (read : Reading) (front : List Pair) (past : ℕ) (pair : Pair) (pairs : List Pair)
    → read.pairs ≡ front ++ pair ∷ pairs → AreTiles 0 1 read.pairs past
    → entity_at read pair.start ≡ Some (entity_of pair pairs)
entity_is read front past pair pairs are tiles = grind (arith, front_number, drop-append_seam)

-- the last pair of a code before a pair is the last of those in front of it
pub before_is : (read : Reading) (code : ℤ) (front : List Pair) (past : ℕ) (pair : Pair) (pairs : List Pair)
    → read.pairs ≡ front ++ pair ∷ pairs → AreTiles 0 1 read.pairs past
    → coded_before read code pair.start ≡ last_coded code None front
before_is read code front past pair pairs are tiles = grind (arith, front_number, take-append_seam)

coded_both : (code : ℤ) (before : Option Pair) (pairs more : List Pair)
    → last_coded code before (pairs ++ more) ≡ last_coded code (last_coded code before pairs) more
coded_both code before [] more = refl
coded_both code before (pair ∷ pairs) more = coded_both code (cond (is_coded code pair) (Some pair) before) pairs more

-- pairs of a vertex's group
abbrev pub AreGroup : List Pair → Type 0
AreGroup [] = ⊤
AreGroup (pair ∷ pairs) = (is_group_code pair ≡ true) × AreGroup pairs

pub coded : (pair : Pair) (code : ℤ) → is_coded code pair ≡ true → pair.code ≡ code
coded pair code is = (Decides-int_eq pair.code code).0 is

no_ten : (pair : Pair) → is_group_code pair ≡ true → is_coded (pos 10) pair ≡ false
no_ten pair group = grind (arith, coded)

no_twenty : (pair : Pair) → is_group_code pair ≡ true → is_coded (pos 20) pair ≡ false
no_twenty pair group = grind (arith, coded)

ten_stays : (before : Option Pair) (pairs : List Pair) → AreGroup pairs → last_coded (pos 10) before pairs ≡ before
ten_stays before [] group = refl
ten_stays before (pair ∷ pairs) group = rw (no_ten pair group.0) (ten_stays before pairs group.1)

twenty_stays : (before : Option Pair) (pairs : List Pair) → AreGroup pairs → last_coded (pos 20) before pairs ≡ before
twenty_stays before [] group = refl
twenty_stays before (pair ∷ pairs) group = rw (no_twenty pair group.0) (twenty_stays before pairs group.1)

-- after a vertex and its group the last numbers are the vertex's
pub last_ten : (front : List Pair) (x y : Pair) (group : List Pair) → x.code ≡ pos 10 → y.code ≡ pos 20 → AreGroup group
    → last_coded (pos 10) None (front ++ (x ∷ y ∷ group)) ≡ Some x
last_ten front x y group ten twenty are = grind (arith, coded_both, ten_stays)

pub last_twenty : (front : List Pair) (x y : Pair) (group : List Pair) → y.code ≡ pos 20 → AreGroup group
    → last_coded (pos 20) None (front ++ (x ∷ y ∷ group)) ≡ Some y
last_twenty front x y group twenty are = grind (arith, coded_both, twenty_stays)

-- an edit at pairs after others is at all of them
stands_front : (read : Reading) (front pairs : List Pair) (edit : Edit) → StandsOn read pairs edit
    → StandsOn read (front ++ pairs) edit
stands_front read [] pairs edit on = on
stands_front read (pair ∷ front) pairs edit on = inr (inr (stands_front read front pairs edit on))

pub stands_whole : (read : Reading) (front pairs : List Pair) (edit : Edit) → read.pairs ≡ front ++ pairs
    → StandsOn read pairs edit → StandsOn read read.pairs edit
stands_whole read front pairs edit are on =
    subst (λ (ps : List Pair). StandsOn read ps edit) (sym are) (stands_front read front pairs edit on)

-- the tiles and the lines of pairs after others
pub tiles_behind : (front : List Pair) (start line past : ℕ) (pair : Pair) (pairs : List Pair)
    → AreTiles start line (front ++ pair ∷ pairs) past → (number : ℕ) × AreTiles pair.start number (pair ∷ pairs) past
tiles_behind [] start line past pair pairs tiles =
    (line, subst (λ (n : ℕ). AreTiles n line (pair ∷ pairs) past) (sym tiles.0) tiles)
tiles_behind (first ∷ front) start line past pair pairs tiles =
    tiles_behind front first.end (line + 2) past pair pairs tiles.5

pub lines_behind : (bytes : List ℕ) (front : List Pair) (pair : Pair) (pairs : List Pair)
    → AreInLines bytes (front ++ pair ∷ pairs) → AreInLines bytes (pair ∷ pairs)
lines_behind bytes [] pair pairs lines = lines
lines_behind bytes (first ∷ []) pair pairs lines = lines.1
lines_behind bytes (first ∷ second ∷ front) pair pairs lines = lines_behind bytes (second ∷ front) pair pairs lines.1
