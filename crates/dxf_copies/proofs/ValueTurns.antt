-- What is written for a pair with edits, and values that are replaced.
use Rattle.std.proofs.Common.{◌≡◌, ℕ, ◌<◌, ◌≤◌, Bool, true, false, cond, refl, ap, ◌∙◌, List, [], ◌∷◌, ◌++◌, filter}
use Rattle.std.proofs.Common.{flat_map, Option, None, Some, arith, find, ◌==◌, zero, suc, ◌+◌, ◌-◌, ℤ, sym, subst, map}
use Rattle.std.proofs.Common.{inl, inr, get_or, length, take, drop, All}
use Rattle.std.specs.Prelude.{⊤, ◌⊎◌}
use Rattle.std.specs.List.{list_any}
use Rattle.std.proofs.lemmas.List.{append-nil}
use Rattle.std.proofs.lemmas.List.Elements.{filter-append}
use Rattle.std.proofs.lemmas.Bool.Decides.{nat_tests}
use Rattle.plane_base.specs.declared.shapes.Pt.{Pt}
use Rattle.sheet_base.specs.declared.edits.Edit.{Edit}
use Rattle.sheet_base.specs.declared.edits.What.{What}
use Rattle.sheet_base.specs.PointHeights.{IsHeightWithinReach}
use Rattle.sheet_base.specs.ImageFits.{Runs, IsAlone, IsWithinReach, images_of}
use Rattle.sheet_base.specs.Segments.{no_point}
use Rattle.dxf_pairs.specs.declared.pairs.Pair.{Pair}
use Rattle.dxf_pairs.specs.Groups.{Group, groups_of, group_in}
use Rattle.dxf_entities.specs.Shapes.{value_edit}
use Rattle.dxf_copies.specs.Rendering.{Reading, text_of, image_of}
use Rattle.dxf_copies.specs.PairGroups.{begins_at, covers, is_of_value, value_with, groups_for}
use Rattle.dxf_entities.proofs.WholeShapes.{AreWithin}
use Rattle.dxf_entities.proofs.Members.{IsIn, Follow, Lies, lies}
use Rattle.dxf_entities.proofs.ChangedFields.{may_change, with_value, DoStay}
use Rattle.dxf_entities.proofs.OutlineEnds.{AreRuns}

-- ---- the groups that stand for a pair, by the edits of some list: others that are silent there make no difference
-- the groups of the texts that begin where the pair begins, and those of the pair itself
abbrev pub texts_in : Reading → List Edit → List Group
texts_in read edits = flat_map (λ (edit : Edit). groups_of (text_of read edit)) edits

abbrev pub first_of : List Edit → Option Edit
first_of [] = None
first_of (edit ∷ edits) = Some edit

abbrev pub itself_in : Reading → Pair → List Edit → List Edit → List Group
itself_in read pair [] of_value = record { code = pair.code; value = value_with read pair (first_of of_value) } ∷ []
itself_in read pair (edit ∷ covering) of_value = []

-- the groups that stand for a pair by some edits
abbrev pub stand : Reading → List Edit → Pair → List Group
stand read edits pair = texts_in read (filter (begins_at pair) edits)
    ++ itself_in read pair (filter (covers pair) edits) (filter (is_of_value pair) edits)

first_found : (p : Edit → Bool) (edits : List Edit) → find p edits ≡ first_of (filter p edits)
first_found p [] = refl
first_found p (edit ∷ edits) = grind (arith, (first_found p edits))

pub covered : (read : Reading) (pair : Pair) (p : Edit → Bool) (edits of_value : List Edit)
    → cond (list_any p edits) [] (record { code = pair.code; value = value_with read pair (first_of of_value) } ∷ [])
    ≡ itself_in read pair (filter p edits) of_value
covered read pair p [] of_value = refl
covered read pair p (edit ∷ edits) of_value = grind (arith, (covered read pair p edits of_value))

pub stands_for : (read : Reading) (pair : Pair) → groups_for read pair ≡ stand read read.sheet.edits pair
stands_for read pair = grind (arith, first_found, covered)

-- an edit that has nothing to do with a pair
pub record IsSilent (pair : Pair) (edit : Edit) : Type 0 where
  pub begins : begins_at pair edit ≡ false
  pub covering : covers pair edit ≡ false
  pub of_value : is_of_value pair edit ≡ false

abbrev pub AreSilent : Pair → List Edit → Type 0
AreSilent pair [] = ⊤
AreSilent pair (edit ∷ edits) = IsSilent pair edit × AreSilent pair edits

pub silent_both : (pair : Pair) (edits more : List Edit) → AreSilent pair edits → AreSilent pair more
    → AreSilent pair (edits ++ more)
silent_both pair [] more first second = second
silent_both pair (edit ∷ edits) more first second = (first.0, silent_both pair edits more first.1 second)

none_begin : (pair : Pair) (edits : List Edit) → AreSilent pair edits → filter (begins_at pair) edits ≡ []
none_begin pair [] silent = refl
none_begin pair (edit ∷ edits) silent = let here = silent.0.begins in rw here (none_begin pair edits silent.1)

none_cover : (pair : Pair) (edits : List Edit) → AreSilent pair edits → filter (covers pair) edits ≡ []
none_cover pair [] silent = refl
none_cover pair (edit ∷ edits) silent = let here = silent.0.covering in rw here (none_cover pair edits silent.1)

silent_values : (pair : Pair) (edits : List Edit) → AreSilent pair edits → filter (is_of_value pair) edits ≡ []
silent_values pair [] silent = refl
silent_values pair (edit ∷ edits) silent = let here = silent.0.of_value in rw here (silent_values pair edits silent.1)

-- silent edits in front of others, and after them
pub silent_front : (read : Reading) (pair : Pair) (edits more : List Edit) → AreSilent pair edits
    → stand read (edits ++ more) pair ≡ stand read more pair
silent_front read pair edits more silent = grind (arith, filter-append, none_begin, none_cover, silent_values)

pub silent_behind : (read : Reading) (pair : Pair) (edits more : List Edit) → AreSilent pair more
    → stand read (edits ++ more) pair ≡ stand read edits pair
silent_behind read pair edits more silent =
    grind (arith, filter-append, none_begin, none_cover, silent_values, append-nil)

-- a pair at which all edits are silent stays
pub stand_silent : (read : Reading) (pair : Pair) (edits : List Edit) → AreSilent pair edits
    → stand read edits pair ≡ group_in read.bytes pair ∷ []
stand_silent read pair edits silent = grind (arith, none_begin, none_cover, silent_values)

-- a pair's places
pub record IsPlaced (pair : Pair) : Type 0 where
  pub code : pair.start < pair.value
  pub value : pair.value ≤ pair.value_end
  pub inside : pair.value_end ≤ pair.end
  pub some : pair.value < pair.end

pub edit_behind : (pair : Pair) (edit : Edit) → IsPlaced pair → pair.end ≤ edit.start → IsSilent pair edit
edit_behind pair edit placed behind = grind arith

pub edit_before : (pair : Pair) (edit : Edit) → IsPlaced pair → edit.start < pair.start → edit.end ≤ pair.start
    → IsSilent pair edit
edit_before pair edit placed begins ends = grind arith

pub all_behind : (pair : Pair) (low high : ℕ) (edits : List Edit) → IsPlaced pair → pair.end ≤ low
    → AreWithin low edits high → AreSilent pair edits
all_behind pair low high [] placed behind within = tt
all_behind pair low high (edit ∷ edits) placed behind within =
    (edit_behind pair edit placed (omega (arith, within.0)), all_behind pair low high edits placed behind within.3)

-- ---- the groups of an entity's pairs where edits replace some of their values
-- two pairs of the list are one, or one ends before the other
pub one_of_three : (from : ℕ) (a b : Pair) (pairs : List Pair) (past : ℕ) → Follow from pairs past → IsIn a pairs
    → IsIn b pairs → (a ≡ b) ⊎ ((a.end ≤ b.start) ⊎ (b.end ≤ a.start))
one_of_three from a b [] past follow a_in b_in = absurd a_in
one_of_three from a b (pair ∷ pairs) past follow (inl a_is) (inl b_is) = inl (a_is ∙ sym b_is)
one_of_three from a b (pair ∷ pairs) past follow (inl a_is) (inr b_in) =
    inr (inl (omega (arith, ap (λ (p : Pair). p.end) a_is, (lies pair.end b pairs past follow.4 b_in).begins)))
one_of_three from a b (pair ∷ pairs) past follow (inr a_in) (inl b_is) =
    inr (inr (omega (arith, ap (λ (p : Pair). p.end) b_is, (lies pair.end a pairs past follow.4 a_in).begins)))
one_of_three from a b (pair ∷ pairs) past follow (inr a_in) (inr b_in) =
    one_of_three pair.end a b pairs past follow.4 a_in b_in

-- each value ends before its pair does
abbrev pub AreSome : List Pair → Type 0
AreSome [] = ⊤
AreSome (pair ∷ pairs) = (pair.value < pair.end) × AreSome pairs

pub some_at : (pair : Pair) (pairs : List Pair) → AreSome pairs → IsIn pair pairs → pair.value < pair.end
some_at pair [] some is_in = absurd is_in
some_at pair (first ∷ pairs) some (inl is) = subst (λ (p : Pair). p.value < p.end) (sym is) some.0
some_at pair (first ∷ pairs) some (inr is_in) = some_at pair pairs some.1 is_in

-- an edit of the value of one of the pairs
pub record IsValueEdit (pairs : List Pair) (edit : Edit) : Type 0 where
  pub pair : Pair
  pub is_in : IsIn pair pairs
  pub changes : may_change pair.code ≡ true
  pub start : edit.start ≡ pair.value
  pub end : edit.end ≡ pair.value_end

abbrev pub AreValueEdits : List Pair → List Edit → Type 0
AreValueEdits pairs [] = ⊤
AreValueEdits pairs (edit ∷ edits) = IsValueEdit pairs edit × AreValueEdits pairs edits

not_begun : (pair other : Pair) (edit : Edit) → edit.start ≡ other.value → other.start < other.value
    → other.value < other.end → (pair ≡ other) ⊎ ((pair.end ≤ other.start) ⊎ (other.end ≤ pair.start))
    → pair.start ≤ pair.end → begins_at pair edit ≡ false
not_begun pair other edit start code some (inl is) order = let s : pair.start ≡ other.start =
    ap (λ (p : Pair). p.start) is in grind (arith, nat_tests, start, code, s)
not_begun pair other edit start code some (inr (inl before)) order =
    grind (arith, nat_tests, start, code, before, order)
not_begun pair other edit start code some (inr (inr behind)) order = grind (arith, nat_tests, start, some, behind)

not_covered : (pair other : Pair) (edit : Edit) → edit.start ≡ other.value → edit.end ≡ other.value_end
    → other.start < other.value → other.value_end ≤ other.end
    → (pair ≡ other) ⊎ ((pair.end ≤ other.start) ⊎ (other.end ≤ pair.start)) → pair.start ≤ pair.end
    → covers pair edit ≡ false
not_covered pair other edit start end code inside (inl is) order = let s : pair.start ≡ other.start =
    ap (λ (p : Pair). p.start) is in grind (arith, nat_tests, start, code, s)
not_covered pair other edit start end code inside (inr (inl before)) order =
    grind (arith, nat_tests, start, code, before, order)
not_covered pair other edit start end code inside (inr (inr behind)) order =
    grind (arith, nat_tests, end, inside, behind)

pub none_begun : (from past : ℕ) (pairs : List Pair) → Follow from pairs past → AreSome pairs → (pair : Pair)
    → IsIn pair pairs → (edits : List Edit) → AreValueEdits pairs edits → filter (begins_at pair) edits ≡ []
none_begun from past pairs follow some pair is_in [] are = refl
none_begun from past pairs follow some pair is_in (edit ∷ edits) are =
    let other = are.0 in
    let place = lies from other.pair pairs past follow other.is_in in
    let own = lies from pair pairs past follow is_in in
    let no_begin = not_begun pair other.pair edit other.start place.code (some_at other.pair pairs some other.is_in)
    (one_of_three from pair other.pair pairs past follow is_in other.is_in)
    (omega (arith, own.code, own.value, own.inside)) in
    rw no_begin (none_begun from past pairs follow some pair is_in edits are.1)

pub none_covered : (from past : ℕ) (pairs : List Pair) → Follow from pairs past → (pair : Pair) → IsIn pair pairs
    → (edits : List Edit) → AreValueEdits pairs edits → filter (covers pair) edits ≡ []
none_covered from past pairs follow pair is_in [] are = refl
none_covered from past pairs follow pair is_in (edit ∷ edits) are =
    let other = are.0 in
    let place = lies from other.pair pairs past follow other.is_in in
    let own = lies from pair pairs past follow is_in in
    let no_cover = not_covered pair other.pair edit other.start other.end place.code place.inside
    (one_of_three from pair other.pair pairs past follow is_in other.is_in)
    (omega (arith, own.code, own.value, own.inside)) in
    rw no_cover (none_covered from past pairs follow pair is_in edits are.1)

-- the value of a pair with the edits
abbrev pub own_value : Reading → List Edit → Pair → List ℕ
own_value read edits pair = value_with read pair (first_of (filter (is_of_value pair) edits))

-- each pair is one group with its value
stand_valued : (read : Reading) (from past : ℕ) (pairs : List Pair) → Follow from pairs past → AreSome pairs
    → (edits : List Edit) → AreValueEdits pairs edits → (pair : Pair) → IsIn pair pairs
    → stand read edits pair ≡ with_value (own_value read edits) pair ∷ []
stand_valued read from past pairs follow some edits are pair is_in = grind (arith, none_begun, none_covered)

each_valued : (read : Reading) (edits : List Edit) (value : Pair → List ℕ) (pairs : List Pair)
    → ((pair : Pair) → IsIn pair pairs → stand read edits pair ≡ with_value value pair ∷ [])
    → flat_map (stand read edits) pairs ≡ map (with_value value) pairs
each_valued read edits value [] each = refl
each_valued read edits value (pair ∷ pairs) each = grind (arith, with_value, (each_valued read edits value pairs))

pub all_valued : (read : Reading) (from past : ℕ) (pairs : List Pair) → Follow from pairs past → AreSome pairs
    → (edits : List Edit) → AreValueEdits pairs edits
    → flat_map (stand read edits) pairs ≡ map (with_value (own_value read edits)) pairs
all_valued read from past pairs follow some edits are =
    each_valued read edits (own_value read edits) pairs (stand_valued read from past pairs follow some edits are)

-- pairs of different codes have their values at different places
pub other_place : (from past : ℕ) (pairs : List Pair) → Follow from pairs past → AreSome pairs → (pair other : Pair)
    → IsIn pair pairs → IsIn other pairs → (pair.code ≡ other.code → ⊥) → (other.value == pair.value) ≡ false
other_place from past pairs follow some pair other is_in other_in differs =
    grind (arith, one_of_three, Lies, lies, some_at)

never_both : (a b : ℤ) → may_change a ≡ false → may_change b ≡ true → a ≡ b → ⊥
never_both a b off on is = let both : false ≡ true = sym off ∙ (ap may_change is ∙ on) in cc

none_of_value : (from past : ℕ) (pairs : List Pair) → Follow from pairs past → AreSome pairs → (pair : Pair)
    → IsIn pair pairs → may_change pair.code ≡ false → (edits : List Edit) → AreValueEdits pairs edits
    → filter (is_of_value pair) edits ≡ []
none_of_value from past pairs follow some pair is_in stays [] are = refl
none_of_value from past pairs follow some pair is_in stays (edit ∷ edits) are =
    grind (arith, other_place, never_both, (none_of_value from past pairs follow some pair is_in stays edits are.1))

-- values under other codes stay
pub others_stay : (read : Reading) (from past : ℕ) (pairs : List Pair) → Follow from pairs past → AreSome pairs
    → (edits : List Edit) → AreValueEdits pairs edits → (fields : List Pair)
    → ((pair : Pair) → IsIn pair fields → IsIn pair pairs) → DoStay read.bytes (own_value read edits) fields
others_stay read from past pairs follow some edits are [] inner = tt
others_stay read from past pairs follow some edits are (pair ∷ fields) inner =
    grind (arith, none_of_value, (others_stay read from past pairs follow some edits are fields))

-- the value of the first edit, and of those after it
pub same_place : (place : ℕ) → (place == place) ≡ true
same_place place = grind (arith, nat_tests)

pub first_value : (read : Reading) (what : What) (pair : Pair) (edits : List Edit)
    → own_value read (value_edit what pair ∷ edits) pair ≡ text_of read (value_edit what pair)
first_value read what pair edits = let here = same_place pair.value in rw here refl

pub later_value : (read : Reading) (what : What) (pair other : Pair) (edits : List Edit)
    → (other.value == pair.value) ≡ false → own_value read (value_edit what other ∷ edits) pair
    ≡ own_value read edits pair
later_value read what pair other edits apart = rw apart refl

-- images that fit
pub record AreGoodImages (images : Runs) (count : ℕ) : Type 0 where
  pub runs : AreRuns images count
  pub reach : All IsWithinReach images.points
  pub height_each : length images.heights ≡ length images.points
  pub heights_reach : All IsHeightWithinReach images.heights

pub image_within : (images : Runs) (count point : ℕ) → AreGoodImages images count → point < count
    → IsWithinReach (image_of images point)
image_within images count point good inside = grind arith

taken_one : (points : List Pt) (k : ℕ) → k < length points → take 1 (drop k points) ≡ get_or points k no_point ∷ []
taken_one [] k inside = absurd (omega arith)
taken_one (point ∷ points) zero inside = refl
taken_one (point ∷ points) (suc k) inside = taken_one points k (omega arith)

-- a run that is alone
pub alone_image : (images : Runs) (count point : ℕ) → AreGoodImages images count → point < count → IsAlone images point
    → images_of images point (point + 1) ≡ image_of images point ∷ []
alone_image images count point good inside alone = grind (arith, taken_one)
