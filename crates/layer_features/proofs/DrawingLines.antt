-- The entities of a drawing are in order of their lines, one list of them is its, and handles are hexadecimal digits.
use Rattle.std.proofs.Common.{◌≡◌, ℕ, ◌+◌, ◌-◌, ◌*◌, ◌^◌, ◌≤◌, List, [], ◌∷◌, length, Bool, true, false, Option, None, Some}
use Rattle.std.proofs.Common.{Ok, Result, refl, sym, ap, ◌∙◌, arith, pos}
use Rattle.std.specs.Prelude.{if◌then◌else◌}
use Rattle.std.specs.List.{AllByRecursion}
use Rattle.dxf_pairs.specs.declared.pairs.Pair.{Pair}
use Rattle.dxf_pairs.specs.declared.faults.PairFault.{PairFault}
use Rattle.dxf_pairs.specs.Groups.{value_in}
use Rattle.dxf_pairs.specs.Laws.{AreTiles, Tile}
use Rattle.dxf_pairs.proofs.PairTiles.{tiles_upto}
use Rattle.dxf_entities.specs.Entities.{entity_of}
use Rattle.dxf_entities.specs.Fields.{field_at}
use Rattle.layer_features.specs.declared.features.Feature.{Feature}
use Rattle.layer_features.specs.declared.features.Label.TheVariants.{Number, Handle}
use Rattle.layer_features.specs.Features.{AreInOrder}
use Rattle.layer_features.specs.DrawingFeatures.{begins_feature, next_line, is_hexadecimal, only_field, handle_label}
use Rattle.layer_features.specs.DrawingFeatures.{entity_feature, pair_features}
use Rattle.layer_features.specs.Laws.{IsHexadecimalLabel, HasValueParts, DrawingFeaturesAreOne, HandlesAreHexadecimal}
use Rattle.layer_features.proofs.Elements.{lower}

-- ---- lines
-- lines have two of their numbers for each byte at most
abbrev HasRoom : ℕ → ℕ → ℕ → Type 0
HasRoom start line past = line + 2 * (past - start) ≤ 2 ^ 32 - 1

more_room : (start line past : ℕ) (pair : Pair) (pairs : List Pair) → AreTiles start line (pair ∷ pairs) past
    → HasRoom start line past → HasRoom pair.end (line + 2) past
more_room start line past pair pairs (from, number, first, second, third, tile) room =
    let later = tiles_upto pair.end (line + 2) past pairs tile in omega (arith, first, second, third, later, room)

either_least : (test : Bool) (least one other : ℕ) → least ≤ one → least ≤ other → least ≤ (if test then one else other)
either_least true least one other is are = is
either_least false least one other is are = are

next_least : (bytes : List ℕ) (start line past : ℕ) (pairs : List Pair) → AreTiles start line pairs past
    → HasRoom start line past → line ≤ next_line bytes pairs
next_least bytes start line past [] tile room = omega (arith, room)
next_least bytes start line past (pair ∷ pairs) tile room =
    let later = next_least bytes pair.end (line + 2) past pairs tile.5
    (more_room start line past pair pairs tile room) in
    either_least (begins_feature bytes pair) line pair.line (next_line bytes pairs) (omega (arith, tile.1))
    (omega (arith, later))

either_order : (test : Bool) (bytes : List ℕ) (pair : Pair) (pairs : List Pair)
    → pair.line ≤ next_line bytes pairs → AreInOrder (next_line bytes pairs) (pair_features bytes pairs)
    → AreInOrder (if test then pair.line else next_line bytes pairs)
    (if test then entity_feature bytes pair pairs ∷ pair_features bytes pairs else pair_features bytes pairs)
either_order true bytes pair pairs below are = (omega arith, below, are)
either_order false bytes pair pairs below are = are

next_order : (bytes : List ℕ) (start line past : ℕ) (pairs : List Pair) → AreTiles start line pairs past
    → HasRoom start line past → AreInOrder (next_line bytes pairs) (pair_features bytes pairs)
next_order bytes start line past [] tile room = tt
next_order bytes start line past (pair ∷ pairs) tile room =
    let more = more_room start line past pair pairs tile room in
    let later = next_least bytes pair.end (line + 2) past pairs tile.5 more in
    either_order (begins_feature bytes pair) bytes pair pairs (omega (arith, tile.1, later))
    (next_order bytes pair.end (line + 2) past pairs tile.5 more)

pub drawing_order : (bytes : List ℕ) (pairs : List Pair) → length bytes ≤ 2 ^ 26 → Tile bytes pairs
    → AreInOrder 0 (pair_features bytes pairs)
drawing_order bytes pairs few (past, within, tile) =
    lower (next_line bytes pairs) 0 (pair_features bytes pairs) (omega arith)
    (next_order bytes 0 1 past pairs tile (omega (arith, few, within)))

-- ---- one list
same_pairs : (pairs others : List Pair) → ◌≡◌ {A = Result (List Pair) PairFault} (Ok pairs) (Ok others) → pairs ≡ others
same_pairs pairs others is = cc

pub drawing_features_one : DrawingFeaturesAreOne
drawing_features_one bytes features others (pairs, is, are) (more, same, those) =
    are ∙ ap (pair_features bytes) (same_pairs pairs more (sym is ∙ same)) ∙ sym those

-- ---- handles
either_label : (bytes : List ℕ) (line : ℕ) (pair : Pair) (test : Bool) → is_hexadecimal (value_in bytes pair) ≡ test
    → IsHexadecimalLabel bytes (if test then Handle (record { start = pair.value; past = pair.value_end }) else Number line)
either_label bytes line pair true is = is
either_label bytes line pair false is = tt

label_is : (bytes : List ℕ) (line : ℕ) (found : Option Pair) → IsHexadecimalLabel bytes (handle_label bytes line found)
label_is bytes line None = tt
label_is bytes line (Some pair) = either_label bytes line pair (is_hexadecimal (value_in bytes pair)) refl

either_all : (P : Feature → Type 0) (test : Bool) (feature : Feature) (features : List Feature) → P feature
    → AllByRecursion P features → AllByRecursion P (if test then feature ∷ features else features)
either_all P true feature features is are = (is, are)
either_all P false feature features is are = are

labels_are : (bytes : List ℕ) (pairs : List Pair) → AllByRecursion (HasValueParts bytes) (pair_features bytes pairs)
labels_are bytes [] = tt
labels_are bytes (pair ∷ pairs) =
    either_all (HasValueParts bytes) (begins_feature bytes pair)
    (entity_feature bytes pair pairs) (pair_features bytes pairs)
    (record {
      label = label_is bytes pair.line (only_field (field_at (pos 5) (entity_of pair pairs)));
      id = tt;
      name = tt;
    }) (labels_are bytes pairs)

pub handles_hexadecimal : HandlesAreHexadecimal
handles_hexadecimal bytes features (pairs, is, are) = rw are (labels_are bytes pairs)
