-- The value of faults on the map is one that the grammar of JSON wants.
use Rattle.std.proofs.Common.{ℕ, suc, ◌+◌, ◌^◌, ◌<◌, Bool, true, false, ◌&&◌, nat_le, List, [], ◌∷◌, length, codes}
use Rattle.std.proofs.Common.{Option, None, Some, refl, arith}
use Rattle.std.specs.Prelude.{if◌then◌else◌}
use Rattle.std.specs.List.{AllByRecursion}
use Rattle.plain_laws.proofs.Lists.{all_append}
use Rattle.plane_base.specs.declared.shapes.Pt.{Pt}
use Rattle.tin_base.specs.declared.frames.Frame.{Frame}
use Rattle.tin_base.specs.declared.frames.Frame.TheVariants.{Source, Target}
use Rattle.jtext.specs.Characters.{AreChars, IsChar, unescaped, low}
use Rattle.jtext.specs.Values.{Members, IsValue, AreElements, AreMembers}
use Rattle.jtext.proofs.CallerLemmas.DecimalTexts.{decimal_number}
use Rattle.change_places.specs.PlacesValue.{plain}
use Rattle.change_places.specs.Laws.{IsPointHeld}
use Rattle.change_places.proofs.Valid.{literal, point_is, one_point_is, either_is, feature_by, line_feed, no_blank}
use Rattle.fault_runs.specs.declared.spots.FaultKind.{FaultKind}
use Rattle.fault_runs.specs.declared.spots.FaultKind.TheVariants as kinds
use Rattle.fault_runs.specs.declared.spots.TriangleSpot.{TriangleSpot}
use Rattle.fault_runs.specs.declared.spots.FaultSpot.{FaultSpot}
use Rattle.fault_runs.specs.Spots.{least_place}
use Rattle.fault_runs.specs.FaultsText.{kind_word, frame_word}
use Rattle.fault_runs.specs.FaultsValue.{corners_value, outline_value, other_outline_elements, lines_value, geometry_value}
use Rattle.fault_runs.specs.FaultsValue.{numbers_value, fault_members, first_members, second_members, other_members}
use Rattle.fault_runs.specs.FaultsValue.{properties_value, feature_elements, faults_value}
use Rattle.fault_runs.specs.Laws.{IsTriangleHeld, IsOtherHeld, IsFaultHeld}

-- ---- geometries
corners_are : (depth : ℕ) (spot : TriangleSpot) → IsTriangleHeld spot → IsValue (suc (suc depth)) (corners_value spot)
corners_are depth spot held = (
  refl,
  (
    tt,
    point_is depth spot.at_a held.at_a,
    tt,
    (tt, point_is depth spot.at_b held.at_b, tt, (tt, point_is depth spot.at_c held.at_c, tt, tt)),
  ),
)

outline_is : (depth : ℕ) (spot : TriangleSpot) → IsTriangleHeld spot → IsValue (suc (suc depth)) (outline_value spot)
outline_is depth spot held = (
  refl,
  (
    tt,
    point_is depth spot.at_a held.at_a,
    tt,
    (
      tt,
      point_is depth spot.at_b held.at_b,
      tt,
      (tt, point_is depth spot.at_c held.at_c, tt, (tt, point_is depth spot.at_a held.at_a, tt, tt)),
    ),
  ),
)

other_outline_is : (depth : ℕ) (spot : Option TriangleSpot) → IsOtherHeld spot
    → AreElements (suc (suc depth)) (other_outline_elements spot)
other_outline_is depth None held = tt
other_outline_is depth (Some spot) held = (tt, outline_is depth spot held, tt, tt)

lines_are : (depth : ℕ) (fault : FaultSpot) → IsFaultHeld fault → IsValue (suc (suc (suc (suc depth)))) (lines_value fault)
lines_are depth fault held = (
  refl,
  (
    tt,
    literal (codes "type") refl,
    tt,
    tt,
    literal (codes "MultiLineString") refl,
    tt,
    (
      tt,
      literal (codes "coordinates") refl,
      tt,
      tt,
      (
        refl,
        (tt, outline_is depth fault.first held.first, tt, other_outline_is depth fault.second held.second),
      ),
      tt,
      tt,
    ),
  ),
)

either_held : (one : Bool) (p q : Pt) → IsPointHeld p → IsPointHeld q → IsPointHeld (if one then p else q)
either_held true p q is are = is
either_held false p q is are = are

least_held : (spot : TriangleSpot) → IsTriangleHeld spot → IsPointHeld (least_place spot)
least_held spot held =
    either_held (nat_le spot.a spot.b && nat_le spot.a spot.c) spot.at_a _ held.at_a
    (either_held (nat_le spot.b spot.c) spot.at_b spot.at_c held.at_b held.at_c)

geometry_is : (depth : ℕ) (lines : Bool) (fault : FaultSpot) → IsFaultHeld fault
    → IsValue (suc (suc (suc (suc depth)))) (geometry_value lines fault)
geometry_is depth lines fault held =
    either_is (suc (suc (suc (suc depth)))) lines _ _ (lines_are depth fault held)
    (one_point_is depth (least_place fault.first) (least_held fault.first held.first))

-- ---- properties
space : IsChar (unescaped (32 ∷ []))
space = (low, ((omega arith, omega arith), tt))

kind_chars : (kind : FaultKind) → AreChars (plain (kind_word kind))
kind_chars kinds.Flat = literal (codes "flat") refl
kind_chars kinds.TurnsOver =
    all_append IsChar (plain (codes "turns")) (plain (codes " over")) (literal (codes "turns") refl)
    (space, literal (codes "over") refl)
kind_chars kinds.Overlap = literal (codes "overlap") refl

frame_chars : (frame : Frame) → AreChars (plain (frame_word frame))
frame_chars Source = literal (codes "source") refl
frame_chars Target = literal (codes "target") refl

numbers_are : (depth : ℕ) (spot : TriangleSpot) → IsTriangleHeld spot → IsValue (suc depth) (numbers_value spot)
numbers_are depth spot held = (
  refl,
  (
    tt,
    decimal_number spot.a (omega (arith, held.a)),
    tt,
    (tt, decimal_number spot.b (omega (arith, held.b)), tt, (tt, decimal_number spot.c (omega (arith, held.c)), tt, tt)),
  ),
)

fault_members_are : (depth number : ℕ) (fault : FaultSpot) (rest : Members) → number < 2 ^ 64 → AreMembers depth rest
    → AreMembers depth (fault_members number fault rest)
unfolding fault_members
fault_members_are depth number fault rest few others = (
  tt,
  literal (codes "fault") refl,
  tt,
  tt,
  decimal_number number few,
  tt,
  (
    tt,
    literal (codes "kind") refl,
    tt,
    tt,
    kind_chars fault.kind,
    tt,
    (tt, literal (codes "frame") refl, tt, tt, frame_chars fault.frame, tt, others),
  ),
)

first_members_are : (depth : ℕ) (spot : TriangleSpot) (rest : Members) → IsTriangleHeld spot
    → AreMembers (suc (suc depth)) rest → AreMembers (suc (suc depth)) (first_members spot rest)
unfolding first_members
first_members_are depth spot rest held others = (
  tt,
  literal (codes "first_triangle") refl,
  tt,
  tt,
  decimal_number spot.triangle (omega (arith, held.triangle)),
  tt,
  (
    tt,
    literal (codes "first_corners") refl,
    tt,
    tt,
    numbers_are (suc depth) spot held,
    tt,
    (tt, literal (codes "first_places") refl, tt, tt, corners_are depth spot held, tt, others),
  ),
)

second_members_are : (depth : ℕ) (spot : TriangleSpot) → IsTriangleHeld spot → AreMembers (suc (suc depth)) (second_members spot)
unfolding second_members
second_members_are depth spot held = (
  tt,
  literal (codes "second_triangle") refl,
  tt,
  tt,
  decimal_number spot.triangle (omega (arith, held.triangle)),
  tt,
  (
    tt,
    literal (codes "second_corners") refl,
    tt,
    tt,
    numbers_are (suc depth) spot held,
    tt,
    (tt, literal (codes "second_places") refl, tt, tt, corners_are depth spot held, tt, tt),
  ),
)

other_members_are : (depth : ℕ) (spot : Option TriangleSpot) → IsOtherHeld spot
    → AreMembers (suc (suc depth)) (other_members spot)
other_members_are depth None held = (
  tt,
  literal (codes "second_triangle") refl,
  tt,
  tt,
  tt,
  tt,
  (
    tt,
    literal (codes "second_corners") refl,
    tt,
    tt,
    tt,
    tt,
    (tt, literal (codes "second_places") refl, tt, tt, tt, tt, tt),
  ),
)
other_members_are depth (Some spot) held = second_members_are depth spot held

properties_are : (depth number : ℕ) (fault : FaultSpot) → number < 2 ^ 64 → IsFaultHeld fault
    → IsValue (suc (suc (suc depth))) (properties_value number fault)
unfolding properties_value fault_members
properties_are depth number fault few held = (
  refl,
  fault_members_are (suc (suc depth)) number fault _ few
      (first_members_are depth fault.first _ held.first (other_members_are depth fault.second held.second)),
)

-- ---- features
module _ (depth : ℕ) (lines : Bool) where
  features_are : (number : ℕ) (faults : List FaultSpot) → number + length faults < 2 ^ 64
      → AllByRecursion IsFaultHeld faults
      → AreElements (suc (suc (suc (suc (suc depth))))) (feature_elements lines number faults)
  features_are number [] few held = tt
  features_are number (fault ∷ faults) few held = (
    line_feed,
    feature_by depth (geometry_value lines fault) (properties_value number fault)
        (geometry_is depth lines fault held.0) (properties_are (suc depth) number fault (omega (arith, few)) held.0),
    tt,
    features_are (number + 1) faults (omega (arith, few)) held.1,
  )

pub faults_are : (depth : ℕ) (lines : Bool) (faults : List FaultSpot) → length faults < 2 ^ 64
    → AllByRecursion IsFaultHeld faults
    → IsValue (suc (suc (suc (suc (suc (suc (suc depth))))))) (faults_value lines faults)
faults_are depth lines faults few held = (
  refl,
  (
    tt,
    literal (codes "type") refl,
    tt,
    tt,
    literal (codes "FeatureCollection") refl,
    tt,
    (
      tt,
      literal (codes "crs") refl,
      tt,
      tt,
      tt,
      tt,
      (
        tt,
        literal (codes "features") refl,
        tt,
        tt,
        (no_blank (feature_elements lines 0 faults), features_are depth lines 0 faults (omega (arith, few)) held),
        tt,
        tt,
      ),
    ),
  ),
)
