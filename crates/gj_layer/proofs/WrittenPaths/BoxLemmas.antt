-- The box of images, which grows image by image, has the least and the greatest numbers.
use Rattle.std.proofs.Common.{◌≡◌, ◌⊎◌, inl, inr, zero, suc, ℤ, ◌≤ℤ◌, List, [], ◌∷◌, ◌++◌, map, refl, sym, ap, ◌∙◌}
use Rattle.std.proofs.Common.{Bool, true, false, T, get_or, arith, append-nil}
use Rattle.std.specs.Prelude.{fold, find, int_le, All, Contains, Option, Some, None}
use Rattle.std.specs.Int.{int_min, int_max}
use Rattle.std.specs.List.{list_all, AllByRecursion}
use Rattle.std.specs.Option.{unwrap_or}
use Rattle.std.proofs.lemmas.List.Elements.{All-cons, All-contains, recursion_from_All, Contains-append_right}
use Rattle.std.proofs.lemmas.List.Sums.{fold-append, AllPass-from_list_all, list_all-from_AllPass}
use Rattle.std.proofs.lemmas.Int.{ints, fold-int_min_reached, fold-int_min_bounds, fold-int_max_reached}
use Rattle.std.proofs.lemmas.Int.{fold-int_max_bounds}
use Rattle.plane_base.specs.declared.shapes.Pt.{Pt}
use Rattle.plane_base.specs.declared.shapes.Rect.{Rect}
use Rattle.plane_base.specs.Boxes.{box_of_point, box_with_point}
use Rattle.sheet_base.specs.PointHeights.{Height, Position, points_of, heights_of}
use Rattle.gj_layer.specs.declared.boxes.Levels.{Levels}
use Rattle.gj_layer.specs.declared.boxes.BoundingBox.{BoundingBox}
use Rattle.gj_layer.specs.InsideBoxes.{level_of, level_with, box_of_image, widened_with, widened_by, bounded_text}
use Rattle.gj_layer.specs.Texts.{x_of, y_of, least_of, greatest_of, plane_box_of, with_first, all_heights, levels_of}
use Rattle.gj_layer.specs.Texts.{box_of, box_text, bounds_text, IsLeastOf, IsGreatestOf, AreLevelsOf, BoxesAreLeast}

-- ---- the least of some numbers is found number by number
true_of : (b : Bool) → T b → b ≡ true
true_of true is = refl
true_of false is = absurd is

not_both : false ≡ true → ⊥
not_both both = cc

-- the one that passes is found
only_found : (test : ℤ → Bool) (R : ℤ → Type 0) (wanted : ℤ) → test wanted ≡ true
    → ((number : ℤ) → R number → test number ≡ true → number ≡ wanted)
    → (numbers : List ℤ) → AllByRecursion R numbers → Contains numbers wanted → find test numbers ≡ Some wanted
only_found test R wanted passes only [] all (place, within, is) = absurd (omega arith)
only_found test R wanted passes only (number ∷ numbers) all has =
    grind (arith, not_both, (only_found test R wanted passes only numbers all.1))

-- what is in order with all of some numbers, and one of them, is the first that is so
module _ (le : ℤ → ℤ → Bool) (same : (a b : ℤ) → le a b ≡ true → le b a ≡ true → a ≡ b) where
  bound_found : (first : ℤ) (others : List ℤ) (bound : ℤ) → (bound ≡ first) ⊎ Contains others bound
      → le bound first ≡ true → All (λ other. le bound other ≡ true) others
      → bound ≡ unwrap_or (find (λ number. list_all (le number) (first ∷ others)) (first ∷ others)) first
  bound_found first others bound reached here all =
      let numbers = first ∷ others in
      let every : All (λ other. le bound other ≡ true) numbers =
      All-cons (λ other. le bound other ≡ true) first others here all in
      let has : Contains numbers bound = one_of reached in
      let found : find (λ number. list_all (le number) numbers) numbers ≡ Some bound =
      only_found (λ number. list_all (le number) numbers) (λ number. le bound number ≡ true) bound
      (list_all-from_AllPass (le bound) numbers every)
      (λ number above passes. same number bound
      (All-contains (λ other. le number other ≡ true) numbers bound
      (AllPass-from_list_all (le number) numbers passes) has) above)
      numbers (recursion_from_All (λ other. le bound other ≡ true) numbers every) has in
      ap (λ (o : Option ℤ). unwrap_or o first) (sym found)
    where
      one_of : (bound ≡ first) ⊎ Contains others bound → Contains (first ∷ others) bound
      one_of (inl is) = (0, omega arith, sym is)
      one_of (inr has) = Contains-append_right (first ∷ []) others bound has

same_below : (a b : ℤ) → int_le a b ≡ true → int_le b a ≡ true → a ≡ b
same_below a b below above = omega (arith, ints)

all_below : (bound : ℤ) (numbers : List ℤ) → All (λ number. bound ≤ℤ number) numbers
    → All (λ number. int_le bound number ≡ true) numbers
all_below bound numbers all place default within =
    true_of (int_le bound (get_or numbers place default)) (all place default within).le

all_above : (bound : ℤ) (numbers : List ℤ) → All (λ number. number ≤ℤ bound) numbers
    → All (λ number. int_le number bound ≡ true) numbers
all_above bound numbers all place default within =
    true_of (int_le (get_or numbers place default) bound) (all place default within).le

least_is : (first : ℤ) (others : List ℤ) → fold int_min first others ≡ least_of first others
least_is first others =
    let least = fold int_min first others in
    let bounds = fold-int_min_bounds first others least refl in
    bound_found int_le same_below first others least (fold-int_min_reached first others least refl)
    (true_of (int_le least first) bounds.0.le) (all_below least others bounds.1)

greatest_is : (first : ℤ) (others : List ℤ) → fold int_max first others ≡ greatest_of first others
greatest_is first others =
    let greatest = fold int_max first others in
    let bounds = fold-int_max_bounds first others greatest refl in
    bound_found (λ a b. int_le b a) (λ a b above below. same_below a b below above) first others greatest
    (fold-int_max_reached first others greatest refl)
    (true_of (int_le first greatest) bounds.0.le) (all_above greatest others bounds.1)

is_least : (first : ℤ) (others : List ℤ) → IsLeastOf first others (least_of first others)
is_least first others = (
  fold-int_min_reached first others (least_of first others) (sym (least_is first others)),
  fold-int_min_bounds first others (least_of first others) (sym (least_is first others)),
)

is_greatest : (first : ℤ) (others : List ℤ) → IsGreatestOf first others (greatest_of first others)
is_greatest first others = (
  fold-int_max_reached first others (greatest_of first others) (sym (greatest_is first others)),
  fold-int_max_bounds first others (greatest_of first others) (sym (greatest_is first others)),
)

-- ---- in the plane
abbrev grown : Rect → List Pt → Rect
grown box images = record {
  x0 = fold int_min box.x0 (map x_of images);
  y0 = fold int_min box.y0 (map y_of images);
  x1 = fold int_max box.x1 (map x_of images);
  y1 = fold int_max box.y1 (map y_of images);
}

widened_is : (box : Rect) (images : List Pt) → fold box_with_point box images ≡ grown box images
widened_is box [] = refl
widened_is box (image ∷ images) = widened_is (box_with_point box image) images

abbrev sides : ℤ → ℤ → ℤ → ℤ → Rect
sides x0 y0 x1 y1 = record { x0 = x0; y0 = y0; x1 = x1; y1 = y1 }

four_sides : (x0 y0 x1 y1 a b c d : ℤ) → x0 ≡ a → y0 ≡ b → x1 ≡ c → y1 ≡ d → sides x0 y0 x1 y1 ≡ sides a b c d
four_sides x0 y0 x1 y1 a b c d left bottom right top = grind (arith)

plane_is : (point : Pt) (points : List Pt) → grown (box_of_point point) points ≡ plane_box_of point points
plane_is point points = grind (arith, four_sides, least_is, greatest_is)

-- ---- in height
abbrev raised : Levels → Option (List ℤ) → Option Levels
raised levels None = None
raised levels (Some zs) = Some (record { z0 = fold int_min levels.z0 zs; z1 = fold int_max levels.z1 zs })

none_with : (heights : List Height) → fold level_with None heights ≡ None
none_with [] = refl
none_with (height ∷ heights) = none_with heights

raised_by : (levels : Levels) (z : ℤ) (heights : Option (List ℤ))
    → raised (record { z0 = int_min levels.z0 z; z1 = int_max levels.z1 z }) heights
    ≡ raised levels (with_first (Some z) heights)
raised_by levels z None = refl
raised_by levels z (Some zs) = refl

levels_grow : (levels : Levels) (heights : List Height)
    → fold level_with (Some levels) heights ≡ raised levels (all_heights heights)
levels_grow levels [] = refl
levels_grow levels (None ∷ heights) = none_with heights
levels_grow levels (Some z ∷ heights) =
    grind (arith, raised_by, (levels_grow (record { z0 = int_min levels.z0 z; z1 = int_max levels.z1 z }) heights))

first_level : (z : ℤ) (heights : Option (List ℤ))
    → raised (record { z0 = z; z1 = z }) heights ≡ levels_of (with_first (Some z) heights)
first_level z None = refl
first_level z (Some zs) = grind (arith, least_is, greatest_is)

levels_are : (height : Height) (heights : List Height)
    → fold level_with (level_of height) heights ≡ levels_of (all_heights (height ∷ heights))
levels_are None heights = none_with heights
levels_are (Some z) heights =
    levels_grow (record { z0 = z; z1 = z }) heights ∙ first_level z (all_heights heights)

-- ---- both
abbrev box_with : Rect → Option Levels → BoundingBox
box_with plane levels = record { plane = plane; levels = levels }

both_grow : (box : BoundingBox) (images : List Position)
    → fold widened_with box images
    ≡ box_with (fold box_with_point box.plane (points_of images)) (fold level_with box.levels (heights_of images))
both_grow box [] = refl
both_grow box (image ∷ images) = both_grow (widened_with box image) images

pub box_is : (image : Position) (images : List Position)
    → fold widened_with (box_of_image image) images ≡ box_of image images
box_is image images = grind (arith, both_grow, widened_is, plane_is, levels_are)

pub bounds_are : (images : List Position) → bounded_text (widened_by None images) ≡ bounds_text images
bounds_are [] = refl
bounds_are (image ∷ images) = ap box_text (box_is image images)

-- ---- images one after the other
pub widened_append : (bounds : Option BoundingBox) (images more : List Position)
    → widened_by (widened_by bounds images) more ≡ widened_by bounds (images ++ more)
widened_append None (image ∷ images) [] =
    ap (λ ps. Some (fold widened_with (box_of_image image) ps)) (sym (append-nil images))
widened_append (Some box) (image ∷ images) [] =
    ap (λ ps. Some (fold widened_with box (image ∷ ps))) (sym (append-nil images))
widened_append None (image ∷ images) (next ∷ more) =
    ap Some (sym (fold-append widened_with (box_of_image image) images (next ∷ more)))
widened_append (Some box) (image ∷ images) (next ∷ more) =
    ap Some (sym (fold-append widened_with box (image ∷ images) (next ∷ more)))
widened_append bounds images more = refl

-- ---- the law
levels_least : (heights : Option (List ℤ)) → AreLevelsOf heights (levels_of heights)
levels_least (Some (z ∷ zs)) = (is_least z zs, is_greatest z zs)
levels_least heights = refl

pub boxes_are_least : BoxesAreLeast
boxes_are_least image images = grind (arith, is_least, is_greatest, levels_least)
