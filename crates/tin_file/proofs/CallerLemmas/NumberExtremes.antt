-- The least and the greatest of the corners' numbers on an axis.
use Rattle.std.proofs.Common.{◌≡◌, ℕ, suc, zero, ◌+◌, ◌<◌, ◌≤◌, List, [], ◌∷◌, length, get_or, Bool, true, false, refl}
use Rattle.std.proofs.Common.{sym, ◌∙◌, subst, arith, cond, ◌⊎◌, inl, inr}
use Rattle.std.proofs.lemmas.Bool.{or_right}
use Rattle.std.proofs.lemmas.Int.{ints, int_min_is, int_max_is}
use Rattle.std.proofs.lemmas.Float.{T_from_true}
use Rattle.std.specs.Int.{int_min, int_max}
use Rattle.std.specs.Prelude.{◌||◌, ℤ, pos, ◌-ℤ◌, ◌≤ℤ◌, int_le, int_lt, neg_ℤ, FitsSigned}
use Rattle.std.specs.List.{list_any, AllByRecursion}
use mir.Syntax.{w64}
use Rattle.tin_base.specs.Limits.{IsInReach}
use Rattle.tin_base.specs.declared.frames.Frame.{Frame}
use Rattle.tin_base.specs.declared.frames.Frame.TheVariants as frames
use Rattle.tin_base.specs.declared.frames.Axis.{Axis}
use Rattle.tin_base.specs.declared.frames.Axis.TheVariants as axes
use Rattle.plane_base.specs.declared.shapes.TheConstants.{SPAN}
use Rattle.tin_base.specs.declared.corners.Corner.{Corner}
use Rattle.tin_base.specs.Triangulation.{no_corner}
use Rattle.tin_file.specs.Corners.{is_wide}
use Rattle.tin_file.specs.RowContents.{AreInReach, coordinate_of}

abbrev pub at : List Corner → ℕ → Corner
at corners k = get_or corners k no_corner

pub record IsReached (coordinate : Corner → ℤ) (corners : List Corner) (i : ℕ) (least greatest : ℤ) : Type 0 where
  pub below : (k : ℕ) → k < i → (least ≤ℤ coordinate (at corners k)) × (coordinate (at corners k) ≤ℤ greatest)
  pub low : (m : ℕ) × (m < length corners) × (least ≡ coordinate (at corners m))
  pub high : (m : ℕ) × (m < length corners) × (greatest ≡ coordinate (at corners m))

or_false : (a b : Bool) → a ≡ false → b ≡ false → (a || b) ≡ false
or_false a b h i = rw (h, i) refl

one_of : {A : Type 0} (b : Bool) (x y : A) → (cond b x y ≡ x) ⊎ (cond b x y ≡ y)
one_of b x y = grind arith

min_first : (x y : ℤ) → int_min x y ≤ℤ x
min_first x y = omega (arith, ints, int_min_is x y)

min_second : (x y : ℤ) → int_min x y ≤ℤ y
min_second x y = omega (arith, ints, int_min_is x y)

max_first : (x y : ℤ) → x ≤ℤ int_max x y
max_first x y = omega (arith, ints, int_max_is x y)

max_second : (x y : ℤ) → y ≤ℤ int_max x y
max_second x y = omega (arith, ints, int_max_is x y)

module _ (coordinate : Corner → ℤ) (corners : List Corner) where
  pub reach_goes_on : (i : ℕ) (least greatest here : ℤ) → IsReached coordinate corners i least greatest
      → i < length corners → here ≡ coordinate (at corners i)
      → IsReached coordinate corners (i + 1) (int_min least here) (int_max greatest here)
  reach_goes_on i least greatest here h within is = record {
    below = λ k below. elim (last k below) [
      | inl earlier ↦ (
        omega (arith, ints, (h.below k earlier).0, min_first least here),
        omega
            (arith, ints, (h.below k earlier).1, max_first greatest here),
      )
      | inr same ↦ (
        subst (λ n. int_min least here ≤ℤ coordinate (at corners n)) (sym same)
            (subst (λ z. int_min least here ≤ℤ z) is (min_second least here)),
        subst (λ n. coordinate (at corners n) ≤ℤ int_max greatest here) (sym same)
            (subst (λ z. z ≤ℤ int_max greatest here) is (max_second greatest here)),
      )
    ];
    low = elim (one_of (int_lt here least) here least) [
      | inl new ↦ (i, within, new ∙ is)
      | inr old ↦ (h.low.0, h.low.1, old ∙ h.low.2)
    ];
    high = elim (one_of (int_lt here greatest) greatest here) [
      | inl old ↦ (h.high.0, h.high.1, old ∙ h.high.2)
      | inr new ↦ (i, within, new ∙ is)
    ];
  }
    where
      last : (k : ℕ) → k < i + 1 → (k < i) ⊎ (k ≡ i)
      last k below = grind arith

any_at : {A : Type 0} (p : A → Bool) (xs : List A) (i : ℕ) (d : A) → i < length xs → p (get_or xs i d) ≡ true
    → list_any p xs ≡ true
any_at p [] i d within h = absurd (omega (arith, within))
any_at p (x ∷ xs) zero d within h = rw h refl
any_at p (x ∷ xs) (suc i) d within h = or_right (p x) (list_any p xs) (any_at p xs i d (omega (arith, within)) h)

none_at : {A : Type 0} (p : A → Bool) (xs : List A) (d : A) → ((i : ℕ) → i < length xs → p (get_or xs i d) ≡ false)
    → list_any p xs ≡ false
none_at p [] d h = refl
none_at p (x ∷ xs) d h = or_false (p x) (list_any p xs) (h 0 (omega arith))
    (none_at p xs d (λ i within. h (suc i) (omega (arith, within))))

-- a number that is not above one that passes no test against a bound passes none
not_above : (bound small large : ℤ) → small ≤ℤ large → int_le bound large ≡ false → int_le bound small ≡ false
not_above bound small large below passes = grind (arith, T_from_true)

module _ (coordinate : Corner → ℤ) (corners : List Corner) (i : ℕ) (least greatest : ℤ)
    (h : IsReached coordinate corners i least greatest) (all : length corners ≤ i) where
  pub wide_so : int_le SPAN (greatest -ℤ least) ≡ is_wide coordinate corners
  wide_so = by_test (int_le SPAN (greatest -ℤ least)) refl
    where
      by_test : (test : Bool) → int_le SPAN (greatest -ℤ least) ≡ test → test ≡ is_wide coordinate corners
      by_test true t =
          let far : int_le SPAN (coordinate (at corners h.high.0) -ℤ coordinate (at corners h.low.0)) ≡ true =
          rw (sym h.high.2, sym h.low.2) t in
          sym (any_at (λ c. list_any (λ d. int_le SPAN (coordinate c -ℤ coordinate d)) corners) corners h.high.0
          no_corner h.high.1
          (any_at (λ d. int_le SPAN (coordinate (at corners h.high.0) -ℤ coordinate d)) corners h.low.0 no_corner
          h.low.1 far))
      by_test false t =
          sym (none_at (λ c. list_any (λ d. int_le SPAN (coordinate c -ℤ coordinate d)) corners) corners no_corner
          (λ m within. none_at (λ d. int_le SPAN (coordinate (at corners m) -ℤ coordinate d)) corners no_corner
          (λ n inside. not_above SPAN (coordinate (at corners m) -ℤ coordinate (at corners n)) (greatest -ℤ least)
          (omega (arith, ints, (h.below m (omega (arith, within, all))).1, (h.below n (omega (arith, inside, all))).0))
          t)))

pub at_of : (P : Corner → Type 0) (corners : List Corner) (i : ℕ) → AllByRecursion P corners → i < length corners
    → P (at corners i)
at_of P [] i h within = absurd (omega (arith, within))
at_of P (corner ∷ corners) zero h within = h.0
at_of P (corner ∷ corners) (suc i) h within = at_of P corners i h.1 (omega (arith, within))

by_mag : (z : ℤ) → neg_ℤ (pos 2000000000000000) ≤ℤ z → z ≤ℤ pos 2000000000000000 → FitsSigned w64 z
by_mag z h i = grind arith

difference_fits : (greatest least : ℤ) → IsInReach greatest → IsInReach least → FitsSigned w64 (greatest -ℤ least)
difference_fits greatest least g l = by_mag (greatest -ℤ least) (omega (arith, ints, g.0, g.1, l.0, l.1))
    (omega (arith, ints, g.0, g.1, l.0, l.1))

pub reach_fits : (frame : Frame) (axis : Axis) (corners : List Corner) (i : ℕ) (least greatest : ℤ) → AreInReach corners
    → IsReached (coordinate_of frame axis) corners i least greatest
    → FitsSigned w64 (greatest -ℤ least)
reach_fits frame axis corners i least greatest all h = grind (arith, difference_fits, at_of)
