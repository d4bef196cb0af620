-- What the test of the limits looks at is what they say.
use Rattle.std.proofs.Common.{◌≡◌, ◌⊎◌, inl, inr, ◌↔◌, ℕ, ◌<◌, ◌≤◌, ℤ, ◌-ℤ◌, ◌<ℤ◌, Bool, IsTrue, List, [], length}
use Rattle.std.proofs.Common.{get_or, sym, ap, subst, arith}
use Rattle.plane_base.specs.Plane.{Point, whole, IsNear}
use Rattle.plane_base.specs.declared.shapes.Pt.{Pt}
use Rattle.plane_base.specs.declared.shapes.TheConstants.{SPAN}
use Rattle.tin_base.specs.declared.corners.Corner.{Corner}
use Rattle.tin_base.specs.declared.frames.Frame.{Frame}
use Rattle.tin_base.specs.declared.frames.Frame.TheVariants.{Source, Target}
use Rattle.tin_base.specs.declared.limits.TheConstants.{MOST_CORNERS, MOST_TRIANGLES}
use Rattle.tin_base.specs.Triangulation.{triangulation, x_in, y_in, place, no_corner}
use Rattle.tin_base.specs.Limits.{IsNotFarBelow, IsWithinLimits}
use Rattle.tin_base.specs.InsideLimits.{AreBeside, AreFirstFine, AreRowsBelow}

abbrev IsNearOn : ℤ → ℤ → Type 0
IsNearOn a b = ((a -ℤ b) <ℤ SPAN) × ((b -ℤ a) <ℤ SPAN)

moved : {a b c d : ℤ} → a ≡ c → b ≡ d → IsNearOn a b → IsNearOn c d
moved {a} {b} {c} {d} e f h = subst (λ (z : ℤ). IsNearOn c z) f (subst (λ (z : ℤ). IsNearOn z b) e h)

x_at : (frame : Frame) (c : Corner) (p : Pt) → whole p ≡ place frame c → p.x ≡ x_in frame c
x_at frame c p e = ap (λ (r : Point). r.x) e

y_at : (frame : Frame) (c : Corner) (p : Pt) → whole p ≡ place frame c → p.y ≡ y_in frame c
y_at frame c p e = ap (λ (r : Point). r.y) e

both_frames : (P : Frame → Type 0) → P Source → P Target → (frame : Frame) → P frame
both_frames P s t Source = s
both_frames P s t Target = t

-- what both frames say together
pub both_told : (P : Frame → Type 0) (r : Bool) → P Source → IsTrue r ↔ P Target
    → IsTrue r ↔ ((frame : Frame) → P frame)
both_told P r s i = (λ t. both_frames P s (i.0 t), λ h. i.1 (h Target))

pub beside_told : (c d : Corner) (r : Bool) → (c ≡ d → ⊥) → IsNotFarBelow Source c d × IsNotFarBelow Source d c
    → IsTrue r ↔ (IsNotFarBelow Target c d × IsNotFarBelow Target d c) → IsTrue r ↔ AreBeside c d
beside_told c d r differ s i = (
  λ t. (
    differ,
    both_frames (λ frame. IsNotFarBelow frame c d × IsNotFarBelow frame d c) s
        (i.0 t),
  ),
  λ h. i.1 (h.1 Target),
)

-- ---- two points
pub near_both : (p q : Pt) (r : Bool) → IsNearOn p.x q.x → IsTrue r ↔ IsNearOn p.y q.y → IsTrue r ↔ IsNear p q
near_both p q r x i = (λ t. let y = i.0 t in (x.0, x.1, y.0, y.1), λ h. i.1 (h.2, h.3))

pub far_on_x : (p q : Pt) → (IsNearOn p.x q.x → ⊥) → IsNear p q → ⊥
far_on_x p q n h = n (h.0, h.1)

-- ---- two corners in a frame
pub near_told : (frame : Frame) (c d : Corner) (p q : Pt) (r : Bool) → whole p ≡ place frame c → whole q ≡ place frame d
    → IsTrue r ↔ IsNear p q → IsTrue r ↔ (IsNotFarBelow frame c d × IsNotFarBelow frame d c)
near_told frame c d p q r e f i = grind (arith, moved, x_at, y_at)

-- ---- all together
itself : (frame : Frame) (c : Corner) → IsNotFarBelow frame c c
itself frame c = grind arith

pub all_told : (corners : List Corner) (rows : List (List ℕ)) (inexact : ℕ) (r : Bool)
    → ((t : ℕ) → t < length rows → length (get_or rows t []) ≡ 3) → length corners ≤ MOST_CORNERS
    → length rows ≤ MOST_TRIANGLES → AreRowsBelow rows (length corners) (length rows)
    → IsTrue r ↔ AreFirstFine corners (length corners) → IsTrue r ↔ IsWithinLimits (triangulation corners rows inexact)
all_told corners rows inexact r three few few_rows below i = (λ t. there (i.0 t), λ limits. i.1 (back limits))
  where
    at : ℕ → Corner
    at n = get_or corners n no_corner

    either_first : (m n : ℕ) → (m < n) ⊎ ((m ≡ n) ⊎ (n < m))
    either_first m n = grind arith

    there : AreFirstFine corners (length corners) → IsWithinLimits (triangulation corners rows inexact)
    there fine =
        record {
          three = three;
          in_range = below;
          in_reach = λ frame n h. (fine n h).0 frame;
          near = λ frame m n hm hn. near frame m n hm hn (either_first m n);
          different = λ m n hm hn e. different m n hm hn e (either_first m n);
          corner_count = few;
          triangle_count = few_rows;
        }
      where
        near : (frame : Frame) (m n : ℕ) → m < length corners → n < length corners → (m < n) ⊎ ((m ≡ n) ⊎ (n < m))
            → IsNotFarBelow frame (at m) (at n)
        near frame m n hm hn (inl h) = (((fine n hn).1 m h).1 frame).0
        near frame m n hm hn (inr (inl h)) = subst (λ (k : ℕ). IsNotFarBelow frame (at m) (at k)) h
            (itself frame (at m))
        near frame m n hm hn (inr (inr h)) = (((fine m hm).1 n h).1 frame).1

        different : (m n : ℕ) → m < length corners → n < length corners → at m ≡ at n → (m < n) ⊎ ((m ≡ n) ⊎ (n < m))
            → m ≡ n
        different m n hm hn e (inl h) = absurd (((fine n hn).1 m h).0 e)
        different m n hm hn e (inr (inl h)) = h
        different m n hm hn e (inr (inr h)) = absurd (((fine m hm).1 n h).0 (sym e))

    back : IsWithinLimits (triangulation corners rows inexact) → AreFirstFine corners (length corners)
    back limits n h = (λ frame. limits.in_reach frame n h, λ m k. beside m k)
      where
        beside : (m : ℕ) → m < n → AreBeside (at m) (at n)
        beside m k =
            let hm : m < length corners = omega arith in (
              λ e. let same : m ≡ n = limits.different m n hm h e in absurd (omega arith),
              λ frame.
                  (limits.near frame m n hm h, limits.near frame n m h hm),
            )

-- ---- at the end of the loop
pub at_end : (corners : List Corner) (n : ℕ) → length corners ≤ n → AreFirstFine corners n
    → AreFirstFine corners (length corners)
at_end corners n past all k within = all k (omega arith)
