-- Which faults come before a key, and which do one step further.
use Rattle.std.proofs.Common.{◌≡◌, ◌⊎◌, inl, inr, ℕ, ◌+◌, ◌<◌, ◌≤◌, List, [], ◌∷◌, length, refl, ◌∙◌, ap, arith}
use Rattle.plain_laws.proofs.Order.{at_or_before}
use Rattle.tin_base.specs.declared.frames.Frame.{Frame}
use Rattle.tin_base.specs.Triangulation.{Triangulation}
use Rattle.tin_check.specs.Faults.{frame_rank, IsLowerRank}
use Rattle.tin_faults.specs.declared.faults.Fault.{Fault}
use Rattle.tin_faults.specs.declared.faults.Fault.TheVariants.{Flat, TurnsOver, Overlap}
use Rattle.tin_faults.specs.Faults.{IsFaultOf}
use Rattle.tin_faults.specs.InsideProgress.{triangle_key, pair_key, IsPassed}
use Rattle.tin_check.proofs.CallerLemmas.FirstFault.{same_frame}

pub lower_trans : (ks ms ns : List ℕ) → IsLowerRank ks ms → IsLowerRank ms ns → IsLowerRank ks ns
lower_trans (k ∷ ks) (m ∷ ms) [] h i = absurd i
lower_trans (k ∷ ks) (m ∷ ms) (n ∷ ns) (inl h) (inl i) = inl (omega arith)
lower_trans (k ∷ ks) (m ∷ ms) (n ∷ ns) (inl h) (inr (e, i)) = inl (omega arith)
lower_trans (k ∷ ks) (m ∷ ms) (n ∷ ns) (inr (e, h)) (inl i) = inl (omega arith)
lower_trans (k ∷ ks) (m ∷ ms) (n ∷ ns) (inr (e, h)) (inr (f, i)) = inr (e ∙ f, lower_trans ks ms ns h i)
lower_trans ks ms ns h i = absurd h

-- ---- ranks as they are compared
triangle_lower : (a b c d : ℕ) → IsLowerRank (triangle_key a b) (triangle_key c d) → (a < c) ⊎ ((a ≡ c) × (b < d))
triangle_lower a b c d h = grind arith

lower_triangle : (a b c d : ℕ) → (a < c) ⊎ ((a ≡ c) × (b < d)) → IsLowerRank (triangle_key a b) (triangle_key c d)
lower_triangle a b c d h = grind arith

pair_lower : (a b c d e f : ℕ) → IsLowerRank (pair_key a b c) (pair_key d e f)
    → (a < d) ⊎ ((a ≡ d) × ((b < e) ⊎ ((b ≡ e) × (c < f))))
pair_lower a b c d e f h = grind arith

lower_pair : (a b c d e f : ℕ) → (a < d) ⊎ ((a ≡ d) × ((b < e) ⊎ ((b ≡ e) × (c < f))))
    → IsLowerRank (pair_key a b c) (pair_key d e f)
lower_pair a b c d e f h = grind arith

no_pair_first : (a b c d e : ℕ) → IsLowerRank (pair_key a b c) (triangle_key d e) → ⊥
no_pair_first a b c d e h = grind arith

pub triangle_first : (a b c d e : ℕ) → IsLowerRank (triangle_key a b) (pair_key c d e)
triangle_first a b c d e = inl (omega arith)

-- ---- frames
two_frames : (frame : Frame) → frame_rank frame < 2
two_frames frame = grind arith

-- ---- the first key, and the last one
pub none_first : (fault : Fault) → IsPassed (triangle_key 0 0) fault → ⊥
none_first fault h = grind (arith, triangle_lower, no_pair_first)

pub all_last : (fault : Fault) → IsPassed (pair_key 2 0 0) fault
all_last fault = grind (arith, triangle_first, lower_pair, two_frames)

-- ---- one triangle more
-- the fault is of this triangle in this frame
abbrev pub IsOfTriangle : Frame → ℕ → Fault → Type 0
IsOfTriangle frame t (Flat f u) = (f ≡ frame) × (u ≡ t)
IsOfTriangle frame t (TurnsOver f u) = (f ≡ frame) × (u ≡ t)
IsOfTriangle frame t (Overlap f u v) = ⊥

last_or_earlier : (frame f : Frame) (t u : ℕ)
    → IsLowerRank (triangle_key (frame_rank f) u) (triangle_key (frame_rank frame) (t + 1))
    → IsLowerRank (triangle_key (frame_rank f) u) (triangle_key (frame_rank frame) t) ⊎ ((f ≡ frame) × (u ≡ t))
last_or_earlier frame f t u h = grind (arith, triangle_lower, lower_triangle, same_frame)

pub triangle_split : (frame : Frame) (t : ℕ) (fault : Fault) → IsPassed (triangle_key (frame_rank frame) (t + 1)) fault
    → IsPassed (triangle_key (frame_rank frame) t) fault ⊎ IsOfTriangle frame t fault
triangle_split frame t fault h = grind (arith, last_or_earlier, no_pair_first)

pub triangle_on : (a t : ℕ) → IsLowerRank (triangle_key a t) (triangle_key a (t + 1))
triangle_on a t = lower_triangle a t a (t + 1) (inr (refl, omega arith))

-- ---- all triangles of a frame
triangles_at : (a c n u : ℕ) → u < n → IsLowerRank (triangle_key a u) (triangle_key (c + 1) 0)
    → IsLowerRank (triangle_key a u) (triangle_key c n)
triangles_at a c n u within h = grind (arith, triangle_lower, lower_triangle, at_or_before)

pub triangles_end : (tin : Triangulation) (c n : ℕ) (fault : Fault) → length tin.triangles ≤ n → IsFaultOf tin fault
    → IsPassed (triangle_key (c + 1) 0) fault → IsPassed (triangle_key c n) fault
triangles_end tin c n fault past is h = grind (arith, triangles_at, no_pair_first)

pub triangles_over : (c n : ℕ) → IsLowerRank (triangle_key c n) (triangle_key (c + 1) 0)
triangles_over c n = lower_triangle c n (c + 1) 0 (inl (omega arith))

-- ---- from triangles to pairs
pub pairs_begin : (fault : Fault) → IsPassed (pair_key 0 0 0) fault → IsPassed (triangle_key 2 0) fault
pairs_begin fault h = grind (arith, lower_triangle, two_frames, pair_lower)

-- ---- one pair more
pair_cases : (frame f : Frame) (a b t u : ℕ) → (frame_rank f < frame_rank frame)
    ⊎ ((frame_rank f ≡ frame_rank frame) × ((t < a) ⊎ ((t ≡ a) × (u < b + 1))))
    → IsLowerRank (pair_key (frame_rank f) t u) (pair_key (frame_rank frame) a b)
    ⊎ (Overlap f t u ≡ Overlap frame a b)
pair_cases frame f a b t u h = grind (arith, lower_pair, same_frame)

pub pair_split : (frame : Frame) (a b : ℕ) (fault : Fault) → IsPassed (pair_key (frame_rank frame) a (b + 1)) fault
    → IsPassed (pair_key (frame_rank frame) a b) fault ⊎ (fault ≡ Overlap frame a b)
pair_split frame a b fault h = grind (arith, triangle_first, pair_cases, pair_lower)

pub pair_on : (c a b d : ℕ) → b < d → IsLowerRank (pair_key c a b) (pair_key c a d)
pair_on c a b d h = lower_pair c a b c a d (inr (refl, inr (refl, h)))

-- ---- pairs that are passed over: those of a first triangle from one second number on
-- the fault is of a pair of this first triangle, whose second one is not below b
pub record IsFrom (frame : Frame) (a b : ℕ) (fault : Fault) : Type 0 where
  pub second : ℕ
  pub is : fault ≡ Overlap frame a second
  pub from : b ≤ second

from_cases : (frame f : Frame) (a b d t u : ℕ) → (frame_rank f < frame_rank frame)
    ⊎ ((frame_rank f ≡ frame_rank frame) × ((t < a) ⊎ ((t ≡ a) × (u < d))))
    → IsLowerRank (pair_key (frame_rank f) t u) (pair_key (frame_rank frame) a b)
    ⊎ ((i : IsFrom frame a b (Overlap f t u)) × (i.second < d))
from_cases frame f a b d t u (inl h) = inl (lower_pair (frame_rank f) t u (frame_rank frame) a b (inl h))
from_cases frame f a b d t u (inr (e, inl h)) =
    inl (lower_pair (frame_rank f) t u (frame_rank frame) a b (inr (e, inl h)))
from_cases frame f a b d t u (inr (e, inr (g, h))) = go (split u b)
  where
    split : (u b : ℕ) → (u < b) ⊎ (b ≤ u)
    split u b = grind arith

    go : (u < b) ⊎ (b ≤ u) → IsLowerRank (pair_key (frame_rank f) t u) (pair_key (frame_rank frame) a b)
        ⊎ ((i : IsFrom frame a b (Overlap f t u)) × (i.second < d))
    go (inl i) = inl (lower_pair (frame_rank f) t u (frame_rank frame) a b (inr (e, inr (g, i))))
    go (inr i) = inr (
      record {
        second = u;
        is = ap (λ (x : Frame). Overlap x t u) (same_frame f frame e) ∙ ap (λ (m : ℕ). Overlap frame m u) g;
        from = i;
      },
      h,
    )

pub seconds_split : (frame : Frame) (a b d : ℕ) (fault : Fault) → IsPassed (pair_key (frame_rank frame) a d) fault
    → IsPassed (pair_key (frame_rank frame) a b) fault ⊎ ((i : IsFrom frame a b fault) × (i.second < d))
seconds_split frame a b d (Flat f u) h = inl (triangle_first (frame_rank f) u (frame_rank frame) a b)
seconds_split frame a b d (TurnsOver f u) h = inl (triangle_first (frame_rank f) u (frame_rank frame) a b)
seconds_split frame a b d (Overlap f t u) h = from_cases frame f a b d t u
    (pair_lower (frame_rank f) t u (frame_rank frame) a d h)

rest_cases : (frame f : Frame) (a b t u : ℕ) → (frame_rank f < frame_rank frame)
    ⊎ ((frame_rank f ≡ frame_rank frame) × ((t < a + 1) ⊎ ((t ≡ a + 1) × (u < 0))))
    → IsLowerRank (pair_key (frame_rank f) t u) (pair_key (frame_rank frame) a b) ⊎ IsFrom frame a b (Overlap f t u)
rest_cases frame f a b t u h = grind (arith, lower_pair, same_frame)

pub first_split : (frame : Frame) (a b : ℕ) (fault : Fault) → IsPassed (pair_key (frame_rank frame) (a + 1) 0) fault
    → IsPassed (pair_key (frame_rank frame) a b) fault ⊎ IsFrom frame a b fault
first_split frame a b fault h = grind (arith, triangle_first, rest_cases, pair_lower)

pub first_on : (c a b : ℕ) → IsLowerRank (pair_key c a b) (pair_key c (a + 1) 0)
first_on c a b = lower_pair c a b c (a + 1) 0 (inr (refl, inl (omega arith)))

-- ---- all pairs of a frame
pub pairs_end : (tin : Triangulation) (c n : ℕ) (fault : Fault) → length tin.triangles ≤ n → IsFaultOf tin fault
    → IsPassed (pair_key (c + 1) 0 0) fault → IsPassed (pair_key c n 0) fault
pairs_end tin c n fault past is h = grind (arith, triangle_first, pair_lower, lower_pair, at_or_before)

pub pairs_over : (c n : ℕ) → IsLowerRank (pair_key c n 0) (pair_key (c + 1) 0 0)
pairs_over c n = lower_pair c n 0 (c + 1) 0 0 (inl (omega arith))
