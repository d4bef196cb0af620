-- Exchanging the frames of corners, one after another, and what this keeps of a triangulation's limits.
use Rattle.std.proofs.Common.{◌≡◌, ◌<◌, ◌≤◌, ◌∙◌, ℕ, ◌+◌, List, [], ◌∷◌, ◌++◌, length, map, take, drop, get_or, set}
use Rattle.std.proofs.Common.{sym, ap, subst, arith, append_assoc}
use Rattle.std.proofs.Math.Seq.{set-append_seam, get_or-append_seam}
use Rattle.std.proofs.lemmas.List.{length-map, length-take, drop_more, map_more}
use Rattle.tin_base.specs.declared.corners.Corner.{Corner}
use Rattle.tin_base.specs.declared.frames.Frame.{Frame}
use Rattle.tin_base.specs.declared.frames.Frame.TheVariants.{Source, Target}
use Rattle.tin_base.specs.Triangulation.{Triangulation, other, corner_at}
use Rattle.tin_base.specs.Limits.{IsCornerInReach, IsNotFarBelow, IsWithinLimits}
use Rattle.tin_base.specs.ExchangedFrames.{exchanged_corner, turned_of}
use Rattle.tin_base.proofs.FrameImages.Converse.{corner_at-turned}

-- ---- one corner after another
length_front : (xs : List Corner) (i : ℕ) → i < length xs → length (map exchanged_corner (take i xs)) ≡ i
length_front xs i h = omega (arith, length-map (take i xs) exchanged_corner, length-take i xs)

-- the elements so far, and the rest as it was
abbrev so_far : List Corner → ℕ → List Corner
so_far xs i = map exchanged_corner (take i xs) ++ drop i xs

read_so_far : (xs : List Corner) (i : ℕ) (d : Corner) → i < length xs → get_or (so_far xs i) i d ≡ get_or xs i d
read_so_far xs i d h =
    ap (λ (ys : List Corner). get_or (map exchanged_corner (take i xs) ++ ys) i d) (drop_more xs i d h)
    ∙ ap (λ (k : ℕ). get_or (map exchanged_corner (take i xs) ++ get_or xs i d ∷ drop (i + 1) xs) k d)
    (sym (length_front xs i h))
    ∙ get_or-append_seam (map exchanged_corner (take i xs)) (get_or xs i d) (drop (i + 1) xs) d

one_exchanged : (xs : List Corner) (i : ℕ) (d v : Corner) → i < length xs → v ≡ exchanged_corner (get_or (so_far xs i) i d)
    → set (so_far xs i) i v ≡ so_far xs (i + 1)
one_exchanged xs i d v h e =
    let front = map exchanged_corner (take i xs) in
    let x = get_or xs i d in
    let f : v ≡ exchanged_corner x = e ∙ ap (λ (y : Corner). exchanged_corner y) (read_so_far xs i d h) in
    ap (λ (ys : List Corner). set (front ++ ys) i v) (drop_more xs i d h)
    ∙ ap (λ (k : ℕ). set (front ++ x ∷ drop (i + 1) xs) k v) (sym (length_front xs i h))
    ∙ set-append_seam front x (drop (i + 1) xs) v
    ∙ ap (λ (y : Corner). front ++ y ∷ drop (i + 1) xs) f
    ∙ sym (append_assoc front (exchanged_corner x ∷ []) (drop (i + 1) xs))
    ∙ ap (λ (ys : List Corner). ys ++ drop (i + 1) xs) (sym (map_more exchanged_corner xs i d h))

-- ---- the limits
reach-exchanged : (frame : Frame) (corner : Corner) → IsCornerInReach (other frame) corner
    → IsCornerInReach frame (exchanged_corner corner)
reach-exchanged Source corner h = h
reach-exchanged Target corner h = h

near-exchanged : (frame : Frame) (c d : Corner) → IsNotFarBelow (other frame) c d
    → IsNotFarBelow frame (exchanged_corner c) (exchanged_corner d)
near-exchanged Source c d h = h
near-exchanged Target c d h = h

same-exchanged : (c d : Corner) → exchanged_corner c ≡ exchanged_corner d → c ≡ d
same-exchanged c d e = ap (λ (corner : Corner). exchanged_corner corner) e

pub turned_within : (tin : Triangulation) → IsWithinLimits tin → IsWithinLimits (turned_of tin)
turned_within tin h =
    let count : length (map exchanged_corner tin.corners) ≡ length tin.corners = length-map tin.corners exchanged_corner in
    let down = λ (n : ℕ) (k : n < length (map exchanged_corner tin.corners)). subst (λ (m : ℕ). n < m) count k in
    let at = corner_at-turned tin in
    record {
      three = h.three;
      in_range = λ t k. subst (λ (m : ℕ). (i : ℕ) (d : ℕ) → i < length (get_or tin.triangles t [])
          → get_or (get_or tin.triangles t []) i d < m) (sym count) (h.in_range t k);
      in_reach = λ frame n k. subst (λ (corner : Corner). IsCornerInReach frame corner) (sym (at n))
          (reach-exchanged frame (corner_at tin n) (h.in_reach (other frame) n (down n k)));
      near = λ frame m n j k.
          subst (λ (c : Corner). IsNotFarBelow frame c (corner_at (turned_of tin) n)) (sym (at m))
          (subst (λ (d : Corner). IsNotFarBelow frame (exchanged_corner (corner_at tin m)) d) (sym (at n))
          (near-exchanged frame (corner_at tin m) (corner_at tin n) (h.near (other frame) m n (down m j) (down n k))));
      different = λ m n j k e. h.different m n (down m j) (down n k)
          (same-exchanged (corner_at tin m) (corner_at tin n) (sym (at m) ∙ e ∙ at n));
      corner_count = subst (λ (m : ℕ). m ≤ 1048576) (sym count) h.corner_count;
      triangle_count = h.triangle_count;
    }

-- one step of the loop
pub step : (xs ys : List Corner) (i : ℕ) (d v : Corner) → i < length xs → ys ≡ so_far xs i
    → v ≡ exchanged_corner (get_or ys i d) → set ys i v ≡ so_far xs (i + 1)
step xs ys i d v h e f = grind (arith, one_exchanged, get_or)

-- the limits, at corners that are the exchanged ones
pub within_by : (tin : Triangulation) (cs ds : List Corner) → ds ≡ tin.corners → cs ≡ map exchanged_corner ds
    → IsWithinLimits tin → IsWithinLimits (record tin { corners = cs })
within_by tin cs ds e f h = grind (arith, turned_within)
