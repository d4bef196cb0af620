-- A point has one offset, whichever triangle gives it: an offset goes with the corners as a coordinate of a frame does.
use Rattle.std.proofs.Common.{◌≡◌, ◌≢◌, ◌⊎◌, inl, inr, ℕ, suc, zero, ◌<◌, ℤ, pos, ◌+ℤ◌, ◌*ℤ◌, ◌<ℤ◌, List, [], ◌∷◌, length}
use Rattle.std.proofs.Common.{sum, refl, sym, ap, ap₂, ◌∙◌, subst, arith}
use Rattle.std.specs.Prelude.{slice_index_or}
use Rattle.integer_ring.proofs.Ring.{num, ◌⊕◌, ◌⊖◌, ◌⊗◌}
use Rattle.integer_ring.proofs.Claims.{◌≐◌, eqn, ◌⊞◌, ◌because◌, ◌⇒◌, follows}
use Rattle.std.proofs.Math.ListN.{length-map}
use Rattle.std.proofs.lemmas.Int.{ints}
use Rattle.plane_base.specs.Plane.{Point, Same, weighted_sum, IsMix}
use Rattle.tin_base.specs.declared.corners.Corner.{Corner}
use Rattle.tin_base.specs.declared.frames.Frame.TheVariants.{Source, Target}
use Rattle.tin_base.specs.Triangulation.{Triangulation, triangulation, no_corner, corner_at, numbers_of, place, places, IsInTriangle}
use Rattle.tin_base.specs.Soundness.{IsSound, common_of, turn_of_three}
use Rattle.tin_base.specs.Images.{AreLikeMixes}
use Rattle.tin_base.proofs.FrameImages.Weights.{common_in_first, common_in_second, total-ones, weighed-w}
use Rattle.tin_base.proofs.FrameImages.Alike.{alike_more, alike_in, alike_of, alike_once, same_trans}
use Rattle.tin_height.specs.Offsets.{weighed_offset, IsOffset, OffsetExists, OffsetIsOne}

-- the corners with their offsets in the place of a target
abbrev with_offset : Corner → ℤ → Corner
with_offset corner offset = record { sx = corner.sx; sy = corner.sy; tx = offset; ty = pos 0 }

abbrev lifted : List Corner → List ℤ → List Corner
lifted [] offsets = []
lifted (corner ∷ corners) [] = []
lifted (corner ∷ corners) (offset ∷ offsets) = with_offset corner offset ∷ lifted corners offsets

lifted_at : (corners : List Corner) (offsets : List ℤ) (n : ℕ) → length offsets ≡ length corners
    → slice_index_or (lifted corners offsets) n no_corner
    ≡ with_offset (slice_index_or corners n no_corner) (slice_index_or offsets n (pos 0))
lifted_at [] (offset ∷ offsets) n e = absurd (omega arith)
lifted_at (corner ∷ corners) [] n e = absurd (omega arith)
lifted_at (corner ∷ corners) (offset ∷ offsets) (suc n) e = lifted_at corners offsets n (omega arith)
lifted_at corners offsets n e = refl

module _ (tin : Triangulation) (offsets : List ℤ) (each : length offsets ≡ length tin.corners) where
  abbrev up : Triangulation
  up = triangulation (lifted tin.corners offsets) tin.triangles tin.inexact

  source_places : (ns : List ℕ) → places up Source ns ≡ places tin Source ns
  source_places [] = refl
  source_places (n ∷ ns) =
      ap₂ (λ (p : Point) (ps : List Point). p ∷ ps) (ap (place Source) (lifted_at tin.corners offsets n each))
      (source_places ns)

  -- an offset as a place of the other frame
  abbrev spot : ℤ → ℤ → Point
  spot z w = record { x = z; y = pos 0; w = w }

  target_x : (ws ns : List ℕ) → (weighted_sum ws (places up Target ns)).x ≡ weighed_offset offsets ws ns
  target_x (w ∷ ws) (n ∷ ns) =
      ap₂ (λ (a b : ℤ). pos w *ℤ a +ℤ b) (ap (λ (c : Corner). c.tx) (lifted_at tin.corners offsets n each))
      (target_x ws ns)
  target_x ws ns = refl

  nothing_more : (w a z : ℤ) → a ≡ pos 0 → z ≡ pos 0 → w *ℤ a +ℤ z ≡ pos 0
  nothing_more =
      follows 3 (λ w a z. a ≐ num (pos 0) ⇒ z ≐ num (pos 0) ⇒ w ⊗ a ⊕ z ≐ num (pos 0)
      because eqn 0 w ⊞ eqn 1 (num (pos 1))) tt

  target_y : (ws ns : List ℕ) → (weighted_sum ws (places up Target ns)).y ≡ pos 0
  target_y (w ∷ ws) (n ∷ ns) =
      nothing_more (pos w) _ _ (ap (λ (c : Corner). c.ty) (lifted_at tin.corners offsets n each)) (target_y ws ns)
  target_y ws ns = refl

  target_w : (ws ns : List ℕ) → length ws ≡ length ns → (weighted_sum ws (places up Target ns)).w ≡ pos (sum ws)
  target_w ws ns e = weighed-w (λ n. place Target (corner_at up n)) ws ns ∙ total-ones ws ns e

  no_side : (w y d : ℤ) → y ≡ pos 0 → pos 0 *ℤ w ≡ y *ℤ d
  no_side = follows 3 (λ w y d. y ≐ num (pos 0) ⇒ num (pos 0) ⊗ w ≐ y ⊗ d because eqn 0 (num (pos 0) ⊖ d)) tt

  as_spot : (ws ns : List ℕ) (n d : ℤ) → length ws ≡ length ns
      → n *ℤ pos (sum ws) ≡ weighed_offset offsets ws ns *ℤ d → Same (spot n d) (weighted_sum ws (places up Target ns))
  as_spot ws ns n d e is = (
    ap (λ (z : ℤ). n *ℤ z) (target_w ws ns e) ∙ is ∙ ap (λ (z : ℤ). z *ℤ d) (sym (target_x ws ns)),
    no_side (weighted_sum ws (places up Target ns)).w (weighted_sum ws (places up Target ns)).y d (target_y ws ns),
  )

  as_mix : (p : Point) (n d : ℤ) → (o : IsOffset tin offsets p n d) → AreLikeMixes up Source (numbers_of tin o.0) p (spot n d)
  as_mix p n d (t, ht, ws, fit, some, same, is) = (
    ws,
    fit,
    some,
    subst (λ (ps : List Point). Same p (weighted_sum ws ps)) (sym (source_places (numbers_of tin t))) same,
    as_spot ws (numbers_of tin t) n d fit is,
  )

  positive : IsSound tin → (t : ℕ) → t < length tin.triangles → pos 0 <ℤ turn_of_three (places up Source (numbers_of tin t))
  positive sound t ht =
      subst (λ (ps : List Point). pos 0 <ℤ turn_of_three ps) (sym (source_places (numbers_of tin t)))
      (sound.positive Source t ht)

  in_source : (t : ℕ) (p r : Point) → AreLikeMixes up Source (numbers_of tin t) p r → IsInTriangle tin Source t p
  in_source t p r m =
      subst (λ (ps : List Point). IsMix p ps) (source_places (numbers_of tin t)) (alike_in up Source (numbers_of tin t) p r m)

  by_two : (t u : ℕ) (p r s : Point) → IsSound tin → pos 0 <ℤ p.w → t ≢ u → t < length tin.triangles
      → u < length tin.triangles
      → AreLikeMixes up Source (numbers_of tin t) p r → AreLikeMixes up Source (numbers_of tin u) p s → Same r s
  by_two t u p r s sound hp differ ht hu m n =
      let ts = numbers_of tin t in let us = numbers_of tin u in
      let there = (sound.fit Source t u differ ht hu).meet p hp (in_source t p r m) (in_source u p s n) in
      let q = alike_of up Source (common_of tin t u) p
      (subst (λ (ps : List Point). IsMix p ps) (sym (source_places (common_of tin t u))) there) in
      let in_t : Same r q.0 = alike_once up Source ts p r q.0 hp (positive sound t ht) m
      (alike_more up Source ts (common_of tin t u) p q.0 (common_in_first ts us) q.2) in
      let in_u : Same q.0 s = alike_once up Source us p q.0 s hp (positive sound u hu)
      (alike_more up Source us (common_of tin t u) p q.0 (common_in_second ts us) q.2) n in
      same_trans r q.0 s q.1 in_t in_u

  one_or_two : (t u : ℕ) → (t ≡ u) ⊎ (t ≢ u)
  one_or_two t u = grind arith

  spots_agree : (p : Point) (n d m e : ℤ) → IsSound tin → pos 0 <ℤ p.w → IsOffset tin offsets p n d
      → IsOffset tin offsets p m e → Same (spot n d) (spot m e)
  spots_agree p n d m e sound hp i j = go (one_or_two i.0 j.0)
    where
      go : (i.0 ≡ j.0) ⊎ (i.0 ≢ j.0) → Same (spot n d) (spot m e)
      go (inl same) =
          alike_once up Source (numbers_of tin j.0) p (spot n d) (spot m e) hp (positive sound j.0 j.1)
          (subst (λ (t : ℕ). AreLikeMixes up Source (numbers_of tin t) p (spot n d)) same (as_mix p n d i))
          (as_mix p m e j)
      go (inr differ) =
          by_two i.0 j.0 p (spot n d) (spot m e) sound hp differ i.1 j.1 (as_mix p n d i) (as_mix p m e j)

pub offset_is_one : OffsetIsOne
offset_is_one tin offsets p n d m e sound each hp hd he i j = (spots_agree tin offsets each p n d m e sound hp i j).0

some_positive : (s : ℕ) → 0 < s → pos 0 <ℤ pos s
some_positive s h = omega (arith, ints)

pub offset_exists : OffsetExists
offset_exists tin offsets p (t, ht, mix) =
    let (ws, fit, some, same) = mix in (
      weighed_offset offsets ws (numbers_of tin t),
      pos (sum ws),
      some_positive (sum ws) some,
      (t, ht, ws, fit ∙ length-map (numbers_of tin t) (λ n. place Source (corner_at tin n)), some, same, refl),
    )
