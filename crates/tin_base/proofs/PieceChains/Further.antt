-- From a spot of a segment that is inside, some triangle's part goes on.
use Rattle.std.proofs.Common.{◌≡◌, ℕ, ◌+◌, ◌*◌, ◌<◌, pos, ◌+ℤ◌, ◌*ℤ◌, ℤ, [], ◌∷◌, sym, arith}
use Rattle.integer_ring.proofs.Ring.{num, ◌⊕◌, ◌⊖◌, ◌⊗◌}
use Rattle.integer_ring.proofs.Claims.{◌≐◌, eqn, ◌because◌, ◌⇒◌, solve, follows}
use Rattle.plane_base.specs.Plane.{Point, Same, IsMix, whole}
use Rattle.plane_base.specs.declared.shapes.Pt.{Pt}
use Rattle.plane_base.proofs.MixLaws.Mixes.{same_refl, same_sym, same_moved, mixed, between_weights, weights_between, between-w}
use Rattle.plane_base.proofs.MixLaws.Mixes.{mix_moved}
use Rattle.tin_base.specs.declared.frames.Frame.TheVariants.{Source}
use Rattle.tin_base.specs.Triangulation.{Triangulation, numbers_of, places}
use Rattle.tin_base.specs.Soundness.{IsSound}
use Rattle.tin_base.specs.Relations.{IsBetween}
use Rattle.tin_base.specs.Segments.{Spot, spot_at, IsBefore, IsNotAfter, IsInside, IsShared, IsPart}
use Rattle.tin_base.proofs.PieceChains.WaySteps.{StepsOn, steps_on}
use Rattle.tin_base.proofs.SegmentSpots.Ends.{IsSpot, before_trans_right}
use Rattle.tin_base.proofs.SegmentSpots.Parts.{part_of}
use Rattle.tin_base.proofs.SegmentSpots.Spots.{one, spot-w}

-- k times the spot x and l times b
abbrev further : Spot → ℕ → ℕ → Spot
further x k l = record { of_a = k * x.of_a; of_b = k * x.of_b + l }

further_is : (k l r q a b : ℤ) → k *ℤ (r *ℤ a +ℤ (q *ℤ b +ℤ pos 0)) +ℤ (l *ℤ b +ℤ pos 0) ≡ k *ℤ r *ℤ a
    +ℤ ((k *ℤ q +ℤ l) *ℤ b +ℤ pos 0)
further_is = solve 6 (λ k l r q a b. k ⊗ (r ⊗ a ⊕ (q ⊗ b ⊕ num (pos 0))) ⊕ (l ⊗ b ⊕ num (pos 0)) ≐ k ⊗ r ⊗ a
    ⊕ ((k ⊗ q ⊕ l) ⊗ b ⊕ num (pos 0))) tt

further_same : (a b : Pt) (x : Spot) (k l : ℕ) (p : Point) → Same p (mixed k l (spot_at a b x) (whole b))
    → Same p (spot_at a b (further x k l))
further_same a b x k l p s =
    same_moved p (mixed k l (spot_at a b x) (whole b)) (spot_at a b (further x k l))
    (further_is (pos k) (pos l) (pos x.of_a) (pos x.of_b) a.x b.x)
    (further_is (pos k) (pos l) (pos x.of_a) (pos x.of_b) a.y b.y)
    (further_is (pos k) (pos l) (pos x.of_a) (pos x.of_b) (pos 1) (pos 1)) s

further_some : (r q k l : ℕ) → 0 < r + q → 0 < k + l → 0 < k * r + (k * q + l)
further_some r q k l h i = grind arith

some_further : (x : Spot) (k l : ℕ) → IsSpot x → 0 < k + l → IsSpot (further x k l)
some_further x k l h i = further_some x.of_a x.of_b k l h i

beyond : (r q n : ℕ) → 0 < r → q * ((n + 1) * r) < ((n + 1) * q + 1) * r
beyond r q n h = omega arith

on_segment : (a b : Pt) (x : Spot) (p : Point) → IsSpot x → IsBetween (spot_at a b x) (whole b) p
    → IsMix p (whole a ∷ whole b ∷ [])
on_segment a b x p some m =
    let i = between_weights (spot_at a b x) (whole b) p m in
    let y = further x i.k i.l in
    weights_between (whole a) (whole b) p (record {
      k = y.of_a;
      l = y.of_b;
      some =
          some_further x i.k i.l some i.some;
      same = further_same a b x i.k i.l p i.same;
    })

itself_is : (a b : ℤ) → pos 1 *ℤ a +ℤ (pos 0 *ℤ b +ℤ pos 0) ≡ a
itself_is = solve 2 (λ a b. num (pos 1) ⊗ a ⊕ (num (pos 0) ⊗ b ⊕ num (pos 0)) ≐ a) tt

-- a part that begins no later than x and ends after it
pub record NextPart (tin : Triangulation) (a b : Pt) (x : Spot) : Type 0 where
  pub triangle : ℕ
  pub first : Spot
  pub last : Spot
  pub part : IsPart tin a b triangle first last
  pub from : IsNotAfter first x
  pub behind : IsBefore x last

pub next_part : (tin : Triangulation) (a b : Pt) (x : Spot) → IsSound tin → IsInside tin a b → IsSpot x → 0 < x.of_a
    → NextPart tin a b x
next_part tin a b x sound inside some more =
    go (steps_on tin Source (spot_at a b x) (whole b) (sound.positive Source) (spot-w a b x some) one
    (λ p hp m. inside p hp (on_segment a b x p some m)))
  where
    go : StepsOn tin Source (spot_at a b x) (whole b) → NextPart tin a b x
    go step =
        let p = spot_at a b x in
        let y = further x (step.n + 1) 1 in
        let some_y = some_further x (step.n + 1) 1 some (omega arith) in
        let first = mixed 1 0 p (whole b) in
        let second = mixed (step.n + 1) 1 p (whole b) in
        let in_first : Same p first = same_moved p p first (sym (itself_is p.x b.x)) (sym (itself_is p.y b.y))
        (sym (itself_is p.w (pos 1))) (same_refl p) in
        let first_w = between-w p (whole b) first (record { k = 1; l = 0; some = omega arith; same = same_refl first })
        (spot-w a b x some) one in
        let second_w = between-w p (whole b) second
        (record { k = step.n + 1; l = 1; some = omega arith; same = same_refl second }) (spot-w a b x some) one in
        let has_x : IsShared tin a b step.triangle x =
        record {
          some = some;
          inside = mix_moved first p (places tin Source (numbers_of tin step.triangle)) first_w
              in_first step.has_first;
        } in
        let has_y : IsShared tin a b step.triangle y =
        record {
          some = some_y;
          inside = mix_moved second (spot_at a b y)
              (places tin Source (numbers_of tin step.triangle)) second_w
              (same_sym second (spot_at a b y) (further_same a b x (step.n + 1) 1 second (same_refl second)))
              step.has_next;
        } in
        let before : IsBefore x y = beyond x.of_a x.of_b step.n more in
        let reach = part_of tin a b step.triangle x y step.in_range (sound.positive Source step.triangle step.in_range)
        has_x has_y before in
        let part = reach.part in
        let has_last = part.has_last in
        record {
          triangle = step.triangle;
          first = reach.first;
          last = reach.last;
          part = part;
          from =
              reach.from;
          behind = before_trans_right x y reach.last has_last.some before reach.upto;
        }

-- ---- a spot with no share of b is the first end
start_axis : (k l a b : ℤ) → l ≡ pos 0 → (k *ℤ a +ℤ (l *ℤ b +ℤ pos 0)) *ℤ pos 1 ≡ a
    *ℤ (k *ℤ pos 1 +ℤ (l *ℤ pos 1 +ℤ pos 0))
start_axis = follows 4 (λ k l a b. l ≐ num (pos 0) ⇒ (k ⊗ a ⊕ (l ⊗ b ⊕ num (pos 0))) ⊗ num (pos 1) ≐ a
    ⊗ (k ⊗ num (pos 1) ⊕ (l ⊗ num (pos 1) ⊕ num (pos 0))) because eqn 0 (b ⊖ a)) tt

pub start_is : (a b : Pt) (s : Spot) → s.of_b ≡ 0 → Same (spot_at a b s) (whole a)
start_is a b s e = grind (arith, start_axis)
