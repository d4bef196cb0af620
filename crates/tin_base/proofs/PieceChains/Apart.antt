-- Two parts that begin at one spot end at one spot, and a part that begins later begins no sooner than the earlier one
-- ends.
use Rattle.std.proofs.Common.{◌≢◌, ◌⊎◌, inl, inr, ℕ, ◌<◌, pos, ◌<ℤ◌, length}
use Rattle.plane_base.specs.declared.shapes.Pt.{Pt}
use Rattle.tin_base.specs.declared.frames.Frame.TheVariants.{Source}
use Rattle.tin_base.specs.Triangulation.{Triangulation, numbers_of, places}
use Rattle.tin_base.specs.Soundness.{turn_of_three, IsSound}
use Rattle.tin_base.specs.Segments.{Spot, IsBefore, IsNotAfter, IsSameSpot, IsShared, IsPart}
use Rattle.tin_base.proofs.SegmentSpots.Ends.{IsSpot, before_or, not_both, no_later, no_later_trans, before_trans_left, up_to_same}
use Rattle.tin_base.proofs.SegmentSpots.Ends.{from_same, same_of}
use Rattle.tin_base.proofs.SegmentSpots.Parts.{between_in}
use Rattle.tin_base.proofs.PieceChains.Overlap.{same_spots}

-- two parts, where the first begins no later, with a common way after the second's first spot: the second does not
-- begin later, and they end at one spot
pub record Meeting (f l f' l' : Spot) : Type 0 where
  pub begins : IsNotAfter f' f
  pub ends : IsSameSpot l l'

meeting : (tin : Triangulation) (a b : Pt) (t u : ℕ) (f l f' l' : Spot) → IsSound tin → a ≢ b → IsPart tin a b t f l
    → IsPart tin a b u f' l' → IsNotAfter f f' → IsBefore f' l → Meeting f l f' l'
meeting tin a b t u f l f' l' sound differ p q order way = go (before_or l l')
  where
    steady : (v : ℕ) → v < length tin.triangles → pos 0 <ℤ turn_of_three (places tin Source (numbers_of tin v))
    steady v h = sound.positive Source v h

    in_t : (first : IsShared tin a b u f') → IsShared tin a b t f'
    in_t first = between_in tin a b t f l f' (steady t p.in_range) p.has_first p.has_last first.some order
        (no_later f' l way)

    -- the one spot after f' that both have: each spot of either triangle is one of the other
    by : (m : Spot) → IsShared tin a b t m → IsShared tin a b u m → IsBefore f' m → Meeting f l f' l'
    by m in_both in_both' behind =
        let has = in_t q.has_first in
        let first = same_spots tin a b t u f' m f sound differ p.in_range q.in_range has in_both q.has_first in_both'
        behind p.has_first in
        let last = same_spots tin a b t u f' m l sound differ p.in_range q.in_range has in_both q.has_first in_both'
        behind p.has_last in
        let last' = same_spots tin a b u t f' m l' sound differ q.in_range p.in_range q.has_first in_both' has in_both
        behind q.has_last in
        record { begins = q.none_before f first; ends = same_of l l' (q.none_after l last) (p.none_after l' last') }

    go : IsBefore l l' ⊎ IsNotAfter l' l → Meeting f l f' l'
    go (inl h) =
        let last = p.has_last in
        by l p.has_last (between_in tin a b u f' l' l (steady u q.in_range) q.has_first q.has_last last.some
        (no_later f' l way) (no_later l l' h)) way
    go (inr h) =
        let last' = q.has_last in let first' = q.has_first in
        by l' (between_in tin a b t f l l' (steady t p.in_range) p.has_first p.has_last last'.some
        (no_later_trans f f' l' first'.some order (no_later f' l' q.differ)) h) q.has_last q.differ

-- a part that begins later begins no sooner than the earlier one ends
pub apart : (tin : Triangulation) (a b : Pt) (t u : ℕ) (f l f' l' : Spot) → IsSound tin → a ≢ b → IsPart tin a b t f l
    → IsPart tin a b u f' l' → IsBefore f f' → IsNotAfter l f'
apart tin a b t u f l f' l' sound differ p q before = go (before_or f' l)
  where
    go : IsBefore f' l ⊎ IsNotAfter l f' → IsNotAfter l f'
    go (inr h) = h
    go (inl h) = let m = meeting tin a b t u f l f' l' sound differ p q (no_later f f' before) h in absurd
        (not_both f f' before m.begins)

-- two parts that begin at one spot end at one spot
pub same_last : (tin : Triangulation) (a b : Pt) (t u : ℕ) (f l f' l' : Spot) → IsSound tin → a ≢ b
    → IsPart tin a b t f l → IsPart tin a b u f' l' → IsSameSpot f f' → IsSameSpot l l'
same_last tin a b t u f l f' l' sound differ p q same =
    let first' = q.has_first in
    let m = meeting tin a b t u f l f' l' sound differ p q (up_to_same f f' same)
    (before_trans_left f' f l first'.some (from_same f f' same) p.differ) in m.ends

-- a triangle whose part begins at the spot has it
pub begun : (tin : Triangulation) (a b : Pt) (u : ℕ) (x f l : Spot) → IsSound tin → IsSpot x → IsPart tin a b u f l
    → IsSameSpot f x → IsShared tin a b u x
begun tin a b u x f l sound some p same =
    between_in tin a b u f l x (sound.positive Source u p.in_range) p.has_first p.has_last some (up_to_same f x same)
    (no_later x l (before_trans_left x f l some (from_same f x same) p.differ))
