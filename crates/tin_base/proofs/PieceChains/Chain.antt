-- The pieces of a segment that is inside follow each other without a gap.
use Rattle.std.proofs.Common.{◌≡◌, ◌≢◌, ◌⊎◌, inl, inr, ℕ, zero, suc, ◌+◌, ◌*◌, ◌<◌, ◌≤◌, List, length}
use Rattle.std.proofs.Common.{subst, arith}
use Rattle.plane_base.specs.declared.shapes.Pt.{Pt}
use Rattle.tin_base.specs.Triangulation.{Triangulation}
use Rattle.tin_base.specs.Soundness.{IsSound}
use Rattle.tin_base.specs.Segments.{Spot, at_a, at_b, IsBefore, IsNotAfter, IsSameSpot, IsInside, IsPart}
use Rattle.tin_base.specs.Segments.{Part, part_at, ArePieces, AreChain, DoCover}
use Rattle.tin_base.proofs.SegmentSpots.Ends.{IsSpot, not_both, no_later, no_later_trans, before_trans_left}
use Rattle.tin_base.proofs.SegmentSpots.Ends.{before_trans_right, up_to_same, from_same, same_of}
use Rattle.tin_base.proofs.PieceChains.Further.{NextPart, next_part}
use Rattle.tin_base.proofs.PieceChains.Apart.{apart}

-- ---- a piece that begins no later than x and ends after it
record Next (parts : List Part) (x : Spot) : Type 0 where
  index : ℕ
  in_range : index < length parts
  from : IsNotAfter (part_at parts index).first x
  behind : IsBefore x (part_at parts index).last

next : (tin : Triangulation) (a b : Pt) (parts : List Part) (x : Spot) → IsSound tin → IsInside tin a b
    → ArePieces tin a b parts → IsSpot x → 0 < x.of_a → Next parts x
next tin a b parts x sound inside pieces some more =
    go (next_part tin a b x sound inside some more)
  where
    go : NextPart tin a b x → Next parts x
    go n =
        let part = n.part in
        let has_first = part.has_first in
        let e = pieces.every n.triangle n.first n.last part in
        let piece = pieces.part e.0 e.1 in
        let piece_last = piece.has_last in
        record {
          index = e.0;
          in_range = e.1;
          from = no_later_trans (part_at parts e.0).first n.first x has_first.some
              (up_to_same (part_at parts e.0).first n.first e.2) n.from;
          behind = before_trans_right x n.last (part_at parts e.0).last piece_last.some n.behind
              (from_same (part_at parts e.0).last n.last e.3);
        }

-- ---- no part begins before one that begins earlier has ended
below_all : (i j n : ℕ) → i < j → j < n → i < n
below_all i j n h k = omega arith

no_overlap : (tin : Triangulation) (a b : Pt) (parts : List Part) (i j : ℕ) → IsSound tin → a ≢ b
    → ArePieces tin a b parts → i < j → j < length parts → IsNotAfter (part_at parts i).last (part_at parts j).first
no_overlap tin a b parts i j sound differ pieces below hj =
    apart tin a b (part_at parts i).triangle (part_at parts j).triangle (part_at parts i).first
    (part_at parts i).last (part_at parts j).first (part_at parts j).last sound differ
    (pieces.part i (below_all i j (length parts) below hj)) (pieces.part j hj) (pieces.in_order i j below hj)

-- ---- a piece that ends after the end of piece i comes later
not_itself : (s : Spot) → IsBefore s s → ⊥
not_itself s h = grind arith

not_sooner : (tin : Triangulation) (a b : Pt) (parts : List Part) (i j : ℕ) → IsSound tin → a ≢ b
    → ArePieces tin a b parts → i < length parts → IsBefore (part_at parts i).last (part_at parts j).last → j < i → ⊥
not_sooner tin a b parts i j sound differ pieces hi behind sooner =
    grind (arith, not_both, no_later_trans, no_overlap, no_later)

three_ways : (i j : ℕ) → (i ≡ j) ⊎ ((j < i) ⊎ (i < j))
three_ways i j = grind arith

later : (tin : Triangulation) (a b : Pt) (parts : List Part) (i j : ℕ) → IsSound tin → a ≢ b → ArePieces tin a b parts
    → i < length parts → IsBefore (part_at parts i).last (part_at parts j).last → i < j
later tin a b parts i j sound differ pieces hi behind = grind (arith, three_ways, not_itself, not_sooner)

-- ---- the chain

from_a : (s : Spot) → IsNotAfter at_a s
from_a s = omega arith

nothing_before_a : (s : Spot) → IsBefore s at_a → ⊥
nothing_before_a s h = absurd (omega arith)

more_of_a : (s t : Spot) → IsBefore s t → 0 < s.of_a
more_of_a s t h = grind arith

begins_at_a : (tin : Triangulation) (a b : Pt) (parts : List Part) → IsSound tin → IsInside tin a b
    → ArePieces tin a b parts → (0 < length parts) × IsSameSpot (part_at parts 0).first at_a
begins_at_a tin a b parts sound inside pieces =
    go (next tin a b parts at_a sound inside pieces (omega arith) (omega arith))
  where
    zero_or_more : (j : ℕ) → (j ≡ 0) ⊎ (0 < j)
    zero_or_more j = grind arith

    some : (j n : ℕ) → j < n → 0 < n
    some j n h = omega arith

    first : (j : ℕ) → j < length parts → IsNotAfter (part_at parts j).first at_a → (j ≡ 0) ⊎ (0 < j)
        → IsSameSpot (part_at parts 0).first at_a
    first j hj h (inl e) = same_of (part_at parts 0).first at_a
        (subst (λ (n : ℕ). IsNotAfter (part_at parts n).first at_a) e h) (from_a (part_at parts 0).first)
    first j hj h (inr more) = absurd (nothing_before_a (part_at parts 0).first
        (before_trans_right (part_at parts 0).first (part_at parts j).first at_a (omega arith)
        (pieces.in_order 0 j more hj) h))

    go : Next parts at_a → (0 < length parts) × IsSameSpot (part_at parts 0).first at_a
    go n = (some n.index (length parts) n.in_range, first n.index n.in_range n.from (zero_or_more n.index))

joined_at : (tin : Triangulation) (a b : Pt) (parts : List Part) (i : ℕ) → IsSound tin → a ≢ b → IsInside tin a b
    → ArePieces tin a b parts → i + 1 < length parts → IsSameSpot (part_at parts i).last (part_at parts (i + 1)).first
joined_at tin a b parts i sound differ inside pieces h =
    go (pieces.part i (here i (length parts) h)) (pieces.part (i + 1) h)
  where
    here : (i n : ℕ) → i + 1 < n → i < n
    here i n h = omega arith

    up : (i : ℕ) → i < i + 1
    up i = omega arith

    apart : IsNotAfter (part_at parts i).last (part_at parts (i + 1)).first
    apart = no_overlap tin a b parts i (i + 1) sound differ pieces (up i) h

    one_or_more : (i j : ℕ) → i < j → (j ≡ i + 1) ⊎ (i + 1 < j)
    one_or_more i j h = grind arith

    meet : (j : ℕ) → j < length parts → IsNotAfter (part_at parts j).first (part_at parts i).last
        → IsSpot (part_at parts i).last → (j ≡ i + 1) ⊎ (i + 1 < j)
        → IsSameSpot (part_at parts i).last (part_at parts (i + 1)).first
    meet j hj from some (inl e) = same_of (part_at parts i).last (part_at parts (i + 1)).first apart
        (subst (λ (n : ℕ). IsNotAfter (part_at parts n).first (part_at parts i).last) e from)
    meet j hj from some (inr more) = grind (arith, not_both, no_later_trans, apart)

    go : IsPart tin a b (part_at parts i).triangle (part_at parts i).first (part_at parts i).last
        → IsPart tin a b (part_at parts (i + 1)).triangle (part_at parts (i + 1)).first (part_at parts (i + 1)).last
        → IsSameSpot (part_at parts i).last (part_at parts (i + 1)).first
    go p q =
        let last = p.has_last in let first' = q.has_first in let last' = q.has_last in
        let more = more_of_a (part_at parts i).last (part_at parts (i + 1)).last
        (before_trans_left (part_at parts i).last (part_at parts (i + 1)).first (part_at parts (i + 1)).last
        last.some apart q.differ) in
        let n = next tin a b parts (part_at parts i).last sound inside pieces last.some more in
        meet n.index n.in_range n.from last.some
        (one_or_more i n.index (later tin a b parts i n.index sound differ pieces (here i (length parts) h)
        n.behind))

ends_at_b : (tin : Triangulation) (a b : Pt) (parts : List Part) (i : ℕ) → IsSound tin → a ≢ b → IsInside tin a b
    → ArePieces tin a b parts → i + 1 ≡ length parts → IsSameSpot (part_at parts i).last at_b
ends_at_b tin a b parts i sound differ inside pieces e =
    go (pieces.part i (last_in i (length parts) e)) (none_or_some (part_at parts i).last.of_a)
  where
    last_in : (i n : ℕ) → i + 1 ≡ n → i < n
    last_in i n e = omega arith

    none_or_some : (n : ℕ) → (n ≡ 0) ⊎ (0 < n)
    none_or_some n = grind arith

    at_end : (q r : ℕ) → r ≡ 0 → q * 0 ≡ 1 * r
    at_end q r e = omega arith

    no_more : (i j n : ℕ) → i + 1 ≡ n → i < j → j < n → ⊥
    no_more i j n e h k = absurd (omega arith)

    go : IsPart tin a b (part_at parts i).triangle (part_at parts i).first (part_at parts i).last
        → ((part_at parts i).last.of_a ≡ 0) ⊎ (0 < (part_at parts i).last.of_a) → IsSameSpot (part_at parts i).last at_b
    go p (inl z) = at_end (part_at parts i).last.of_b (part_at parts i).last.of_a z
    go p (inr more) =
        let last = p.has_last in
        let n = next tin a b parts (part_at parts i).last sound inside pieces last.some more in
        absurd (no_more i n.index (length parts) e
        (later tin a b parts i n.index sound differ pieces (last_in i (length parts) e) n.behind) n.in_range)

pub chain : (tin : Triangulation) (a b : Pt) (parts : List Part) → IsSound tin → a ≢ b → IsInside tin a b
    → ArePieces tin a b parts → AreChain parts
chain tin a b parts sound differ inside pieces = grind (arith, begins_at_a, joined_at, ends_at_b)

-- ---- each spot is in a piece
pub covered : (tin : Triangulation) (a b : Pt) (parts : List Part) → IsSound tin → a ≢ b → IsInside tin a b
    → ArePieces tin a b parts → DoCover parts
covered tin a b parts sound differ inside pieces s some = go (none_or_some s.of_a)
  where
    none_or_some : (n : ℕ) → (n ≡ 0) ⊎ (0 < n)
    none_or_some n = grind arith

    pred : (n : ℕ) → 0 < n → (i : ℕ) × (i + 1 ≡ n)
    pred zero h = absurd (omega arith)
    pred (suc n) h = (n, omega arith)

    last_in : (i n : ℕ) → i + 1 ≡ n → i < n
    last_in i n e = omega arith

    le_b : (m n k : ℕ) → k ≡ 0 → m * k ≤ n
    le_b m n k e = grind arith

    zero_of : (q r : ℕ) → q * 0 ≡ 1 * r → r ≡ 0
    zero_of q r e = omega arith

    last : AreChain parts → s.of_a ≡ 0 → (i : ℕ) × (i + 1 ≡ length parts)
        → (i : ℕ) × (i < length parts) × IsNotAfter (part_at parts i).first s × IsNotAfter s (part_at parts i).last
    last c z i = (
      i.0,
      last_in i.0 (length parts) i.1,
      le_b (part_at parts i.0).first.of_b (s.of_b * (part_at parts i.0).first.of_a) s.of_a z,
      le_b s.of_b ((part_at parts i.0).last.of_b * s.of_a) (part_at parts i.0).last.of_a
          (zero_of (part_at parts i.0).last.of_b (part_at parts i.0).last.of_a (c.ends i.0 i.1)),
    )

    go : (s.of_a ≡ 0) ⊎ (0 < s.of_a) → (i : ℕ) × (i < length parts) × IsNotAfter (part_at parts i).first s
        × IsNotAfter s (part_at parts i).last
    go (inl z) = let c = chain tin a b parts sound differ inside pieces in last c z (pred (length parts) c.some)
    go (inr more) = let n = next tin a b parts s sound inside pieces some
        more in (n.index, n.in_range, n.from, no_later s (part_at parts n.index).last n.behind)
