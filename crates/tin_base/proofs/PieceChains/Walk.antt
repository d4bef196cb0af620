-- The pieces up to a spot, one after the other.
use Rattle.std.proofs.Common.{◌≡◌, ◌≢◌, ◌⊎◌, inl, inr, ℕ, ◌+◌, ◌*◌, ◌<◌, ◌≤◌, List, [], ◌∷◌, ◌++◌, length, sym, subst}
use Rattle.std.proofs.Common.{refl, arith}
use Rattle.std.proofs.lemmas.List.{get_or_append_left, get_or_push, length-append}
use lib.Signed.{lt_z_yes}
use Rattle.plane_base.specs.Plane.{whole}
use Rattle.plane_base.specs.declared.shapes.Pt.{Pt}
use Rattle.plane_base.proofs.MixLaws.Mixes.{mix_moved, between_weights}
use Rattle.tin_base.specs.declared.frames.Frame.TheVariants.{Source}
use Rattle.tin_base.specs.Triangulation.{Triangulation, numbers_of, places}
use Rattle.tin_base.specs.Images.{IsInSome}
use Rattle.tin_base.specs.Soundness.{IsSound}
use Rattle.tin_base.specs.Segments.{Spot, spot_at, at_a, IsBefore, IsNotAfter, IsSameSpot, IsInside, IsShared, IsPart}
use Rattle.tin_base.specs.Segments.{Part, no_part, part_at, ArePieces}
use Rattle.tin_base.proofs.SegmentSpots.Ends.{IsSpot, before_or, not_both, no_later, no_later_trans, before_trans_left}
use Rattle.tin_base.proofs.SegmentSpots.Ends.{before_trans_right, up_to_same, from_same, same_of}
use Rattle.tin_base.proofs.SegmentSpots.Parts.{between_in}
use Rattle.tin_base.proofs.PieceChains.Apart.{apart, same_last}
use Rattle.tin_base.proofs.SegmentSpots.Spots.{spot-w}
use Rattle.tin_base.proofs.PieceChains.Further.{NextPart, next_part, start_is}

-- the list has a piece with these two spots
pub record Has (parts : List Part) (first last : Spot) : Type 0 where
  pub index : ℕ
  pub in_range : index < length parts
  pub first_same : IsSameSpot (part_at parts index).first first
  pub last_same : IsSameSpot (part_at parts index).last last

-- these are the pieces up to x, and each point up to x is in some triangle
pub record IsWalked (tin : Triangulation) (a b : Pt) (parts : List Part) (x : Spot) : Type 0 where
  pub some : IsSpot x
  pub part : (i : ℕ) → i < length parts → IsPart tin a b (part_at parts i).triangle (part_at parts i).first
      (part_at parts i).last
  pub least : (i u : ℕ) → i < length parts → u < (part_at parts i).triangle
      → IsPart tin a b u (part_at parts i).first (part_at parts i).last → ⊥
  pub in_order : (i j : ℕ) → i < j → j < length parts → IsBefore (part_at parts i).first (part_at parts j).first
  pub upto : (i : ℕ) → i < length parts → IsNotAfter (part_at parts i).last x
  pub every : (t : ℕ) (first last : Spot) → IsPart tin a b t first last → IsBefore first x → Has parts first last
  pub inside : (s : Spot) → IsSpot s → IsNotAfter s x → IsInSome tin Source (spot_at a b s)

-- ---- nothing is walked
pub start : (tin : Triangulation) (a b : Pt) → IsInSome tin Source (whole a) → IsWalked tin a b [] at_a
start tin a b has_a =
    record {
      some = omega arith;
      part = λ i h. absurd (omega arith);
      least = λ i u h. absurd (omega arith);
      in_order = λ i j h k. absurd (omega arith);
      upto = λ i h. absurd (omega arith);
      every = λ t first last p before. absurd (none first before);
      inside = λ s some h. (
        has_a.0,
        has_a.1,
        mix_moved (whole a) (spot_at a b s)
            (places tin Source (numbers_of tin has_a.0)) (lt_z_yes tt) (start_is a b s (none_of_b s h)) has_a.2,
      );
    }
  where
    none : (s : Spot) → IsBefore s at_a → ⊥
    none s h = absurd (omega arith)

    none_of_b : (s : Spot) → IsNotAfter s at_a → s.of_b ≡ 0
    none_of_b s h = omega arith

-- ---- no part goes past x but those that begin there
not_past : (tin : Triangulation) (a b : Pt) (parts : List Part) (x : Spot) (t : ℕ) (f l : Spot)
    → IsWalked tin a b parts x → IsPart tin a b t f l → IsBefore f x → IsNotAfter l x
not_past tin a b parts x t f l walked p before = go (walked.every t f l p before)
  where
    go : Has parts f l → IsNotAfter l x
    go h = grind (arith, no_later_trans, from_same)

-- ---- one piece more
new_or_old : (i n m : ℕ) → m ≡ n + 1 → i < m → (i < n) ⊎ (i ≡ n)
new_or_old i n m e h = grind arith

more_long : (parts : List Part) (p : Part) → length (parts ++ p ∷ []) ≡ length parts + 1
more_long parts p = length-append parts (p ∷ [])

at_old : (parts : List Part) (p : Part) (i : ℕ) → i < length parts → part_at (parts ++ p ∷ []) i ≡ part_at parts i
at_old parts p i h = get_or_append_left parts (p ∷ []) no_part i h

at_new : (parts : List Part) (p : Part) (i : ℕ) → i ≡ length parts → part_at (parts ++ p ∷ []) i ≡ p
at_new parts p i e = get_or_push parts p no_part i (sym e)

-- what holds of each old piece and of the new one holds of each
each : (P : Part → Type 0) (parts : List Part) (p : Part) → ((i : ℕ) → i < length parts → P (part_at parts i)) → P p
    → (i : ℕ) → i < length (parts ++ p ∷ []) → P (part_at (parts ++ p ∷ []) i)
each P parts p old new i h = grind (arith, new_or_old, more_long, at_old, at_new)

-- what the piece p has to be, to follow the pieces up to x
pub record Follows (tin : Triangulation) (a b : Pt) (x : Spot) (p : Part) : Type 0 where
  pub part : IsPart tin a b p.triangle p.first p.last
  pub begins : IsSameSpot p.first x
  pub least : (u : ℕ) → u < p.triangle → IsPart tin a b u p.first p.last → ⊥

pub more : (tin : Triangulation) (a b : Pt) (parts : List Part) (x : Spot) (p : Part) → IsSound tin → a ≢ b
    → IsWalked tin a b parts x → Follows tin a b x p → IsWalked tin a b (parts ++ p ∷ []) p.last
more tin a b parts x p sound differ walked new = go new.part
  where
    first_x : IsNotAfter p.first x
    first_x = up_to_same p.first x new.begins

    x_first : IsNotAfter x p.first
    x_first = from_same p.first x new.begins

    x_last : IsPart tin a b p.triangle p.first p.last → IsBefore x p.last
    x_last q = before_trans_left x p.first p.last walked.some x_first q.differ

    old_before : (i : ℕ) → i < length parts → IsBefore (part_at parts i).first p.first
    old_before i h = grind (arith, before_trans_right, no_later_trans, x_first)

    old_has : (f l : Spot) → Has parts f l → Has (parts ++ p ∷ []) f l
    old_has f l h = grind (arith, at_old, more_long)

    new_has : (f l : Spot) → IsSameSpot p.first f → IsSameSpot p.last l → Has (parts ++ p ∷ []) f l
    new_has f l hf hl =
        let e = sym (at_new parts p (length parts) refl) in
        record {
          index = length parts;
          in_range = (let m = more_long parts p in omega (arith, m));
          first_same = subst (λ (q : Part). IsSameSpot q.first f) e hf;
          last_same = subst (λ (q : Part). IsSameSpot q.last l) e hl;
        }

    begins_at_x : (t : ℕ) (f l : Spot) → IsPart tin a b t f l → IsBefore f p.last → IsNotAfter x f
        → IsBefore x f ⊎ IsNotAfter f x → Has (parts ++ p ∷ []) f l
    begins_at_x t f l q before from (inl h) =
        let first = q.has_first in
        absurd (not_both f p.last before (apart tin a b p.triangle t p.first p.last f l sound differ new.part q
        (before_trans_left p.first x f new.part.has_first.some first_x h)))
    begins_at_x t f l q before from (inr h) =
        let same = same_of p.first f (no_later_trans p.first x f walked.some first_x from)
        (no_later_trans f x p.first walked.some h x_first) in
        new_has f l same (same_last tin a b p.triangle t p.first p.last f l sound differ new.part q same)

    has_each : (t : ℕ) (f l : Spot) → IsPart tin a b t f l → IsBefore f p.last → IsBefore f x ⊎ IsNotAfter x f
        → Has (parts ++ p ∷ []) f l
    has_each t f l q before (inl h) = old_has f l (walked.every t f l q h)
    has_each t f l q before (inr h) = begins_at_x t f l q before h (before_or x f)

    order : (i j : ℕ) → i < j → (j < length parts) ⊎ (j ≡ length parts)
        → IsBefore (part_at (parts ++ p ∷ []) i).first (part_at (parts ++ p ∷ []) j).first
    order i j h (inl k) = grind (arith, at_old)
    order i j h (inr e) = grind (arith, at_old, at_new, old_before)

    within : (s : Spot) → IsSpot s → IsNotAfter s p.last → IsBefore s x ⊎ IsNotAfter x s
        → IsInSome tin Source (spot_at a b s)
    within s some h (inl k) = walked.inside s some (no_later s x k)
    within s some h (inr k) =
        let q = new.part in
        let i = between_in tin a b p.triangle p.first p.last s (sound.positive Source p.triangle q.in_range) q.has_first
        q.has_last some (no_later_trans p.first x s walked.some first_x k) h in
        (p.triangle, q.in_range, i.inside)

    go : IsPart tin a b p.triangle p.first p.last → IsWalked tin a b (parts ++ p ∷ []) p.last
    go q =
        let last = q.has_last in
        record {
          some = last.some;
          part = each (λ (r : Part). IsPart tin a b r.triangle r.first r.last) parts p walked.part q;
          least = λ i u h. each (λ (r : Part). (u : ℕ) → u < r.triangle → IsPart tin a b u r.first r.last → ⊥) parts p
              (λ j k v. walked.least j v k) new.least i h u;
          in_order = λ i j h k. order i j h (new_or_old j (length parts) (length (parts ++ p ∷ [])) (more_long parts p)
              k);
          upto = each (λ (r : Part). IsNotAfter r.last p.last) parts p
              (λ i h. no_later_trans (part_at parts i).last x p.last walked.some (walked.upto i h)
              (no_later x p.last (x_last q))) (up_to_same p.last p.last refl);
          every = λ t f l r before. has_each t f l r before (before_or f x);
          inside = λ s some h. within s some h (before_or s x);
        }

-- ---- the end
before_end : (x f l : Spot) → IsSpot x → x.of_a ≡ 0 → IsBefore f l → IsBefore f x
before_end x f l some e h = grind arith

pub all_walked : (tin : Triangulation) (a b : Pt) (parts : List Part) (x : Spot) → x.of_a ≡ 0 → IsWalked tin a b parts x
    → ArePieces tin a b parts
all_walked tin a b parts x e walked =
    record {
      part = walked.part;
      least = walked.least;
      every = λ t f l p. found f l (walked.every t f l p (before_end x f l walked.some e p.differ));
      in_order = walked.in_order;
    }
  where
    found : (f l : Spot) → Has parts f l → (i : ℕ) × (i < length parts) × IsSameSpot (part_at parts i).first f
        × IsSameSpot (part_at parts i).last l
    found f l h = (h.index, h.in_range, h.first_same, h.last_same)

up_to_end : (x s : Spot) → x.of_a ≡ 0 → IsNotAfter s x
up_to_end x s e = subst (λ (n : ℕ). s.of_b * n ≤ x.of_b * s.of_a) (sym e) (omega arith)

pub all_inside : (tin : Triangulation) (a b : Pt) (parts : List Part) (x : Spot) → x.of_a ≡ 0 → IsWalked tin a b parts x
    → IsInside tin a b
all_inside tin a b parts x e walked p hp m =
    let i = between_weights (whole a) (whole b) p m in
    let s : Spot = record { of_a = i.k; of_b = i.l } in
    let has = walked.inside s i.some (up_to_end x s e) in (
      has.0,
      has.1,
      mix_moved (spot_at a b s) p (places tin Source (numbers_of tin has.0)) (spot-w a b s i.some) i.same
          has.2,
    )

-- ---- where no part begins at x, a point after x is in no triangle
pub stuck : (tin : Triangulation) (a b : Pt) (parts : List Part) (x : Spot) → IsSound tin → 0 < x.of_a
    → IsWalked tin a b parts x → ((u : ℕ) (f l : Spot) → u < length tin.triangles → IsPart tin a b u f l
    → IsSameSpot f x → ⊥) → IsInside tin a b → ⊥
stuck tin a b parts x sound more walked none inside = go (next_part tin a b x sound inside walked.some more)
  where
    go : NextPart tin a b x → ⊥
    go n = pick (before_or n.first x)
      where
        pick : IsBefore n.first x ⊎ IsNotAfter x n.first → ⊥
        pick (inl h) = not_both x n.last n.behind (not_past tin a b parts x n.triangle n.first n.last walked n.part h)
        pick (inr h) = let p = n.part in none n.triangle n.first n.last p.in_range n.part (same_of n.first x n.from h)

-- ---- a piece that follows is of a new triangle
pub not_again : (tin : Triangulation) (a b : Pt) (parts : List Part) (x : Spot) (p : Part) → IsWalked tin a b parts x
    → Follows tin a b x p → (i : ℕ) → i < length parts → (part_at parts i).triangle ≡ p.triangle → ⊥
not_again tin a b parts x p walked new i h e = go (walked.part i h) new.part
  where
    go : IsPart tin a b (part_at parts i).triangle (part_at parts i).first (part_at parts i).last
        → IsPart tin a b p.triangle p.first p.last → ⊥
    go q r =
        let last = q.has_last in
        let has = subst (λ (t : ℕ). IsShared tin a b t p.last) (sym e) r.has_last in
        not_both x p.last (before_trans_left x p.first p.last walked.some (from_same p.first x new.begins) r.differ)
        (no_later_trans p.last (part_at parts i).last x last.some (q.none_after p.last has) (walked.upto i h))
