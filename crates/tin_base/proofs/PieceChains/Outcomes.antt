-- A segment has its pieces or leaves the triangles: a walk over the definitions alone, which takes the least triangle
-- that goes on.
use Rattle.std.proofs.Common.{◌≡◌, ◌≢◌, ◌⊎◌, inl, inr, ℕ, zero, suc, ◌*◌, ◌<◌, ◌≤◌, ℤ, pos, ◌+ℤ◌, ◌*ℤ◌, ◌≤ℤ◌, ◌<ℤ◌}
use Rattle.std.proofs.Common.{List, [], ◌∷◌, ◌++◌, length, refl, sym, subst, arith}
use Rattle.std.proofs.lemmas.Int.{ints}
use Rattle.integer_ring.proofs.Order.{≤_or_>}
use Rattle.plane_base.specs.Plane.{Point, turn_of, IsMix, whole}
use Rattle.plane_base.specs.declared.shapes.Pt.{Pt}
use Rattle.plane_base.proofs.TriangleLaws.InTriangle.{turns_of_mix, mix_of_turns}
use Rattle.plane_base.proofs.MixLaws.Mixes.{same_sym, mix_moved}
use Rattle.tin_base.specs.declared.frames.Frame.TheVariants.{Source}
use Rattle.tin_base.specs.Triangulation.{Triangulation, numbers_of, places, IsInTriangle}
use Rattle.tin_base.specs.Soundness.{IsSound, turn_of_three}
use Rattle.tin_base.specs.Segments.{Spot, spot_at, at_a, IsBefore, IsNotAfter, IsSameSpot, IsInside, IsShared, IsPart}
use Rattle.tin_base.specs.Segments.{Part, ArePieces, ArePiecesOf}
use Rattle.tin_base.proofs.SegmentSpots.Spots.{one, spot-w, spot_first, first_inside, point_inside}
use Rattle.tin_base.proofs.PieceChains.WaySteps.{turn_mixed}
use Rattle.tin_base.proofs.SegmentSpots.Ends.{IsSpot, IsKeptAt, AreKeptAt, last_of_three, before_or, not_both, no_later_trans}
use Rattle.tin_base.proofs.SegmentSpots.Ends.{from_same, same_of}
use Rattle.tin_base.proofs.SegmentSpots.Parts.{Reaching, part_of}
use Rattle.tin_base.specs.Outcomes.{OutcomeExists}
use Rattle.tin_base.proofs.PieceChains.Apart.{begun}
use Rattle.tin_base.proofs.PieceChains.UnusedTriangles.{unused, less_left, last_below}
use Rattle.tin_base.proofs.PieceChains.Walk.{IsWalked, start, Follows, more, all_walked, all_inside, stuck, not_again}

-- ---- the least number of some kind
record Least (P : ℕ → Type 0) (n : ℕ) : Type 0 where
  number : ℕ
  within : number < n
  is : P number
  least : (u : ℕ) → u < number → P u → ⊥

least_or : (P : ℕ → Type 0) (n : ℕ) → ((u : ℕ) → u < n → P u ⊎ (P u → ⊥)) → Least P n ⊎ ((u : ℕ) → u < n → P u → ⊥)
least_or P zero decide = inr (λ u h is. absurd (omega arith))
least_or P (suc n) decide =
    elim (least_or P n (λ u h. decide u (omega arith))) [
      | inl found ↦ inl (record {
        number = found.number;
        within = (let h = found.within in omega arith);
        is =
            found.is;
        least = found.least;
      })
      | inr none ↦ elim (decide n (omega arith)) [
        | inl is ↦ inl (record { number = n; within = omega arith; is = is; least = none })
        | inr not_here ↦ inr (λ u h is. elim (last_below u n h) [
          | inl less ↦ none u less is
          | inr same ↦
              not_here (subst P same is)
        ])
      ]
    ]

-- ---- the last spot that a triangle has
-- the triangle has x, and this is the last of its spots
record LastOf (P : Spot → Type 0) (x : Spot) : Type 0 where
  has : P x
  last : Spot
  some : IsSpot last
  has_last : P last
  only : (s : Spot) → IsSpot s → P s → IsNotAfter s last

abbrev HasSpot : Pt → Pt → List Point → Spot → Type 0
HasSpot a b corners s = IsMix (spot_at a b s) corners

not_more : (z : ℤ) → z <ℤ pos 0 → pos 0 ≤ℤ z → ⊥
not_more z h k = absurd (omega (arith, ints))

le_refl : (n : ℕ) → n ≤ n
le_refl n = omega arith

in_three : (a b : Pt) (c d e : Point) → pos 0 <ℤ c.w → pos 0 <ℤ d.w → pos 0 <ℤ e.w → pos 0 <ℤ turn_of c d e → (x : Spot)
    → IsSpot x
    → (HasSpot a b (c ∷ d ∷ e ∷ []) x → ⊥) ⊎ LastOf (HasSpot a b (c ∷ d ∷ e ∷ [])) x
in_three a b c d e hc hd he t x some = by_tests (≤_or_> (pos 0) (value_at c d)) (≤_or_> (pos 0) (value_at d e))
    (≤_or_> (pos 0) (value_at e c))
  where
    value_at : Point → Point → ℤ
    value_at f g = pos x.of_a *ℤ turn_of f g (whole a) +ℤ pos x.of_b *ℤ turn_of f g (whole b)

    Kept : Spot → Type 0
    Kept s = AreKeptAt (turn_of c d (whole a)) (turn_of c d (whole b)) (turn_of d e (whole a)) (turn_of d e (whole b))
        (turn_of e c (whole a)) (turn_of e c (whole b)) s

    kept : (f g : Point) (s : Spot) → pos 0 ≤ℤ turn_of f g (spot_at a b s)
        → IsKeptAt (turn_of f g (whole a)) (turn_of f g (whole b)) s
    kept f g s h = subst (λ (n : ℤ). pos 0 ≤ℤ n) (sym (turn_mixed f g (whole a) (whole b) s.of_a s.of_b)) h

    turned : (f g : Point) (s : Spot) → IsKeptAt (turn_of f g (whole a)) (turn_of f g (whole b)) s
        → pos 0 ≤ℤ turn_of f g (spot_at a b s)
    turned f g s h = subst (λ (n : ℤ). pos 0 ≤ℤ n) (turn_mixed f g (whole a) (whole b) s.of_a s.of_b) h

    into : (s : Spot) → IsSpot s → HasSpot a b (c ∷ d ∷ e ∷ []) s → Kept s
    into s is m = let r = turns_of_mix c d e (spot_at a b s) hc hd he (spot-w a b s is) t
        m in (kept c d s r.0, (kept d e s r.1, kept e c s r.2))

    back : (s : Spot) → IsSpot s → Kept s → HasSpot a b (c ∷ d ∷ e ∷ []) s
    back s is k = mix_of_turns c d e (spot_at a b s) hc hd he (spot-w a b s is) t (turned c d s k.0)
        (turned d e s (k.1).0) (turned e c s (k.1).1)

    found : Kept x → LastOf (HasSpot a b (c ∷ d ∷ e ∷ [])) x
    found k =
        let l = last_of_three (turn_of c d (whole a)) (turn_of c d (whole b)) (turn_of d e (whole a))
        (turn_of d e (whole b)) (turn_of e c (whole a)) (turn_of e c (whole b)) x some k in
        record {
          has = back x some k;
          last = l.spot;
          some = l.some;
          has_last = back l.spot l.some (l.upto l.spot l.some l.from (le_refl (l.spot.of_b * l.spot.of_a)));
          only = λ s is m. l.only s is (into s is m);
        }

    by_tests : (pos 0 ≤ℤ value_at c d) ⊎ (value_at c d <ℤ pos 0) → (pos 0 ≤ℤ value_at d e) ⊎ (value_at d e <ℤ pos 0)
        → (pos 0 ≤ℤ value_at e c) ⊎ (value_at e c <ℤ pos 0)
        → (HasSpot a b (c ∷ d ∷ e ∷ []) x → ⊥) ⊎ LastOf (HasSpot a b (c ∷ d ∷ e ∷ [])) x
    by_tests (inl first) (inl second) (inl third) = inr (found (first, (second, third)))
    by_tests (inr first) second third = inl (λ m. not_more (value_at c d) first (into x some m).0)
    by_tests (inl first) (inr second) third = inl (λ m. not_more (value_at d e) second ((into x some m).1).0)
    by_tests (inl first) (inl second) (inr third) = inl (λ m. not_more (value_at e c) third ((into x some m).1).1)

in_places : (tin : Triangulation) (a b : Pt) (ns : List ℕ) → pos 0 <ℤ turn_of_three (places tin Source ns) → (x : Spot)
    → IsSpot x
    → (HasSpot a b (places tin Source ns) x → ⊥) ⊎ LastOf (HasSpot a b (places tin Source ns)) x
in_places tin a b (i ∷ j ∷ k ∷ []) d x some = grind (arith, in_three, one)
in_places tin a b ns d x some = absurd d.lt

-- ---- whether a part begins at a spot
abbrev pub BeginsAt : Triangulation → Pt → Pt → Spot → ℕ → Type 0
BeginsAt tin a b x t = (first : Spot) × (last : Spot) × IsPart tin a b t first last × IsSameSpot first x

no_part : (tin : Triangulation) (a b : Pt) (x : Spot) (t : ℕ) → IsSound tin → IsSpot x → (IsShared tin a b t x → ⊥)
    → BeginsAt tin a b x t → ⊥
no_part tin a b x t sound some none begins = none (begun tin a b t x begins.0 begins.1 sound some begins.2 begins.3)

pub begins_or : (tin : Triangulation) (a b : Pt) (x : Spot) (t : ℕ) → IsSound tin → IsSpot x → t < length tin.triangles
    → BeginsAt tin a b x t ⊎ (BeginsAt tin a b x t → ⊥)
begins_or tin a b x t sound some within = by_spot (in_places tin a b (numbers_of tin t) turn x some)
  where
    turn : pos 0 <ℤ turn_of_three (places tin Source (numbers_of tin t))
    turn = sound.positive Source t within

    -- a part that begins at x goes past it
    past_x : (last : Spot) → IsSpot last → ((s : Spot) → IsShared tin a b t s → IsNotAfter s last) → IsNotAfter last x
        → BeginsAt tin a b x t → ⊥
    past_x last last_some only upto (f, l, part, same) = grind (arith, not_both, no_later_trans, from_same)

    -- and is the one that goes through it
    before_x : (first last : Spot) → IsPart tin a b t first last → IsBefore first x → BeginsAt tin a b x t → ⊥
    before_x first last own before (f, l, part, same) = grind (arith, not_both, no_later_trans, from_same)

    by_spot : (HasSpot a b (places tin Source (numbers_of tin t)) x → ⊥)
        ⊎ LastOf (HasSpot a b (places tin Source (numbers_of tin t))) x
        → BeginsAt tin a b x t ⊎ (BeginsAt tin a b x t → ⊥)
    by_spot (inl none) = inr (no_part tin a b x t sound some (λ shared. none shared.inside))
    by_spot (inr found) = by_last (before_or x found.last)
      where
        by_first : (reach : Reaching tin a b t x found.last) → IsBefore reach.first x ⊎ IsNotAfter x reach.first
            → BeginsAt tin a b x t ⊎ (BeginsAt tin a b x t → ⊥)
        by_first reach (inl before) = inr (before_x reach.first reach.last reach.part before)
        by_first reach (inr from) = inl (reach.first, reach.last, reach.part, same_of reach.first x reach.from from)

        by_last : IsBefore x found.last ⊎ IsNotAfter found.last x → BeginsAt tin a b x t ⊎ (BeginsAt tin a b x t → ⊥)
        by_last (inr upto) = inr (past_x found.last found.some (λ s shared. found.only s shared.some shared.inside)
            upto)
        by_last (inl before) =
            let reach = part_of tin a b t x found.last within turn (record { some = some; inside = found.has })
            (record { some = found.some; inside = found.has_last }) before in
            by_first reach (before_or reach.first x)

-- ---- the walk
abbrev Outcome : Triangulation → Pt → Pt → Type 0
Outcome tin a b = ((parts : List Part) × ArePiecesOf tin a b parts × IsInside tin a b) ⊎ (IsInside tin a b → ⊥)

of_way : (tin : Triangulation) (a b : Pt) (parts : List Part) → a ≢ b → ArePieces tin a b parts
    → ArePiecesOf tin a b parts
of_way tin a b parts differ pieces = (λ same. absurd (differ same), λ other. pieces)

zero_or : (n : ℕ) → (n ≡ 0) ⊎ (0 < n)
zero_or n = grind arith

-- the least part that begins at a spot
follows : (tin : Triangulation) (a b : Pt) (x : Spot) → Least (BeginsAt tin a b x) (length tin.triangles)
    → (p : Part) × Follows tin a b x p
follows tin a b x found =
    let begins = found.is in (
      record { triangle = found.number; first = begins.0; last = begins.1 },
      record {
        part = begins.2;
        begins = begins.3;
        least = λ u less part. found.least u less (begins.0, begins.1, part, begins.3);
      },
    )

fewer : (m n k : ℕ) → m < n → n ≤ suc k → m ≤ k
fewer m n k h few = omega arith

none_left : (m n : ℕ) → m < n → n ≤ 0 → ⊥
none_left m n h few = absurd (omega arith)

-- a piece more, unless no triangle goes on
one_more : (tin : Triangulation) (a b : Pt) → IsSound tin → a ≢ b → (parts : List Part) (x : Spot)
    → IsWalked tin a b parts x → 0 < x.of_a
    → ((p : Part) → IsWalked tin a b (parts ++ p ∷ []) p.last
    → unused (parts ++ p ∷ []) (length tin.triangles) < unused parts (length tin.triangles) → Outcome tin a b)
    → Outcome tin a b
one_more tin a b sound differ parts x walked left later =
    elim (least_or (BeginsAt tin a b x) (length tin.triangles)
    (λ t within. begins_or tin a b x t sound walked.some within)) [
      | inl found ↦
          let next = follows tin a b x found in
          let new = next.1 in
          let part = new.part in
          later next.0 (more tin a b parts x next.0 sound differ walked new)
          (less_left parts next.0 (length tin.triangles) part.in_range
          (not_again tin a b parts x next.0 walked new))
      | inr none ↦ inr (stuck tin a b parts x sound left walked
          (λ u f l within part same. none u within (f, l, part, same)))
    ]

walk : (tin : Triangulation) (a b : Pt) → IsSound tin → a ≢ b → (most : ℕ) (parts : List Part) (x : Spot)
    → IsWalked tin a b parts x → unused parts (length tin.triangles) ≤ most → Outcome tin a b
walk tin a b sound differ zero parts x walked few =
    elim (zero_or x.of_a) [
      | inl end ↦ inl (
        parts,
        of_way tin a b parts differ (all_walked tin a b parts x end walked),
        all_inside tin a b
            parts x end walked,
      )
      | inr left ↦ one_more tin a b sound differ parts x walked left (λ p walked' less. absurd (none_left _ _ less few))
    ]
walk tin a b sound differ (suc most) parts x walked few =
    elim (zero_or x.of_a) [
      | inl end ↦ inl (
        parts,
        of_way tin a b parts differ (all_walked tin a b parts x end walked),
        all_inside tin a b
            parts x end walked,
      )
      | inr left ↦ one_more tin a b sound differ parts x walked left
          (λ p walked' less. walk tin a b sound differ most (parts ++ p ∷ []) p.last walked'
          (fewer (unused (parts ++ p ∷ []) (length tin.triangles)) (unused parts (length tin.triangles)) most less
          few))
    ]

-- ---- a triangle that has a point
pub has_or : (tin : Triangulation) (p : Pt) (t : ℕ) → IsSound tin → t < length tin.triangles
    → IsInTriangle tin Source t (whole p) ⊎ (IsInTriangle tin Source t (whole p) → ⊥)
has_or tin p t sound within =
    elim (in_places tin p p (numbers_of tin t) (sound.positive Source t within) at_a (omega arith)) [
      | inl none ↦ inr (λ has. none (mix_moved (whole p) (spot_at p p at_a) (places tin Source (numbers_of tin t)) one
          (spot_first p p) has))
      | inr found ↦ inl (mix_moved (spot_at p p at_a) (whole p) (places tin Source (numbers_of tin t)) one
          (same_sym (spot_at p p at_a) (whole p) (spot_first p p)) found.has)
    ]

-- the piece of a point
one_piece : (tin : Triangulation) (p : Pt) → Least (λ t. IsInTriangle tin Source t (whole p)) (length tin.triangles)
    → Outcome tin p p
one_piece tin p found = inl (
  record { triangle = found.number; first = at_a; last = at_a }
      ∷ [],
  (λ same. (found.within, found.is, found.least, refl, refl), λ differ. absurd (differ refl)),
  point_inside tin
      p (found.number, found.within, found.is),
)

-- ---- any segment
int_or : (x y : ℤ) → (x ≡ y) ⊎ (x ≢ y)
int_or x y = grind (arith, ints)

same_or : (a b : Pt) → (a ≡ b) ⊎ (a ≢ b)
same_or a b = grind (arith, int_or)

by_ends : (tin : Triangulation) (a b : Pt) → IsSound tin
    → Least (λ t. IsInTriangle tin Source t (whole a)) (length tin.triangles) → (a ≡ b) ⊎ (a ≢ b) → Outcome tin a b
by_ends tin a b sound found (inl same) = subst (λ (q : Pt). Outcome tin a q) same (one_piece tin a found)
by_ends tin a b sound found (inr differ) =
    walk tin a b sound differ (unused [] (length tin.triangles)) [] at_a
    (start tin a b (found.number, found.within, found.is)) (le_refl (unused [] (length tin.triangles)))

pub outcome : OutcomeExists
outcome tin sound a b =
    elim (least_or (λ t. IsInTriangle tin Source t (whole a)) (length tin.triangles)
    (λ t within. has_or tin a t sound within)) [
      | inl found ↦ by_ends tin a b sound found (same_or a b)
      | inr none ↦ inr (λ inside. let some = first_inside tin a b inside in none some.0 some.1 some.2)
    ]
