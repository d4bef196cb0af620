-- A triangulation is sound or has a first fault: a search over the definitions alone, through the triangles and then
-- through the pairs in each frame.
use Rattle.std.proofs.Common.{◌≡◌, ◌⊎◌, inl, inr, ℕ, zero, suc, ◌+◌, ◌<◌, ◌≤◌, ℤ, pos, ◌<ℤ◌, length, subst, sym, arith}
use Rattle.std.proofs.lemmas.Int.{ints}
use Rattle.plain_laws.proofs.Order.{trichotomy, sign_of}
use Rattle.tin_base.specs.declared.frames.Frame.{Frame}
use Rattle.tin_base.specs.declared.frames.Frame.TheVariants.{Source, Target}
use Rattle.tin_base.specs.Triangulation.{Triangulation}
use Rattle.tin_base.specs.Soundness.{turn_in, DoFit, IsSound}
use Rattle.tin_check.specs.declared.faults.CheckFault.{CheckFault}
use Rattle.tin_check.specs.declared.faults.CheckFault.TheVariants.{Flat, TurnsOver, Meets}
use Rattle.tin_check.specs.Faults.{IsFirstFault, OutcomeExists}
use Rattle.tin_check.specs.InsideProgress.{ArePositive, IsBeforePair, DoFitBefore, DoAllFit, IsFirstPair}
use Rattle.tin_check.proofs.CallerLemmas.FirstFault.{flat_source, flat_target, turned_over, one_more_positive, source_alone}
use Rattle.tin_check.proofs.CallerLemmas.FirstFault.{target_alone, source_first, target_first}
use Rattle.tin_check.proofs.CallerLemmas.Progress.{all_fit, checked}
use Rattle.tin_check.proofs.PairFits.FitOrNot.{fit_or}

abbrev HasFirstFault : Triangulation → Type 0
HasFirstFault tin = (fault : CheckFault) × IsFirstFault tin fault

-- ---- through the triangles
below_zero : (z : ℤ) → z <ℤ pos 0 → z ≡ pos 0 → ⊥
below_zero z h e = absurd (omega (arith, ints))

above_zero : (z : ℤ) → pos 0 <ℤ z → z ≡ pos 0 → ⊥
above_zero z h e = absurd (omega (arith, ints))

one_triangle : (tin : Triangulation) (t : ℕ) → t < length tin.triangles → ArePositive tin t
    → ArePositive tin (t + 1) ⊎ HasFirstFault tin
one_triangle tin t within positive = go (sign_of source) (sign_of target)
  where
    source : ℤ
    source = turn_in tin Source t

    target : ℤ
    target = turn_in tin Target t

    go : (turn_in tin Source t ≡ pos 0) ⊎ ((turn_in tin Source t <ℤ pos 0) ⊎ (pos 0 <ℤ turn_in tin Source t))
        → (turn_in tin Target t ≡ pos 0) ⊎ ((turn_in tin Target t <ℤ pos 0) ⊎ (pos 0 <ℤ turn_in tin Target t))
        → ArePositive tin (t + 1) ⊎ HasFirstFault tin
    go (inl flat) other = inr (Flat t Source, flat_source tin t within positive flat)
    go (inr (inl less)) (inl flat) =
        inr (Flat t Target, flat_target tin t within positive (below_zero (turn_in tin Source t) less) flat)
    go (inr (inr more)) (inl flat) =
        inr (Flat t Target, flat_target tin t within positive (above_zero (turn_in tin Source t) more) flat)
    go (inr (inl less)) (inr (inl k)) =
        inr (
          TurnsOver t,
          turned_over tin t within positive (below_zero (turn_in tin Source t) less)
              (below_zero (turn_in tin Target t) k) (inl less),
        )
    go (inr (inl less)) (inr (inr k)) =
        inr (
          TurnsOver t,
          turned_over tin t within positive (below_zero (turn_in tin Source t) less)
              (above_zero (turn_in tin Target t) k) (inl less),
        )
    go (inr (inr more)) (inr (inl k)) =
        inr (
          TurnsOver t,
          turned_over tin t within positive (above_zero (turn_in tin Source t) more)
              (below_zero (turn_in tin Target t) k) (inr k),
        )
    go (inr (inr more)) (inr (inr k)) = inl (one_more_positive tin t positive more k)

triangles : (tin : Triangulation) (n : ℕ) → n ≤ length tin.triangles → ArePositive tin n ⊎ HasFirstFault tin
triangles tin zero few = inl (λ frame t h. absurd (omega arith))
triangles tin (suc n) few = elim (triangles tin n (omega arith)) [
  | inl positive ↦ elim (one_triangle tin n (omega arith) positive) [
    | inl more ↦ inl (λ frame t h. more frame t (omega arith))
    | inr fault ↦ inr fault
  ]
  | inr fault ↦ inr fault
]

-- ---- through the pairs of a frame
abbrev HasFirstPair : Triangulation → Frame → Type 0
HasFirstPair tin frame = (first : ℕ) × (second : ℕ) × IsFirstPair tin frame first second

module _ (tin : Triangulation) (frame : Frame) (positive : ArePositive tin (length tin.triangles)) where
  -- the pair of t and u, where all before it fit
  one_pair : (t u : ℕ) → u < length tin.triangles → DoFitBefore tin frame t u
      → DoFitBefore tin frame t (suc u) ⊎ HasFirstPair tin frame
  one_pair t u within before = go (trichotomy t u)
    where
      skipped : u ≤ t → DoFitBefore tin frame t (suc u)
      skipped past a b order in_range (inl less) = before a b order in_range (inl less)
      skipped past a b order in_range (inr (same, less)) = absurd (omega arith)

      with_fit : DoFit tin frame t u → DoFitBefore tin frame t (suc u)
      with_fit fit a b order in_range (inl less) = before a b order in_range (inl less)
      with_fit fit a b order in_range (inr (same, less)) = by (trichotomy b u)
        where
          by : (b < u) ⊎ ((b ≡ u) ⊎ (u < b)) → DoFit tin frame a b
          by (inl h) = before a b order in_range (inr (same, h))
          by (inr (inl h)) = subst (λ (n : ℕ). DoFit tin frame n b) (sym same)
              (subst (λ (n : ℕ). DoFit tin frame t n) (sym h) fit)
          by (inr (inr h)) = absurd (omega arith)

      go : (t < u) ⊎ ((t ≡ u) ⊎ (u < t)) → DoFitBefore tin frame t (suc u) ⊎ HasFirstPair tin frame
      go (inr (inl same)) = inl (skipped (omega arith))
      go (inr (inr past)) = inl (skipped (omega arith))
      go (inl order) =
          elim (fit_or tin frame t u (positive frame t (omega arith)) (positive frame u within)) [
            | inl fit ↦ inl (with_fit fit)
            | inr unfit ↦ inr (
              t,
              u,
              record { in_order = order; in_range = within; not_fit = unfit; before = before },
            )
          ]

  -- the pairs of t with those below n
  row : (t n : ℕ) → n ≤ length tin.triangles → DoFitBefore tin frame t 0
      → DoFitBefore tin frame t n ⊎ HasFirstPair tin frame
  row t zero few before = inl before
  row t (suc n) few before = elim (row t n (omega arith) before) [
    | inl so_far ↦ one_pair t n (omega arith) so_far
    | inr found ↦ inr found
  ]

  -- the pairs whose first triangle is below n
  rows : (n : ℕ) → n ≤ length tin.triangles → DoFitBefore tin frame n 0 ⊎ HasFirstPair tin frame
  rows zero few = inl (λ t u order within before. absurd (none t u before))
    where
      none : (t u : ℕ) → IsBeforePair t u 0 0 → ⊥
      none t u (inl h) = absurd (omega arith)
      none t u (inr h) = absurd (omega (arith, h.1))
  rows (suc n) few = elim (rows n (omega arith)) [
    | inl before ↦ elim (row n (length tin.triangles) (omega arith) before) [
      | inl all ↦ inl (next all)
      | inr found ↦ inr found
    ]
    | inr found ↦ inr found
  ]
    where
      next : DoFitBefore tin frame n (length tin.triangles) → DoFitBefore tin frame (suc n) 0
      next all t u order within (inr (same, less)) = absurd (omega arith)
      next all t u order within (inl less) = by (trichotomy t n)
        where
          by : (t < n) ⊎ ((t ≡ n) ⊎ (n < t)) → DoFit tin frame t u
          by (inl h) = all t u order within (inl h)
          by (inr (inl h)) = all t u order within (inr (h, within))
          by (inr (inr h)) = absurd (omega arith)

  pairs : DoAllFit tin frame ⊎ HasFirstPair tin frame
  pairs = elim (rows (length tin.triangles) (omega arith)) [
    | inl all ↦ inl (all_fit tin frame (length tin.triangles) (omega arith) all)
    | inr found ↦ inr found
  ]

-- ---- the earlier of the two frames' pairs
before_or : (t u a b : ℕ) → IsBeforePair t u a b ⊎ (IsBeforePair t u a b → ⊥)
before_or t u a b = go (trichotomy t a) (trichotomy u b)
  where
    go : (t < a) ⊎ ((t ≡ a) ⊎ (a < t)) → (u < b) ⊎ ((u ≡ b) ⊎ (b < u))
        → IsBeforePair t u a b ⊎ (IsBeforePair t u a b → ⊥)
    go (inl h) k = inl (inl h)
    go (inr (inl h)) (inl k) = inl (inr (h, k))
    go (inr (inl h)) (inr (inl k)) = inr (not_here (omega arith) (omega arith))
      where
        not_here : a ≤ t → b ≤ u → IsBeforePair t u a b → ⊥
        not_here m n (inl less) = absurd (omega arith)
        not_here m n (inr less) = absurd (omega (arith, less.1))
    go (inr (inl h)) (inr (inr k)) = inr (not_here (omega arith) (omega arith))
      where
        not_here : a ≤ t → b ≤ u → IsBeforePair t u a b → ⊥
        not_here m n (inl less) = absurd (omega arith)
        not_here m n (inr less) = absurd (omega (arith, less.1))
    go (inr (inr h)) k = inr (past h)
      where
        past : a < t → IsBeforePair t u a b → ⊥
        past m (inl less) = absurd (omega arith)
        past m (inr less) = absurd (omega (arith, less.0))

by_pairs : (tin : Triangulation) → ArePositive tin (length tin.triangles)
    → DoAllFit tin Source ⊎ HasFirstPair tin Source
    → DoAllFit tin Target ⊎ HasFirstPair tin Target → IsSound tin ⊎ HasFirstFault tin
by_pairs tin positive (inl source) (inl target) = inl (checked tin positive source target)
by_pairs tin positive (inl source) (inr (c, d, target)) =
    inr (Meets c d Target, target_alone tin c d positive target source)
by_pairs tin positive (inr (a, b, source)) (inl target) =
    inr (Meets a b Source, source_alone tin a b positive source target)
by_pairs tin positive (inr (a, b, source)) (inr (c, d, target)) =
    elim (before_or c d a b) [
      | inl before ↦ inr (Meets c d Target, target_first tin a b c d positive source target before)
      | inr not ↦ inr (Meets a b Source, source_first tin a b c d positive source target not)
    ]

pub outcome : OutcomeExists
outcome tin = elim (triangles tin (length tin.triangles) (omega arith)) [
  | inl positive ↦ by_pairs tin positive (pairs tin Source positive) (pairs tin Target positive)
  | inr fault ↦ inr fault
]
