-- A triangulation has a list of all its faults. The search is over the definitions alone: through the triangles of each
-- frame, and then through the pairs of each.
use Rattle.std.proofs.Common.{◌≡◌, ◌≢◌, ◌⊎◌, inl, inr, ℕ, zero, suc, ◌+◌, ◌<◌, ◌≤◌, ℤ, pos, ◌<ℤ◌, List, [], ◌∷◌, ◌++◌}
use Rattle.std.proofs.Common.{length, map, slice_index_or, refl, sym, subst, arith}
use Rattle.std.proofs.lemmas.Int.{ints}
use Rattle.plain_laws.proofs.Order.{sign_of, opposite}
use Rattle.plane_base.specs.Plane.{Point}
use Rattle.tin_base.specs.declared.corners.Corner.{Corner}
use Rattle.tin_base.specs.declared.frames.Frame.{Frame}
use Rattle.tin_base.specs.declared.frames.Frame.TheVariants.{Source, Target}
use Rattle.tin_base.specs.Triangulation.{Triangulation, x_in, y_in, place, no_corner, corner_at, numbers_of, places}
use Rattle.tin_base.specs.Soundness.{turn_of_three, turn_in, DoFit, IsSound}
use Rattle.tin_check.specs.declared.faults.CheckFault.{CheckFault}
use Rattle.tin_check.specs.declared.faults.CheckFault.TheVariants as checks
use Rattle.tin_check.specs.Faults.{frame_rank, IsFault, IsFirstFault, OutcomeExists}
use Rattle.tin_faults.specs.declared.faults.Fault.{Fault}
use Rattle.tin_faults.specs.declared.faults.Fault.TheVariants.{Flat, TurnsOver, Overlap}
use Rattle.tin_faults.specs.Faults.{IsFaultOf}
use Rattle.tin_faults.specs.Laws.{FaultsExist}
use Rattle.tin_faults.specs.InsideProgress.{HasFaultsBefore, triangle_key, pair_key}
use Rattle.tin_faults.proofs.Numbers.{HaveSameNumbers, same_back, same_counted, DoFitBy, fit_same, fit_to, fit_from}
use Rattle.tin_faults.proofs.Pairs.{turned_turn}
use Rattle.tin_faults.proofs.Ranks.{IsFrom, first_split, first_on}
use Rattle.tin_faults.proofs.Growth.{nothing_yet, advanced, turn_added, turn_fine, turns_done, pairs_next, pair_added, pair_fine}
use Rattle.tin_faults.proofs.Growth.{pairs_done, all_done}

-- ---- two triangles of a frame alone, in both frames where they are in this one
abbrev in_both : Frame → Corner → Corner
in_both frame corner = record {
  sx = x_in frame corner;
  sy = y_in frame corner;
  tx = x_in frame corner;
  ty = y_in frame corner;
}

abbrev two_alone : Triangulation → Frame → List ℕ → List ℕ → Triangulation
two_alone tin frame ns us = record {
  corners = map (in_both frame) tin.corners;
  triangles = ns ∷ us ∷ [];
  inexact = 0;
}

place_in_both : (frame f : Frame) (corner : Corner) → place f (in_both frame corner) ≡ place frame corner
place_in_both frame f corner = grind arith

place_of_none : (frame f : Frame) → place f no_corner ≡ place frame no_corner
place_of_none frame f = grind arith

same_corner : (frame f : Frame) (corners : List Corner) (k : ℕ)
    → place f (slice_index_or (map (in_both frame) corners) k no_corner)
    ≡ place frame (slice_index_or corners k no_corner)
same_corner frame f [] k = place_of_none frame f
same_corner frame f (corner ∷ corners) zero = place_in_both frame f corner
same_corner frame f (corner ∷ corners) (suc k) = same_corner frame f corners k

same_places : (tin : Triangulation) (frame f : Frame) (ns us ks : List ℕ)
    → places (two_alone tin frame ns us) f ks ≡ places tin frame ks
same_places tin frame f ns us [] = refl
same_places tin frame f ns us (k ∷ ks) = grind (arith, same_corner, same_places tin frame f ns us ks)

fit_moved : (tin other : Triangulation) (frame f : Frame) (ns us : List ℕ)
    → ((ks : List ℕ) → places tin frame ks ≡ places other f ks) → DoFitBy tin frame ns us → DoFitBy other f ns us
fit_moved tin other frame f ns us same fit = grind arith

no_flat_turn : (z : ℤ) → pos 0 <ℤ z → z ≡ pos 0 → ⊥
no_flat_turn z h e = absurd (omega (arith, ints))

no_negative_turn : (z : ℤ) → pos 0 <ℤ z → z <ℤ pos 0 → ⊥
no_negative_turn z h k = absurd (omega (arith, ints))

-- ---- triangles with these numbers, which turn to the left, fit together or do not: two of them are sound or not
module _ (outcome : OutcomeExists) (tin : Triangulation) (frame : Frame) (ns us : List ℕ)
    (d : pos 0 <ℤ turn_of_three (places tin frame ns)) (d' : pos 0 <ℤ turn_of_three (places tin frame us)) where
  turns : (f : Frame) (t : ℕ) → t < 2 → pos 0 <ℤ turn_in (two_alone tin frame ns us) f t
  turns f zero h = subst (λ (ps : List Point). pos 0 <ℤ turn_of_three ps) (sym (same_places tin frame f ns us ns)) d
  turns f (suc zero) h =
      subst (λ (ps : List Point). pos 0 <ℤ turn_of_three ps) (sym (same_places tin frame f ns us us)) d'
  turns f (suc (suc t)) h = absurd (omega (arith, h))

  fit_as_listed : (f : Frame) → DoFit (two_alone tin frame ns us) f 0 1 → DoFitBy tin frame ns us
  fit_as_listed f fit = fit_moved (two_alone tin frame ns us) tin f frame ns us (same_places tin frame f ns us)
      (fit_from (two_alone tin frame ns us) f 0 1 fit)

  fit_alone : (f : Frame) → DoFitBy tin frame ns us → DoFit (two_alone tin frame ns us) f 0 1
  fit_alone f fit = fit_to (two_alone tin frame ns us) f 0 1
      (fit_moved tin (two_alone tin frame ns us) frame f ns us (λ ks. sym (same_places tin frame f ns us ks)) fit)

  no_turn : (t : ℕ) → (t < 2)
      × ((turn_in (two_alone tin frame ns us) Source t <ℤ pos 0)
      ⊎ (turn_in (two_alone tin frame ns us) Target t <ℤ pos 0)) → ⊥
  no_turn t (h, inl k) = no_negative_turn (turn_in (two_alone tin frame ns us) Source t) (turns Source t h) k
  no_turn t (h, inr k) = no_negative_turn (turn_in (two_alone tin frame ns us) Target t) (turns Target t h) k

  one_pair : (a b : ℕ) (f : Frame) → a < b → b < 2 → (DoFit (two_alone tin frame ns us) f a b → ⊥)
      → DoFitBy tin frame ns us → ⊥
  one_pair zero zero f h k none fit = absurd (omega (arith, h))
  one_pair zero (suc zero) f h k none fit = none (fit_alone f fit)
  one_pair zero (suc (suc b)) f h k none fit = absurd (omega (arith, k))
  one_pair (suc a) b f h k none fit = absurd (omega (arith, h, k))

  unfit : (fault : CheckFault) → IsFault (two_alone tin frame ns us) fault → DoFitBy tin frame ns us → ⊥
  unfit (checks.Flat t f) is fit = no_flat_turn (turn_in (two_alone tin frame ns us) f t) (turns f t is.0) is.1
  unfit (checks.TurnsOver t) is fit = no_turn t is
  unfit (checks.Meets a b f) is fit = one_pair a b f is.0 is.1 is.2 fit
  unfit checks.NoMemory is fit = is

  fit_by_or : DoFitBy tin frame ns us ⊎ (DoFitBy tin frame ns us → ⊥)
  fit_by_or = go (outcome (two_alone tin frame ns us))
    where
      go : IsSound (two_alone tin frame ns us)
          ⊎ ((fault : CheckFault) × IsFirstFault (two_alone tin frame ns us) fault)
          → DoFitBy tin frame ns us ⊎ (DoFitBy tin frame ns us → ⊥)
      go (inl sound) = inl (fit_as_listed Source (sound.fit Source 0 1 (λ same. cc) (omega arith) (omega arith)))
      go (inr (fault, first)) = inr (unfit fault first.is_one)

-- ---- a triangle that is not flat, counted so that it turns to the left
record IsLeft (tin : Triangulation) (frame : Frame) (ns : List ℕ) : Type 0 where
  numbers : List ℕ
  same : HaveSameNumbers ns numbers
  positive : pos 0 <ℤ turn_of_three (places tin frame numbers)

left_turned_numbers : (tin : Triangulation) (frame : Frame) (ns : List ℕ) → turn_of_three (places tin frame ns) ≢ pos 0
    → IsLeft tin frame ns
left_turned_numbers tin frame [] denied = absurd (denied refl)
left_turned_numbers tin frame (i ∷ []) denied = absurd (denied refl)
left_turned_numbers tin frame (i ∷ j ∷ []) denied = absurd (denied refl)
left_turned_numbers tin frame (i ∷ j ∷ k ∷ l ∷ ns) denied = absurd (denied refl)
left_turned_numbers tin frame (i ∷ j ∷ k ∷ []) denied = go (sign_of (turn_of_three (places tin frame (i ∷ j ∷ k ∷ []))))
  where
    go : (turn_of_three (places tin frame (i ∷ j ∷ k ∷ [])) ≡ pos 0)
        ⊎ ((turn_of_three (places tin frame (i ∷ j ∷ k ∷ [])) <ℤ pos 0)
        ⊎ (pos 0 <ℤ turn_of_three (places tin frame (i ∷ j ∷ k ∷ []))))
        → IsLeft tin frame (i ∷ j ∷ k ∷ [])
    go (inl e) = absurd (denied e)
    go (inr (inl h)) = record {
      numbers = i ∷ k ∷ j ∷ [];
      same = same_counted (i ∷ j ∷ k ∷ []) (i ∷ k ∷ j ∷ []) (inr refl);
      positive = opposite (turn_of_three (places tin frame (i ∷ j ∷ k ∷ [])))
          (turn_of_three (places tin frame (i ∷ k ∷ j ∷ [])))
          (turned_turn (place frame (corner_at tin i)) (place frame (corner_at tin j)) (place frame (corner_at tin k))) h;
    }
    go (inr (inr h)) = record {
      numbers = i ∷ j ∷ k ∷ [];
      same = same_counted (i ∷ j ∷ k ∷ []) (i ∷ j ∷ k ∷ []) (inl refl);
      positive = h;
    }

-- ---- a pair is a fault or not
fit_or : OutcomeExists → (tin : Triangulation) (frame : Frame) (t u : ℕ) → turn_in tin frame t ≢ pos 0
    → turn_in tin frame u ≢ pos 0 → DoFit tin frame t u ⊎ (DoFit tin frame t u → ⊥)
fit_or outcome tin frame t u h k =
    let ns = numbers_of tin t in
    let us = numbers_of tin u in
    let l = left_turned_numbers tin frame (numbers_of tin t) h in
    let m = left_turned_numbers tin frame (numbers_of tin u) k in
    elim (fit_by_or outcome tin frame l.numbers m.numbers l.positive m.positive) [
      | inl fit ↦ inl (fit_to tin frame t u (fit_same tin frame l.numbers ns m.numbers us
          (same_back ns l.numbers l.same) (same_back us m.numbers m.same) fit))
      | inr denied ↦ inr (λ fit. denied (fit_same tin frame ns l.numbers us m.numbers l.same m.same
          (fit_from tin frame t u fit)))
    ]

int_or : (x y : ℤ) → (x ≡ y) ⊎ (x ≢ y)
int_or x y = grind (arith, ints)

less_or : (m n : ℕ) → (m < n) ⊎ (m < n → ⊥)
less_or m n = grind arith

overlap_or : OutcomeExists → (tin : Triangulation) (frame : Frame) (t u : ℕ)
    → IsFaultOf tin (Overlap frame t u) ⊎ (IsFaultOf tin (Overlap frame t u) → ⊥)
overlap_or outcome tin frame t u =
    elim (less_or t u) [
      | inr denied ↦ inr (λ is. denied is.0)
      | inl order ↦ elim (less_or u (length tin.triangles)) [
        | inr denied ↦ inr (λ is. denied is.1)
        | inl within ↦ elim (int_or (turn_in tin frame t) (pos 0)) [
          | inl flat ↦ inr (λ is. is.2 flat)
          | inr first ↦ elim (int_or (turn_in tin frame u) (pos 0)) [
            | inl flat ↦ inr (λ is. is.3 flat)
            | inr second ↦ elim (fit_or outcome tin frame t u first second) [
              | inl fit ↦ inr (λ is. is.4 fit)
              | inr denied ↦ inl (order, within, first, second, denied)
            ]
          ]
        ]
      ]
    ]

-- ---- through the triangles
-- the faults before a key are some list
abbrev HasList : Triangulation → List ℕ → Type 0
HasList tin key = (faults : List Fault) × HasFaultsBefore tin key faults

one_triangle : (tin : Triangulation) (frame : Frame) (t : ℕ) → t < length tin.triangles
    → HasList tin (triangle_key (frame_rank frame) t) → HasList tin (triangle_key (frame_rank frame) (t + 1))
one_triangle tin frame t within (faults, has) =
    grind (
      arith,
      sign_of (turn_in tin frame t),
      turn_added tin frame t faults (faults ++ Flat frame t ∷ []) (Flat frame t) has,
      turn_added tin frame t faults (faults ++ TurnsOver frame t ∷ []) (TurnsOver frame t) has,
      turn_fine tin frame t faults has,
    )

triangles : (tin : Triangulation) (frame : Frame) (n : ℕ) → n ≤ length tin.triangles
    → HasList tin (triangle_key (frame_rank frame) 0) → HasList tin (triangle_key (frame_rank frame) n)
triangles tin frame zero few has = has
triangles tin frame (suc n) few has =
    let same : n + 1 ≡ suc n = omega arith in
    subst (λ (m : ℕ). HasList tin (triangle_key (frame_rank frame) m)) same
    (one_triangle tin frame n (omega arith) (triangles tin frame n (omega arith) has))

-- ---- through the pairs
module _ (outcome : OutcomeExists) (tin : Triangulation) (frame : Frame) where
  next_pair : (t u : ℕ) → HasList tin (pair_key (frame_rank frame) t u)
      → HasList tin (pair_key (frame_rank frame) t (u + 1))
  next_pair t u (faults, has) =
      elim (overlap_or outcome tin frame t u) [
        | inl is ↦ (
          faults ++ Overlap frame t u ∷ [],
          pair_added tin frame t u faults (faults ++ Overlap frame t u ∷ []) has is refl,
        )
        | inr denied ↦ (faults, pair_fine tin frame t u faults has denied)
      ]

  -- the pairs of t with those below n
  row : (t n : ℕ) → HasList tin (pair_key (frame_rank frame) t 0) → HasList tin (pair_key (frame_rank frame) t n)
  row t zero has = has
  row t (suc n) has = grind (arith, next_pair t n (row t n has), row t n has)

  -- denied second triangle is above the last
  row_end : (t n : ℕ) (faults : List Fault) → length tin.triangles ≤ n
      → HasFaultsBefore tin (pair_key (frame_rank frame) t n) faults
      → HasFaultsBefore tin (pair_key (frame_rank frame) (t + 1) 0) faults
  row_end t n faults past has = grind (arith, advanced, first_on, first_split, IsFrom)

  next_row : (t : ℕ) → HasList tin (pair_key (frame_rank frame) t 0)
      → HasList tin (pair_key (frame_rank frame) (t + 1) 0)
  next_row t has = grind (arith, row t (length tin.triangles) has, row_end t (length tin.triangles))

  -- the pairs whose first triangle is below n
  rows : (n : ℕ) → HasList tin (pair_key (frame_rank frame) 0 0) → HasList tin (pair_key (frame_rank frame) n 0)
  rows zero has = has
  rows (suc n) has = grind (arith, next_row n (rows n has), rows n has)

-- ---- all
pub faults_exist : OutcomeExists → FaultsExist
faults_exist outcome tin =
    let n = length tin.triangles in
    let (source, has_source) = triangles tin Source n (omega arith) ([], nothing_yet tin) in
    let (target, has_target) =
    triangles tin Target n (omega arith) (source, turns_done tin 0 n source (omega arith) has_source) in
    let (first, has_first) = rows outcome tin Source n
    (target, pairs_next tin target (turns_done tin 1 n target (omega arith) has_target)) in
    let (second, has_second) = rows outcome tin Target n (first, pairs_done tin 0 n first (omega arith) has_first) in
    (second, all_done tin second (pairs_done tin 1 n second (omega arith) has_second))
