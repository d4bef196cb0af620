-- How the check goes on: along a list of second numbers, and from one first number to the next.
use Rattle.std.proofs.Common.{below_more, ◌≡◌, ◌⊎◌, inl, inr, ℕ, zero, suc, ◌+◌, ◌<◌, ◌≤◌, List, length, get_or, Option}
use Rattle.std.proofs.Common.{Some, None, sym, ◌∙◌, subst, arith}
use Rattle.std.specs.Prelude.{Contains}
use Rattle.std.specs.List.Sorted.{IsStrictlyIncreasing}
use Rattle.std.proofs.lemmas.List.{get_or_default}
use Rattle.tin_base.specs.declared.frames.Frame.{Frame}
use Rattle.tin_base.specs.declared.frames.Frame.TheVariants.{Source, Target}
use Rattle.tin_base.specs.Triangulation.{Triangulation}
use Rattle.tin_base.specs.Soundness.{DoFit, IsSound}
use Rattle.tin_base.proofs.TriangleLemmas.InOrder.{sound_of_pairs}
use Rattle.tin_check.specs.InsideProgress.{ArePositive, DoFitBefore, DoAllFit, IsFirstPair, IsFirstFound}
use Rattle.tin_check.specs.InsideProgress.{IsFirstFoundBelow}
use Rattle.tin_check.specs.InsideProgress.{DoOthersFit}
use Rattle.tin_check.specs.declared.pairs.TrianglePair.{TrianglePair}

-- ---- along a list
-- those of the first n numbers of a list that are above `first` fit it
abbrev pub DoListedFit : Triangulation → Frame → ℕ → List ℕ → ℕ → Type 0
DoListedFit tin frame first seconds n = (k : ℕ) → k < n → first < get_or seconds k 0
    → DoFit tin frame first (get_or seconds k 0)

pub one_more_listed : (tin : Triangulation) (frame : Frame) (first : ℕ) (seconds : List ℕ) (n : ℕ)
    → DoListedFit tin frame first seconds n → (first < get_or seconds n 0 → DoFit tin frame first (get_or seconds n 0))
    → DoListedFit tin frame first seconds (n + 1)
one_more_listed tin frame first seconds n listed here =
    below_more (λ k. first < get_or seconds k 0 → DoFit tin frame first (get_or seconds k 0)) n listed here

pub rises_on : (ns : List ℕ) (i k : ℕ) → IsStrictlyIncreasing ns → i + k < length ns → get_or ns i 0 ≤ get_or ns (i + k) 0
rises_on ns i zero rises within = let same : i ≡ i + zero =
    omega arith in subst (λ (j : ℕ). get_or ns i 0 ≤ get_or ns j 0) same (omega arith)
rises_on ns i (suc k) rises within =
    let before = rises_on ns i k rises (omega arith) in
    let step : get_or ns (i + k) 0 < get_or ns (i + k + 1) 0 = rises (i + k) (omega arith) in
    let same : i + k + 1 ≡ i + suc k = omega arith in
    subst (λ (j : ℕ). get_or ns i 0 ≤ get_or ns j 0) same (omega arith)

-- of a rising list, a lesser number comes before
stands_before : (ns : List ℕ) (k n : ℕ) → IsStrictlyIncreasing ns → k < length ns → get_or ns k 0 < get_or ns n 0
    → k < n
stands_before ns k n rises within less = go (before_or_not k n)
  where
    before_or_not : (k n : ℕ) → (k < n) ⊎ ((j : ℕ) × (k ≡ n + j))
    before_or_not k zero = inr (k, omega arith)
    before_or_not zero (suc n) = inl (omega arith)
    before_or_not (suc k) (suc n) = more (before_or_not k n)
      where
        more : (k < n) ⊎ ((j : ℕ) × (k ≡ n + j)) → (suc k < suc n) ⊎ ((j : ℕ) × (suc k ≡ suc n + j))
        more (inl h) = inl (omega arith)
        more (inr h) = let e : k ≡ n + h.0 = h.1 in inr (h.0, omega arith)

    go : (k < n) ⊎ ((j : ℕ) × (k ≡ n + j)) → k < n
    go (inl h) = h
    go (inr h) =
        let up = rises_on ns n h.0 rises (subst (λ (i : ℕ). i < length ns) h.1 within) in
        let less' : get_or ns (n + h.0) 0 < get_or ns n 0 = subst (λ (i : ℕ). get_or ns i 0 < get_or ns n 0) h.1 less in
        absurd (omega arith)

listed_fit : (tin : Triangulation) (frame : Frame) (first : ℕ) (seconds : List ℕ) (n u : ℕ)
    → DoListedFit tin frame first seconds n → first < u → (h : Contains seconds u) → h.0 < n → DoFit tin frame first u
listed_fit tin frame first seconds n u listed after h before =
    let e : get_or seconds h.0 0 ≡ u = get_or_default seconds h.0 0 u h.1 ∙ h.2 in
    subst (λ (v : ℕ). DoFit tin frame first v) e (listed h.0 before (subst (λ (v : ℕ). first < v) (sym e) after))

-- what comes before the n-th of the list
before_second : (tin : Triangulation) (frame : Frame) (first : ℕ) (seconds : List ℕ) (n : ℕ)
    → IsStrictlyIncreasing seconds → DoFitBefore tin frame first 0 → DoOthersFit tin frame first seconds
    → DoListedFit tin frame first seconds n → DoFitBefore tin frame first (get_or seconds n 0)
before_second tin frame first seconds n rises firsts others listed t u order within (inl below) =
    firsts t u order within (inl below)
before_second tin frame first seconds n rises firsts others listed t u order within (inr (same, less)) =
    subst (λ (v : ℕ). DoFit tin frame v u) (sym same) (go (others u after within))
  where
    after : first < u
    after = subst (λ (v : ℕ). v < u) same order

    go : Contains seconds u ⊎ DoFit tin frame first u → DoFit tin frame first u
    go (inr fit) = fit
    go (inl h) =
        let e : get_or seconds h.0 0 ≡ u = get_or_default seconds h.0 0 u h.1 ∙ h.2 in
        listed_fit tin frame first seconds n u listed after h
        (stands_before seconds h.0 n rises h.1 (subst (λ (v : ℕ). v < get_or seconds n 0) (sym e) less))

pub first_of_list : (tin : Triangulation) (frame : Frame) (first : ℕ) (seconds : List ℕ) (n : ℕ)
    → IsStrictlyIncreasing seconds → DoFitBefore tin frame first 0 → DoOthersFit tin frame first seconds
    → DoListedFit tin frame first seconds n
    → get_or seconds n 0 < length tin.triangles → first < get_or seconds n 0
    → (DoFit tin frame first (get_or seconds n 0) → ⊥) → IsFirstPair tin frame first (get_or seconds n 0)
first_of_list tin frame first seconds n rises firsts others listed within order not =
    record {
      in_order = order;
      in_range = within;
      not_fit = not;
      before =
          before_second tin frame first seconds n rises firsts others listed;
    }

-- at the end of the list
pub one_more_first : (tin : Triangulation) (frame : Frame) (first : ℕ) (seconds : List ℕ) (n : ℕ) → length seconds ≤ n
    → DoFitBefore tin frame first 0 → DoOthersFit tin frame first seconds → DoListedFit tin frame first seconds n
    → DoFitBefore tin frame (first + 1) 0
one_more_first tin frame first seconds n past firsts others listed t u order within (inr (same, less)) =
    absurd (omega arith)
one_more_first tin frame first seconds n past firsts others listed t u order within (inl below) =
    below_more (λ k. k < u → DoFit tin frame k u) first (λ k before o. firsts k u o within (inl before))
    (λ after. here after (others u after within)) t below order
  where
    here : first < u → Contains seconds u ⊎ DoFit tin frame first u → DoFit tin frame first u
    here after (inr fit) = fit
    here after (inl h) = let inside = h.1 in listed_fit tin frame first seconds n u listed after h (omega arith)

-- ---- from one first number to the next
pub all_fit : (tin : Triangulation) (frame : Frame) (n : ℕ) → length tin.triangles ≤ n → DoFitBefore tin frame n 0
    → DoAllFit tin frame
all_fit tin frame n past before t u order within = before t u order within (inl (omega arith))

-- with fewer first numbers
pub fit_below : (tin : Triangulation) (frame : Frame) (n end : ℕ) → end ≤ n → DoFitBefore tin frame n 0
    → DoFitBefore tin frame end 0
fit_below tin frame n end past before t u order within (inl below) = before t u order within (inl (omega arith))
fit_below tin frame n end past before t u order within (inr (same, less)) = absurd (omega arith)

-- with all first numbers
pub first_of_all : (tin : Triangulation) (frame : Frame) (end : ℕ) (found : Option TrianglePair) → length tin.triangles ≤ end
    → IsFirstFoundBelow tin frame end found → IsFirstFound tin frame found
first_of_all tin frame end None past before = all_fit tin frame end past before
first_of_all tin frame end (Some pair) past first = first

-- ---- at the end
pub checked : (tin : Triangulation) → ArePositive tin (length tin.triangles) → DoAllFit tin Source → DoAllFit tin Target
    → IsSound tin
checked tin positive source target = sound_of_pairs tin positive all
  where
    all : (frame : Frame) (t u : ℕ) → t < u → u < length tin.triangles → DoFit tin frame t u
    all Source t u order within = source t u order within
    all Target t u order within = target t u order within
