-- Where nothing was found so far, what is found is the first fault; and there is one first fault at most.
use Rattle.std.proofs.Common.{◌≡◌, ◌⊎◌, inl, inr, ℕ, ◌+◌, ◌<◌, ℤ, pos, ◌<ℤ◌, List, [], ◌∷◌, length, get_or, sym, ◌∙◌}
use Rattle.std.proofs.Common.{ap, ap₂, subst, refl, arith}
use Rattle.std.proofs.lemmas.Int.{ints}
use Rattle.tin_base.specs.declared.frames.Frame.{Frame}
use Rattle.tin_base.specs.declared.frames.Frame.TheVariants.{Source, Target}
use Rattle.tin_base.specs.Triangulation.{Triangulation}
use Rattle.tin_base.specs.Soundness.{turn_in, DoFit, IsSound}
use Rattle.tin_check.specs.declared.faults.CheckFault.{CheckFault}
use Rattle.tin_check.specs.declared.faults.CheckFault.TheVariants.{Flat, TurnsOver, Meets, NoMemory}
use Rattle.tin_check.specs.Faults.{IsFault, frame_rank, rank, IsLowerRank, IsFirstFault, IsCause, FirstFaultIsOne}
use Rattle.tin_check.specs.Faults.{FaultsAreUnsound}
use Rattle.tin_check.specs.InsideProgress.{ArePositive, IsBeforePair, DoFitBefore, DoAllFit, IsFirstPair}
use Rattle.plain_laws.proofs.Order.{trichotomy}

not_zero : (z : ℤ) → pos 0 <ℤ z → z ≡ pos 0 → ⊥
not_zero z h e = absurd (omega (arith, ints))

not_negative : (z : ℤ) → pos 0 <ℤ z → z <ℤ pos 0 → ⊥
not_negative z h k = absurd (omega (arith, ints))

-- ---- the first fault of a triangle
-- of a fault before the k-th of triangle t: that triangle is flat, in a frame of lower rank, or it is turned over
abbrev HasEarlier : Triangulation → ℕ → ℕ → Type 0
HasEarlier tin t k = ((frame : Frame) × (turn_in tin frame t ≡ pos 0) × (frame_rank frame < k)) ⊎ (2 < k)

below : (m n k : ℕ) → IsLowerRank (m ∷ []) (n ∷ []) → m < n
below m n k (inl h) = h
below m n k (inr h) = absurd h.1

earlier : (tin : Triangulation) (t k : ℕ) (other : CheckFault) → ArePositive tin t
    → IsLowerRank (rank other) (0 ∷ t ∷ k ∷ []) → IsFault tin other → HasEarlier tin t k
earlier tin t k (Flat u frame) positive (inl h) fault = absurd (omega arith)
earlier tin t k (Flat u frame) positive (inr (e, inl h)) fault =
    absurd (not_zero (turn_in tin frame u) (positive frame u h) fault.1)
earlier tin t k (Flat u frame) positive (inr (e, inr h)) fault =
    inl (frame, subst (λ (n : ℕ). turn_in tin frame n ≡ pos 0) h.0 fault.1, below (frame_rank frame) k k h.1)
earlier tin t k (TurnsOver u) positive (inl h) fault = absurd (omega arith)
earlier tin t k (TurnsOver u) positive (inr (e, inl h)) (within, inl f) =
    absurd (not_negative (turn_in tin Source u) (positive Source u h) f)
earlier tin t k (TurnsOver u) positive (inr (e, inl h)) (within, inr f) =
    absurd (not_negative (turn_in tin Target u) (positive Target u h) f)
earlier tin t k (TurnsOver u) positive (inr (e, inr h)) fault = inr (below 2 k k h.1)
earlier tin t k (Meets a b frame) positive (inl h) fault = absurd (omega arith)
earlier tin t k (Meets a b frame) positive (inr h) fault = absurd (cc)
earlier tin t k NoMemory positive h fault = absurd fault

pub flat_source : (tin : Triangulation) (t : ℕ) → t < length tin.triangles → ArePositive tin t
    → turn_in tin Source t ≡ pos 0 → IsFirstFault tin (Flat t Source)
flat_source tin t within positive flat = record {
  is_one = (within, flat);
  none_before =
      λ other before fault. go (earlier tin t 0 other positive before fault);
}
  where
    go : HasEarlier tin t 0 → ⊥
    go (inl h) = absurd (omega arith)
    go (inr h) = absurd (omega arith)

-- where the source's turn is not 0
pub flat_target : (tin : Triangulation) (t : ℕ) → t < length tin.triangles → ArePositive tin t
    → (turn_in tin Source t ≡ pos 0 → ⊥) → turn_in tin Target t ≡ pos 0 → IsFirstFault tin (Flat t Target)
flat_target tin t within positive source flat = record {
  is_one = (within, flat);
  none_before =
      λ other before fault. go (earlier tin t 1 other positive before fault);
}
  where
    go : HasEarlier tin t 1 → ⊥
    go (inl (Source, zero, h)) = source zero
    go (inl (Target, zero, h)) = absurd (omega arith)
    go (inr h) = absurd (omega arith)

-- where no turn is 0
pub turned_over : (tin : Triangulation) (t : ℕ) → t < length tin.triangles → ArePositive tin t
    → (turn_in tin Source t ≡ pos 0 → ⊥) → (turn_in tin Target t ≡ pos 0 → ⊥)
    → (turn_in tin Source t <ℤ pos 0) ⊎ (turn_in tin Target t <ℤ pos 0) → IsFirstFault tin (TurnsOver t)
turned_over tin t within positive source target negative = record {
  is_one = (within, negative);
  none_before =
      λ other before fault. go (earlier tin t 2 other positive before fault);
}
  where
    go : HasEarlier tin t 2 → ⊥
    go (inl (Source, zero, h)) = source zero
    go (inl (Target, zero, h)) = target zero
    go (inr h) = absurd (omega arith)

pub one_more_positive : (tin : Triangulation) (t : ℕ) → ArePositive tin t → pos 0 <ℤ turn_in tin Source t
    → pos 0 <ℤ turn_in tin Target t → ArePositive tin (t + 1)
one_more_positive tin t positive source target frame u h = go (last_or_not u t h)
  where
    last_or_not : (u t : ℕ) → u < t + 1 → (u < t) ⊎ (t ≡ u)
    last_or_not u t h = grind arith

    here : (frame : Frame) → pos 0 <ℤ turn_in tin frame t
    here Source = source
    here Target = target

    go : (u < t) ⊎ (t ≡ u) → pos 0 <ℤ turn_in tin frame u
    go (inl before) = positive frame u before
    go (inr same) = subst (λ (n : ℕ). pos 0 <ℤ turn_in tin frame n) same (here frame)

-- ---- the first fault of a pair
-- of a fault before the k-th of the pair: it is one of that pair, in a frame of lower rank
abbrev HasEarlierOf : Triangulation → ℕ → ℕ → ℕ → Type 0
HasEarlierOf tin a b k = (frame : Frame) × (DoFit tin frame a b → ⊥) × (frame_rank frame < k)

earlier_of : (tin : Triangulation) (a b k : ℕ) (other : CheckFault) → ArePositive tin (length tin.triangles)
    → ((frame : Frame) → DoFitBefore tin frame a b) → IsLowerRank (rank other) (1 ∷ a ∷ b ∷ k ∷ []) → IsFault tin other
    → HasEarlierOf tin a b k
earlier_of tin a b k (Flat u frame) positive fit before fault =
    absurd (not_zero (turn_in tin frame u) (positive frame u fault.0) fault.1)
earlier_of tin a b k (TurnsOver u) positive fit before (within, inl f) =
    absurd (not_negative (turn_in tin Source u) (positive Source u within) f)
earlier_of tin a b k (TurnsOver u) positive fit before (within, inr f) =
    absurd (not_negative (turn_in tin Target u) (positive Target u within) f)
earlier_of tin a b k (Meets t u frame) positive fit (inl h) fault = absurd (omega arith)
earlier_of tin a b k (Meets t u frame) positive fit (inr (e, inl h)) fault =
    absurd (fault.2 (fit frame t u fault.0 fault.1 (inl h)))
earlier_of tin a b k (Meets t u frame) positive fit (inr (e, inr (f, inl h))) fault =
    absurd (fault.2 (fit frame t u fault.0 fault.1 (inr (f, h))))
earlier_of tin a b k (Meets t u frame) positive fit (inr (e, inr (f, inr (g, h)))) fault = (
  frame,
  λ fit. fault.2 (subst (λ (n : ℕ). DoFit tin frame n u) (sym f)
      (subst (λ (n : ℕ). DoFit tin frame a n) (sym g) fit)),
  below (frame_rank frame) k k h,
)
earlier_of tin a b k NoMemory positive fit before fault = absurd fault

-- what a frame has before a pair, it has before an earlier one
still_before : (tin : Triangulation) (frame : Frame) (a b c d : ℕ) → (IsBeforePair c d a b → ⊥)
    → DoFitBefore tin frame c d → DoFitBefore tin frame a b
still_before tin frame a b c d not fit t u order within before = fit t u order within (still t u a b c d not before)
  where
    still : (t u a b c d : ℕ) → (IsBeforePair c d a b → ⊥) → IsBeforePair t u a b → IsBeforePair t u c d
    still t u a b c d not before = go (trichotomy t c) (trichotomy u d) before
      where
        first : t < a → c < t → ⊥
        first h k = not (inl (omega arith))

        go : (t < c) ⊎ ((t ≡ c) ⊎ (c < t)) → (u < d) ⊎ ((u ≡ d) ⊎ (d < u)) → IsBeforePair t u a b → IsBeforePair t u c d
        go (inl h) w before = inl h
        go (inr (inl h)) (inl k) before = inr (h, k)
        go (inr (inl h)) (inr w) (inl less) = absurd (not (inl (omega arith)))
        go (inr (inl h)) (inr (inl k)) (inr (e, less)) = absurd (not (inr (omega arith, omega arith)))
        go (inr (inl h)) (inr (inr k)) (inr (e, less)) = absurd (not (inr (omega arith, omega arith)))
        go (inr (inr h)) w (inl less) = absurd (first less h)
        go (inr (inr h)) w (inr (e, less)) = absurd (not (inl (omega arith)))

first_in_source : (tin : Triangulation) (a b : ℕ) → ArePositive tin (length tin.triangles)
    → IsFirstPair tin Source a b → DoFitBefore tin Target a b → IsFirstFault tin (Meets a b Source)
first_in_source tin a b positive source target =
    record {
      is_one = (source.in_order, source.in_range, source.not_fit);
      none_before =
          λ other before fault. go (earlier_of tin a b 0 other positive both before fault);
    }
  where
    both : (frame : Frame) → DoFitBefore tin frame a b
    both Source = source.before
    both Target = target

    go : HasEarlierOf tin a b 0 → ⊥
    go h = absurd (omega (arith, h.2))

first_in_target : (tin : Triangulation) (a b : ℕ) → ArePositive tin (length tin.triangles)
    → IsFirstPair tin Target a b → DoFitBefore tin Source a b → DoFit tin Source a b
    → IsFirstFault tin (Meets a b Target)
first_in_target tin a b positive target source here =
    record {
      is_one = (target.in_order, target.in_range, target.not_fit);
      none_before =
          λ other before fault. go (earlier_of tin a b 1 other positive both before fault);
    }
  where
    both : (frame : Frame) → DoFitBefore tin frame a b
    both Source = source
    both Target = target.before

    go : HasEarlierOf tin a b 1 → ⊥
    go (Source, h, k) = h here
    go (Target, h, k) = absurd (omega arith)

-- where all pairs fit in the other frame
all_before : (tin : Triangulation) (frame : Frame) (a b : ℕ) → DoAllFit tin frame → DoFitBefore tin frame a b
all_before tin frame a b all t u order within before = all t u order within

pub source_alone : (tin : Triangulation) (a b : ℕ) → ArePositive tin (length tin.triangles) → IsFirstPair tin Source a b
    → DoAllFit tin Target → IsFirstFault tin (Meets a b Source)
source_alone tin a b positive source target = first_in_source tin a b positive source (all_before tin Target a b target)

pub target_alone : (tin : Triangulation) (a b : ℕ) → ArePositive tin (length tin.triangles) → IsFirstPair tin Target a b
    → DoAllFit tin Source → IsFirstFault tin (Meets a b Target)
target_alone tin a b positive target source =
    first_in_target tin a b positive target (all_before tin Source a b source)
    (source a b target.in_order target.in_range)

-- where all pairs of the target that could come before fit
pub source_before : (tin : Triangulation) (a b : ℕ) → ArePositive tin (length tin.triangles)
    → IsFirstPair tin Source a b → DoFitBefore tin Target (a + 1) 0 → IsFirstFault tin (Meets a b Source)
source_before tin a b positive source target = first_in_source tin a b positive source upto
  where
    upto : DoFitBefore tin Target a b
    upto t u order within (inl below) = target t u order within (inl (omega arith))
    upto t u order within (inr (same, less)) = target t u order within (inl (omega arith))

-- where each frame has a first pair, the earlier one is named, and the source's where it is one pair
pub source_first : (tin : Triangulation) (a b c d : ℕ) → ArePositive tin (length tin.triangles)
    → IsFirstPair tin Source a b → IsFirstPair tin Target c d → (IsBeforePair c d a b → ⊥)
    → IsFirstFault tin (Meets a b Source)
source_first tin a b c d positive source target not =
    first_in_source tin a b positive source (still_before tin Target a b c d not target.before)

pub target_first : (tin : Triangulation) (a b c d : ℕ) → ArePositive tin (length tin.triangles)
    → IsFirstPair tin Source a b → IsFirstPair tin Target c d → IsBeforePair c d a b
    → IsFirstFault tin (Meets c d Target)
target_first tin a b c d positive source target before =
    first_in_target tin c d positive target (still_before tin Source c d a b not source.before)
    (source.before c d target.in_order target.in_range before)
  where
    not : IsBeforePair a b c d → ⊥
    not h = both a b c d h before
      where
        both : (a b c d : ℕ) → IsBeforePair a b c d → IsBeforePair c d a b → ⊥
        both a b c d (inl h) (inl k) = absurd (omega arith)
        both a b c d (inl h) (inr (e, k)) = absurd (omega arith)
        both a b c d (inr (e, h)) (inl k) = absurd (omega arith)
        both a b c d (inr (e, h)) (inr (f, k)) = absurd (omega arith)

-- ---- a fault is one, and says that the triangulation is not sound
pub unsound : FaultsAreUnsound
unsound tin (Flat t frame) fault sound = not_zero (turn_in tin frame t) (sound.positive frame t fault.0) fault.1
unsound tin (TurnsOver t) (within, inl h) sound = not_negative (turn_in tin Source t) (sound.positive Source t within) h
unsound tin (TurnsOver t) (within, inr h) sound = not_negative (turn_in tin Target t) (sound.positive Target t within) h
unsound tin (Meets t u frame) fault sound = let order : t < u = fault.0 in let within : u < length tin.triangles =
    fault.1 in fault.2 (sound.fit frame t u (λ same. absurd (omega arith)) (omega arith) within)
unsound tin NoMemory fault sound = absurd fault

-- ---- there is one first fault at most
in_order : (ms ns : List ℕ) → length ms ≡ length ns → IsLowerRank ms ns ⊎ ((ms ≡ ns) ⊎ IsLowerRank ns ms)
in_order [] [] e = inr (inl refl)
in_order [] (n ∷ ns) e = absurd (omega arith)
in_order (m ∷ ms) [] e = absurd (omega arith)
in_order (m ∷ ms) (n ∷ ns) e = go (trichotomy m n) (in_order ms ns (omega arith))
  where
    go : (m < n) ⊎ ((m ≡ n) ⊎ (n < m)) → IsLowerRank ms ns ⊎ ((ms ≡ ns) ⊎ IsLowerRank ns ms)
        → IsLowerRank (m ∷ ms) (n ∷ ns) ⊎ ((m ∷ ms ≡ n ∷ ns) ⊎ IsLowerRank (n ∷ ns) (m ∷ ms))
    go (inl h) rest = inl (inl h)
    go (inr (inr h)) rest = inr (inr (inl h))
    go (inr (inl h)) (inl k) = inl (inr (h, k))
    go (inr (inl h)) (inr (inl k)) = inr (inl (cc))
    go (inr (inl h)) (inr (inr k)) = inr (inr (inr (sym h, k)))

same_rank : (tin : Triangulation) (fault other : CheckFault) → length (rank fault) ≡ length (rank other)
    → IsFirstFault tin fault → IsFirstFault tin other → rank fault ≡ rank other
same_rank tin fault other e f g = go (in_order (rank fault) (rank other) e)
  where
    go : IsLowerRank (rank fault) (rank other) ⊎ ((rank fault ≡ rank other) ⊎ IsLowerRank (rank other) (rank fault))
        → rank fault ≡ rank other
    go (inl h) = absurd (g.none_before fault h f.is_one)
    go (inr (inl h)) = h
    go (inr (inr h)) = absurd (f.none_before other h g.is_one)

pub same_frame : (frame other : Frame) → frame_rank frame ≡ frame_rank other → frame ≡ other
same_frame Source Source e = refl
same_frame Source Target e = absurd (cc)
same_frame Target Source e = absurd (cc)
same_frame Target Target e = refl

no_frame : (frame : Frame) → frame_rank frame ≡ 2 → ⊥
no_frame Source e = absurd (cc)
no_frame Target e = absurd (cc)

zero_below_one : 0 < 1
zero_below_one = omega arith

pub one_first : FirstFaultIsOne
one_first tin (Flat t frame) (Flat u other) f g =
    let e = same_rank tin (Flat t frame) (Flat u other) refl f g in
    ap₂ (λ (n : ℕ) (o : Frame). Flat n o) (ap (λ (ns : List ℕ). get_or ns 1 0) e)
    (same_frame frame other (ap (λ (ns : List ℕ). get_or ns 2 0) e))
one_first tin (Flat t frame) (TurnsOver u) f g =
    absurd (no_frame frame (ap (λ (ns : List ℕ). get_or ns 2 0) (same_rank tin (Flat t frame) (TurnsOver u) refl f g)))
one_first tin (TurnsOver t) (Flat u frame) f g =
    absurd (no_frame frame (ap (λ (ns : List ℕ). get_or ns 2 0) (same_rank tin (Flat u frame) (TurnsOver t) refl g f)))
one_first tin (TurnsOver t) (TurnsOver u) f g =
    ap (λ (n : ℕ). TurnsOver n) (ap (λ (ns : List ℕ). get_or ns 1 0)
    (same_rank tin (TurnsOver t) (TurnsOver u) refl f g))
one_first tin (Meets t u frame) (Meets v w other) f g =
    let e = same_rank tin (Meets t u frame) (Meets v w other) refl f g in
    let a = ap (λ (ns : List ℕ). get_or ns 1 0) e in let b = ap (λ (ns : List ℕ). get_or ns 2 0) e in
    ap (λ (n : ℕ). Meets n u frame) a ∙ ap₂ (λ (n : ℕ) (o : Frame). Meets v n o) b
    (same_frame frame other (ap (λ (ns : List ℕ). get_or ns 3 0) e))
one_first tin (Flat t frame) (Meets v w other) f g = absurd (g.none_before (Flat t frame) (inl zero_below_one) f.is_one)
one_first tin (TurnsOver t) (Meets v w other) f g = absurd (g.none_before (TurnsOver t) (inl zero_below_one) f.is_one)
one_first tin (Meets v w other) (Flat t frame) f g = absurd (f.none_before (Flat t frame) (inl zero_below_one) g.is_one)
one_first tin (Meets v w other) (TurnsOver t) f g = absurd (f.none_before (TurnsOver t) (inl zero_below_one) g.is_one)
one_first tin NoMemory other f g = absurd f.is_one
one_first tin (Flat t frame) NoMemory f g = absurd g.is_one
one_first tin (TurnsOver t) NoMemory f g = absurd g.is_one
one_first tin (Meets t u frame) NoMemory f g = absurd g.is_one

-- ---- where the triangulation is sound, a refusal comes only where memory runs out
pub refused : (tin : Triangulation) (fault : CheckFault) → IsCause tin fault → IsSound tin → fault ≡ NoMemory
refused tin (Flat t frame) cause sound = absurd (unsound tin (Flat t frame) cause.is_one sound)
refused tin (TurnsOver t) cause sound = absurd (unsound tin (TurnsOver t) cause.is_one sound)
refused tin (Meets t u frame) cause sound = absurd (unsound tin (Meets t u frame) cause.is_one sound)
refused tin NoMemory cause sound = refl
