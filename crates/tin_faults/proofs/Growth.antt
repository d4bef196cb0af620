-- The list of faults as it grows.
use Rattle.std.proofs.Common.{◌≡◌, ◌⊎◌, inl, inr, ℕ, zero, suc, ◌+◌, ◌-◌, ◌<◌, ◌≤◌, ℤ, pos, ◌<ℤ◌, List, [], ◌∷◌, ◌++◌, length}
use Rattle.std.proofs.Common.{get_or, Some, refl, sym, ◌∙◌, ap, subst, arith}
use Rattle.std.specs.Prelude.{Contains}
use Rattle.std.specs.List.{AllByRecursion}
use Rattle.std.specs.List.Sorted.{IsStrictlyIncreasing}
use Rattle.std.proofs.lemmas.Int.{ints}
use Rattle.std.proofs.lemmas.List.{length_push, get_or_default}
use Rattle.std.proofs.lemmas.List.Elements.{Contains-push, Contains-append_left, Contains-push_cases}
use Rattle.plain_laws.proofs.Lists.{all_append}
use Rattle.tin_base.specs.declared.frames.Frame.{Frame}
use Rattle.tin_base.specs.Triangulation.{Triangulation}
use Rattle.tin_base.specs.Soundness.{turn_in}
use Rattle.tin_check.specs.Faults.{frame_rank, IsLowerRank}
use Rattle.tin_faults.specs.declared.faults.Fault.{Fault}
use Rattle.tin_faults.specs.declared.faults.Fault.TheVariants.{Flat, TurnsOver, Overlap}
use Rattle.tin_faults.specs.Faults.{IsFaultOf, rank_of, IsBefore, AreInOrder, AreFaults, HasMoreFaults}
use Rattle.tin_faults.specs.InsideProgress.{HasFaultsBefore, IsPassed, IsTurnFault, DoListOverlaps, triangle_key, pair_key}
use Rattle.tin_faults.proofs.Ranks.{lower_trans, none_first, all_last, IsOfTriangle, triangle_split, triangle_on, triangles_end}
use Rattle.tin_faults.proofs.Ranks.{triangles_over, pairs_begin, pair_split, pair_on, IsFrom, seconds_split, first_split, first_on}
use Rattle.tin_faults.proofs.Ranks.{pairs_end, pairs_over, triangle_first}
use Rattle.tin_check.proofs.CallerLemmas.Progress.{rises_on}

-- ---- lists
pub contains_later : {X : Type 0} → (x y : X) (xs : List X) → Contains xs y → Contains (x ∷ xs) y
contains_later x y xs h = (suc h.0, (let inside = h.1 in omega arith), h.2)

-- what holds of each element
pub each_of : {X : Type 0} → (P : X → Type 0) (xs : List X) → ((x : X) → Contains xs x → P x) → AllByRecursion P xs
each_of P [] h = tt
each_of P (x ∷ xs) h = (h x (0, omega arith, refl), each_of P xs (λ y i. h y (contains_later x y xs i)))

order_push : (faults : List Fault) (fault : Fault) → AreInOrder faults → AllByRecursion (λ other. IsBefore other fault) faults
    → AreInOrder (faults ++ fault ∷ [])
order_push [] fault order before = (tt, tt)
order_push (first ∷ faults) fault order before = grind (arith, all_append, order_push faults fault order.1 before.1)

-- ---- nothing is passed
pub nothing_yet : (tin : Triangulation) → HasFaultsBefore tin (triangle_key 0 0) []
nothing_yet tin = grind (arith, none_first)

-- a later key before which there are no more faults
pub advanced : (tin : Triangulation) (key later : List ℕ) (faults : List Fault) → HasFaultsBefore tin key faults
    → IsLowerRank key later → ((fault : Fault) → IsFaultOf tin fault → IsPassed later fault → IsPassed key fault)
    → HasFaultsBefore tin later faults
advanced tin key later faults has on none = grind (arith, lower_trans)

-- one fault more
extended : (tin : Triangulation) (key later : List ℕ) (faults more : List Fault) (fault : Fault)
    → HasFaultsBefore tin key faults → IsFaultOf tin fault
    → ((other : Fault) → IsPassed key other → IsBefore other fault) → IsPassed later fault → IsLowerRank key later
    → ((other : Fault) → IsFaultOf tin other → IsPassed later other → IsPassed key other ⊎ (other ≡ fault))
    → more ≡ faults ++ fault ∷ [] → HasFaultsBefore tin later more
extended tin key later faults more fault has is before passed on one same =
    subst (λ (fs : List Fault). HasFaultsBefore tin later fs) (sym same) (record {
      in_order = grind (arith, order_push, each_of);
      each = λ other h. old_or_new other (Contains-push_cases faults fault other h);
      all = λ other of h. found other of (one other of h);
    })
  where
    old_or_new : (other : Fault) → Contains faults other ⊎ (fault ≡ other) → IsFaultOf tin other × IsPassed later other
    old_or_new other (inl h) =
        ((has.each other h).0, lower_trans (rank_of other) key later (has.each other h).1 on)
    old_or_new other (inr e) = (grind arith)

    found : (other : Fault) → IsFaultOf tin other → IsPassed key other ⊎ (other ≡ fault)
        → Contains (faults ++ fault ∷ []) other
    found other of (inl h) = Contains-append_left faults (fault ∷ []) other (has.all other of h)
    found other of (inr e) = subst (λ (f : Fault). Contains (faults ++ fault ∷ []) f) (sym e) (Contains-push faults fault)

-- and there is no room for it
too_many : (tin : Triangulation) (key : List ℕ) (faults : List Fault) (fault : Fault) (most : ℕ)
    → HasFaultsBefore tin key faults → IsFaultOf tin fault
    → ((other : Fault) → IsPassed key other → IsBefore other fault) → most ≤ length faults → HasMoreFaults tin most
too_many tin key faults fault most has is before full =
    grind (arith, order_push, each_of, all_append, length_push faults fault)

-- ---- one triangle
-- where its fault is in the order
turn_rank : (tin : Triangulation) (frame : Frame) (t : ℕ) (fault : Fault) → IsTurnFault tin frame t (Some fault)
    → rank_of fault ≡ triangle_key (frame_rank frame) t
turn_rank tin frame t fault is = grind arith

turn_before : (tin : Triangulation) (frame : Frame) (t : ℕ) (fault : Fault) → IsTurnFault tin frame t (Some fault)
    → (other : Fault) → IsPassed (triangle_key (frame_rank frame) t) other → IsBefore other fault
turn_before tin frame t fault is other h =
    subst (λ (key : List ℕ). IsLowerRank (rank_of other) key) (sym (turn_rank tin frame t fault is)) h

both_signs : (z : ℤ) → z ≡ pos 0 → z <ℤ pos 0 → ⊥
both_signs z e h = absurd (omega (arith, ints))

not_positive : (z : ℤ) → pos 0 <ℤ z → z <ℤ pos 0 → ⊥
not_positive z e h = absurd (omega (arith, ints))

not_zero : (z : ℤ) → pos 0 <ℤ z → z ≡ pos 0 → ⊥
not_zero z e h = absurd (omega (arith, ints))

-- a fault of a triangle says as much of its turn
turn_says : (tin : Triangulation) (frame : Frame) (t : ℕ) (other : Fault) → IsFaultOf tin other → IsOfTriangle frame t other
    → ((other ≡ Flat frame t) × (turn_in tin frame t ≡ pos 0)) ⊎ ((other ≡ TurnsOver frame t) × (turn_in tin frame t <ℤ pos 0))
turn_says tin frame t other is h = grind arith

one_of_turn : (tin : Triangulation) (frame : Frame) (t : ℕ) (fault other : Fault) → IsTurnFault tin frame t (Some fault)
    → ((other ≡ Flat frame t) × (turn_in tin frame t ≡ pos 0)) ⊎ ((other ≡ TurnsOver frame t) × (turn_in tin frame t <ℤ pos 0))
    → other ≡ fault
one_of_turn tin frame t fault other is h = grind (arith, both_signs)

pub turn_added : (tin : Triangulation) (frame : Frame) (t : ℕ) (faults more : List Fault) (fault : Fault)
    → HasFaultsBefore tin (triangle_key (frame_rank frame) t) faults → IsTurnFault tin frame t (Some fault)
    → more ≡ faults ++ fault ∷ [] → HasFaultsBefore tin (triangle_key (frame_rank frame) (t + 1)) more
turn_added tin frame t faults more fault has is same =
    extended tin (triangle_key (frame_rank frame) t) (triangle_key (frame_rank frame) (t + 1)) faults more fault has is.1
    (turn_before tin frame t fault is)
    (grind (arith, turn_rank, triangle_on))
    (triangle_on (frame_rank frame) t) (λ other of h. go other of (triangle_split frame t other h)) same
  where
    go : (other : Fault) → IsFaultOf tin other → IsPassed (triangle_key (frame_rank frame) t) other ⊎ IsOfTriangle frame t other
        → IsPassed (triangle_key (frame_rank frame) t) other ⊎ (other ≡ fault)
    go other of (inl h) = inl h
    go other of (inr h) = inr (one_of_turn tin frame t fault other is (turn_says tin frame t other of h))

pub turn_full : (tin : Triangulation) (frame : Frame) (t : ℕ) (faults : List Fault) (fault : Fault) (most : ℕ)
    → HasFaultsBefore tin (triangle_key (frame_rank frame) t) faults → IsTurnFault tin frame t (Some fault)
    → most ≤ length faults → HasMoreFaults tin most
turn_full tin frame t faults fault most has is full =
    too_many tin (triangle_key (frame_rank frame) t) faults fault most has is.1 (turn_before tin frame t fault is) full

pub turn_fine : (tin : Triangulation) (frame : Frame) (t : ℕ) (faults : List Fault)
    → HasFaultsBefore tin (triangle_key (frame_rank frame) t) faults → pos 0 <ℤ turn_in tin frame t
    → HasFaultsBefore tin (triangle_key (frame_rank frame) (t + 1)) faults
turn_fine tin frame t faults has positive =
    grind (arith, advanced, triangle_on, triangle_split, not_zero, not_positive, IsOfTriangle, turn_says)

-- all triangles of a frame
pub turns_done : (tin : Triangulation) (c n : ℕ) (faults : List Fault) → length tin.triangles ≤ n
    → HasFaultsBefore tin (triangle_key c n) faults → HasFaultsBefore tin (triangle_key (c + 1) 0) faults
turns_done tin c n faults past has = advanced tin (triangle_key c n) (triangle_key (c + 1) 0) faults has
    (triangles_over c n) (λ fault is h. triangles_end tin c n fault past is h)

pub pairs_next : (tin : Triangulation) (faults : List Fault) → HasFaultsBefore tin (triangle_key 2 0) faults
    → HasFaultsBefore tin (pair_key 0 0 0) faults
pairs_next tin faults has = advanced tin (triangle_key 2 0) (pair_key 0 0 0) faults has (triangle_first 2 0 0 0 0)
    (λ fault is h. pairs_begin fault h)

-- ---- one pair
pub pair_added : (tin : Triangulation) (frame : Frame) (a b : ℕ) (faults more : List Fault)
    → HasFaultsBefore tin (pair_key (frame_rank frame) a b) faults → IsFaultOf tin (Overlap frame a b)
    → more ≡ faults ++ Overlap frame a b ∷ [] → HasFaultsBefore tin (pair_key (frame_rank frame) a (b + 1)) more
pair_added tin frame a b faults more has is same =
    extended tin (pair_key (frame_rank frame) a b) (pair_key (frame_rank frame) a (b + 1)) faults more
    (Overlap frame a b) has is (λ other h. h) (pair_on (frame_rank frame) a b (b + 1) (omega arith))
    (pair_on (frame_rank frame) a b (b + 1) (omega arith)) (λ other of h. pair_split frame a b other h) same

pub pair_full : (tin : Triangulation) (frame : Frame) (a b : ℕ) (faults : List Fault) (most : ℕ)
    → HasFaultsBefore tin (pair_key (frame_rank frame) a b) faults → IsFaultOf tin (Overlap frame a b)
    → most ≤ length faults → HasMoreFaults tin most
pair_full tin frame a b faults most has is full =
    too_many tin (pair_key (frame_rank frame) a b) faults (Overlap frame a b) most has is (λ other h. h) full

pub pair_fine : (tin : Triangulation) (frame : Frame) (a b : ℕ) (faults : List Fault)
    → HasFaultsBefore tin (pair_key (frame_rank frame) a b) faults → (IsFaultOf tin (Overlap frame a b) → ⊥)
    → HasFaultsBefore tin (pair_key (frame_rank frame) a (b + 1)) faults
pair_fine tin frame a b faults has none = grind (arith, advanced, pair_on, pair_split)

-- ---- along a list of second numbers
-- the number after the n-th before it, or 0
abbrev pub past : List ℕ → ℕ → ℕ
past ns zero = 0
past ns (suc n) = get_or ns n 0 + 1

pub past_next : (ns : List ℕ) (n : ℕ) → past ns (n + 1) ≡ get_or ns n 0 + 1
past_next ns n = let same : n + 1 ≡ suc n = omega arith in ap (λ (m : ℕ). past ns m) same

rises : (ns : List ℕ) (i j : ℕ) → IsStrictlyIncreasing ns → j < length ns → i ≤ j → get_or ns i 0 ≤ get_or ns j 0
rises ns i j up within h = grind (arith, rises_on ns i (j - i) up (omega arith))

-- a number of the list that is not below what is passed is not before the n-th place
from_place : (ns : List ℕ) (n j u : ℕ) → IsStrictlyIncreasing ns → n ≤ length ns → j < length ns → get_or ns j 0 ≡ u
    → past ns n ≤ u → n ≤ j
from_place ns n j u up within inside e h = grind (arith, rises)

pub to_second : (tin : Triangulation) (frame : Frame) (a n : ℕ) (seconds : List ℕ) (faults : List Fault)
    → IsStrictlyIncreasing seconds → DoListOverlaps tin frame a seconds → n < length seconds
    → HasFaultsBefore tin (pair_key (frame_rank frame) a (past seconds n)) faults
    → HasFaultsBefore tin (pair_key (frame_rank frame) a (get_or seconds n 0)) faults
to_second tin frame a n seconds faults up lists within has = go (split (past seconds n) (get_or seconds n 0))
  where
    split : (m k : ℕ) → (m < k) ⊎ (k ≤ m)
    split m k = grind arith

    none : (second : ℕ) → IsFaultOf tin (Overlap frame a second) → past seconds n ≤ second → second < get_or seconds n 0 → ⊥
    none second is from below =
        let h = lists second is in
        let e : get_or seconds h.0 0 ≡ second = get_or_default seconds h.0 0 second h.1 ∙ h.2 in
        let place = from_place seconds n h.0 second up (omega arith) h.1 e from in
        let high = rises seconds n h.0 up h.1 place in
        absurd (omega arith)

    passed : (fault : Fault) → IsFaultOf tin fault
        → IsPassed (pair_key (frame_rank frame) a (past seconds n)) fault
        ⊎ ((i : IsFrom frame a (past seconds n) fault) × (i.second < get_or seconds n 0))
        → IsPassed (pair_key (frame_rank frame) a (past seconds n)) fault
    passed fault is (inl h) = h
    passed fault is (inr (i, h)) =
        absurd (none i.second (subst (λ (f : Fault). IsFaultOf tin f) i.is is) i.from h)

    same_key : (n m : ℕ) → past seconds n ≤ m → m ≤ past seconds n → past seconds n ≡ m
    same_key n m h k = omega arith

    low : (n : ℕ) → n < length seconds → past seconds n ≤ get_or seconds n 0
    low zero h = omega arith
    low (suc n) h = grind arith

    go : (past seconds n < get_or seconds n 0) ⊎ (get_or seconds n 0 ≤ past seconds n)
        → HasFaultsBefore tin (pair_key (frame_rank frame) a (get_or seconds n 0)) faults
    go (inl h) = grind (arith, advanced, pair_on, passed, seconds_split)
    go (inr h) = grind (arith, same_key, low)

pub seconds_done : (tin : Triangulation) (frame : Frame) (a n : ℕ) (seconds : List ℕ) (faults : List Fault)
    → IsStrictlyIncreasing seconds → DoListOverlaps tin frame a seconds → n ≡ length seconds
    → HasFaultsBefore tin (pair_key (frame_rank frame) a (past seconds n)) faults
    → HasFaultsBefore tin (pair_key (frame_rank frame) (a + 1) 0) faults
seconds_done tin frame a n seconds faults up lists all has =
    advanced tin (pair_key (frame_rank frame) a (past seconds n)) (pair_key (frame_rank frame) (a + 1) 0) faults has
    (first_on (frame_rank frame) a (past seconds n))
    (λ fault is k. passed fault is (first_split frame a (past seconds n) fault k))
  where
    none : (second : ℕ) → IsFaultOf tin (Overlap frame a second) → past seconds n ≤ second → ⊥
    none second is from =
        let h = lists second is in
        let e : get_or seconds h.0 0 ≡ second = get_or_default seconds h.0 0 second h.1 ∙ h.2 in
        let place = from_place seconds n h.0 second up (omega arith) h.1 e from in
        let inside = h.1 in
        absurd (omega arith)

    passed : (fault : Fault) → IsFaultOf tin fault → IsPassed (pair_key (frame_rank frame) a (past seconds n)) fault
        ⊎ IsFrom frame a (past seconds n) fault → IsPassed (pair_key (frame_rank frame) a (past seconds n)) fault
    passed fault is (inl h) = h
    passed fault is (inr i) = absurd (none i.second (subst (λ (f : Fault). IsFaultOf tin f) i.is is) i.from)

-- all pairs of a frame
pub pairs_done : (tin : Triangulation) (c n : ℕ) (faults : List Fault) → length tin.triangles ≤ n
    → HasFaultsBefore tin (pair_key c n 0) faults → HasFaultsBefore tin (pair_key (c + 1) 0 0) faults
pairs_done tin c n faults past has = advanced tin (pair_key c n 0) (pair_key (c + 1) 0 0) faults has
    (pairs_over c n) (λ fault is h. pairs_end tin c n fault past is h)

pub all_done : (tin : Triangulation) (faults : List Fault) → HasFaultsBefore tin (pair_key 2 0 0) faults
    → AreFaults tin faults
all_done tin faults has = grind (arith, all_last)
