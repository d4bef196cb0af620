-- There is one list of all faults, it is empty where the triangulation is sound, and it has the fault that a check names.
use Rattle.std.proofs.Common.{◌≡◌, ◌⊎◌, inl, inr, ℕ, zero, suc, ◌<◌, ◌≤◌, ℤ, pos, ◌<ℤ◌, List, [], ◌∷◌, length}
use Rattle.std.proofs.Common.{refl, sym, ap₂, subst, arith}
use Rattle.std.specs.Prelude.{Contains}
use Rattle.std.specs.List.{AllByRecursion}
use Rattle.std.proofs.lemmas.Int.{ints}
use Rattle.tin_base.specs.declared.frames.Frame.{Frame}
use Rattle.tin_base.specs.declared.frames.Frame.TheVariants.{Source, Target}
use Rattle.tin_base.specs.Triangulation.{Triangulation}
use Rattle.tin_base.specs.Soundness.{turn_in, IsSound}
use Rattle.tin_check.specs.declared.faults.CheckFault.{CheckFault}
use Rattle.tin_check.specs.declared.faults.CheckFault.TheVariants as checks
use Rattle.tin_check.specs.Faults.{IsLowerRank, IsFirstFault, OutcomeExists}
use Rattle.tin_faults.specs.declared.faults.Fault.{Fault}
use Rattle.tin_faults.specs.declared.faults.Fault.TheVariants.{Flat, TurnsOver, Overlap}
use Rattle.tin_faults.specs.Faults.{IsFaultOf, rank_of, IsBefore, AreInOrder, AreFaults, HasMoreFaults}
use Rattle.tin_faults.specs.Laws.{FaultsAreOne, NoneAreSound, HasFirst, FirstIsListed, ListsAreCounted}
use Rattle.tin_faults.proofs.Ranks.{lower_trans}
use Rattle.tin_faults.proofs.Growth.{contains_later, each_of}

lower_self : (ns : List ℕ) → IsLowerRank ns ns → ⊥
lower_self [] h = absurd h
lower_self (n ∷ ns) (inl h) = absurd (omega arith)
lower_self (n ∷ ns) (inr (e, h)) = lower_self ns h

never_both : (fault other : Fault) → IsBefore fault other → IsBefore other fault → ⊥
never_both fault other h i =
    lower_self (rank_of fault) (lower_trans (rank_of fault) (rank_of other) (rank_of fault) h i)

-- ---- members
no_member : {X : Type 0} → (x : X) → Contains [] x → ⊥
no_member x h = let inside = h.1 in absurd (omega arith)

first_or_later : {X : Type 0} → (x y : X) (xs : List X) → Contains (x ∷ xs) y → (x ≡ y) ⊎ Contains xs y
first_or_later x y xs e = grind arith

of_member : {X : Type 0} → (P : X → Type 0) (xs : List X) (x : X) → AllByRecursion P xs → Contains xs x → P x
of_member P [] x all h = absurd (no_member x h)
of_member P (y ∷ xs) x all h = grind (arith, first_or_later, of_member P xs x all.1)

first_is : {X : Type 0} → (x : X) (xs : List X) → Contains (x ∷ xs) x
first_is x xs = (0, omega arith, refl)

-- ---- one list
-- of two lists in order the members of the rest, where the first ones are the same
rest_has : (first : Fault) (faults others : List Fault) → AllByRecursion (λ other. IsBefore first other) faults
    → ((fault : Fault) → Contains (first ∷ faults) fault → Contains (first ∷ others) fault)
    → (fault : Fault) → Contains faults fault → Contains others fault
rest_has first faults others before has fault h =
    go (first_or_later first fault others (has fault (contains_later first fault faults h)))
  where
    go : (first ≡ fault) ⊎ Contains others fault → Contains others fault
    go (inl e) = absurd (lower_self (rank_of fault) (subst (λ (f : Fault). IsBefore f fault) e
        (of_member (λ other. IsBefore first other) faults fault before h)))
    go (inr i) = i

one_list : (faults others : List Fault) → AreInOrder faults → AreInOrder others
    → ((fault : Fault) → Contains faults fault → Contains others fault)
    → ((fault : Fault) → Contains others fault → Contains faults fault) → faults ≡ others
one_list [] [] order order' there back = refl
one_list [] (y ∷ ys) order order' there back = absurd (no_member y (back y (first_is y ys)))
one_list (x ∷ xs) [] order order' there back = absurd (no_member x (there x (first_is x xs)))
one_list (x ∷ xs) (y ∷ ys) order order' there back =
    go (first_or_later y x ys (there x (first_is x xs))) (first_or_later x y xs (back y (first_is y ys)))
    (λ t b. one_list xs ys order.1 order'.1 t b)
  where
    same : y ≡ x → (((fault : Fault) → Contains xs fault → Contains ys fault)
        → ((fault : Fault) → Contains ys fault → Contains xs fault) → xs ≡ ys) → x ∷ xs ≡ y ∷ ys
    same e rest = ap₂ (λ (f : Fault) (fs : List Fault). f ∷ fs) (sym e) (rest
        (rest_has x xs ys order.0 (λ fault h. subst (λ (f : Fault). Contains (f ∷ ys) fault) e (there fault h)))
        (rest_has y ys xs order'.0 (λ fault h. subst (λ (f : Fault). Contains (f ∷ xs) fault) (sym e) (back fault h))))

    go : (y ≡ x) ⊎ Contains ys x → (x ≡ y) ⊎ Contains xs y
        → (((fault : Fault) → Contains xs fault → Contains ys fault)
        → ((fault : Fault) → Contains ys fault → Contains xs fault) → xs ≡ ys) → x ∷ xs ≡ y ∷ ys
    go (inl e) w rest = same e rest
    go (inr h) (inl e) rest = same (sym e) rest
    go (inr h) (inr i) rest = absurd (never_both x y (of_member (λ other. IsBefore x other) xs y order.0 i)
        (of_member (λ other. IsBefore y other) ys x order'.0 h))

pub faults_one : FaultsAreOne
faults_one tin faults others is are =
    one_list faults others is.in_order are.in_order (λ fault h. (are.exact fault).1 ((is.exact fault).0 h))
    (λ fault h. (is.exact fault).1 ((are.exact fault).0 h))

-- ---- how many
no_longer : (others faults : List Fault) → AreInOrder others → AreInOrder faults
    → ((fault : Fault) → Contains faults fault → Contains others fault) → length faults ≤ length others
no_longer others [] order order' has = omega arith
no_longer [] (x ∷ xs) order order' has = absurd (no_member x (has x (first_is x xs)))
no_longer (y ∷ ys) (x ∷ xs) order order' has =
    go (first_or_later y x ys (has x (first_is x xs))) (λ h. no_longer ys xs order.1 order'.1 h)
    (λ h. no_longer ys (x ∷ xs) order.1 order' h)
  where
    go : (y ≡ x) ⊎ Contains ys x
        → (((fault : Fault) → Contains xs fault → Contains ys fault) → length xs ≤ length ys)
        → (((fault : Fault) → Contains (x ∷ xs) fault → Contains ys fault) → length (x ∷ xs) ≤ length ys)
        → length (x ∷ xs) ≤ length (y ∷ ys)
    go (inl e) shorter same =
        let h = shorter (rest_has x xs ys order'.0
        (λ fault i. subst (λ (f : Fault). Contains (f ∷ ys) fault) e (has fault i))) in
        omega arith
    go (inr h) shorter same = let i = same (λ fault k. other fault k (first_or_later y fault ys (has fault k))) in omega arith
      where
        before : IsBefore y x
        before = of_member (λ other. IsBefore y other) ys x order.0 h

        not_first : (fault : Fault) → y ≡ fault → (x ≡ fault) ⊎ Contains xs fault → ⊥
        not_first fault e (inl k) = grind (arith, lower_self, before)
        not_first fault e (inr k) = never_both fault x (subst (λ (f : Fault). IsBefore f x) e before)
            (of_member (λ other. IsBefore x other) xs fault order'.0 k)

        other : (fault : Fault) → Contains (x ∷ xs) fault → (y ≡ fault) ⊎ Contains ys fault → Contains ys fault
        other fault k (inl e) = absurd (not_first fault e (first_or_later x fault xs k))
        other fault k (inr i) = i

pub lists_counted : ListsAreCounted
lists_counted tin faults most is = (there, back)
  where
    there : HasMoreFaults tin most → most < length faults
    there h = let many = h.more in
        let fits = no_longer faults h.faults is.in_order h.in_order
        (λ fault i. (is.exact fault).1 (of_member (λ other. IsFaultOf tin other) h.faults fault h.each i)) in
        omega arith

    back : most < length faults → HasMoreFaults tin most
    back more = grind (arith, each_of)

-- ---- the first fault of a check
pub first_listed : FirstIsListed
first_listed tin faults (checks.Flat t frame) is first = (is.exact (Flat frame t)).1 first.is_one
first_listed tin faults (checks.TurnsOver t) is first = go first.is_one
  where
    go : (t < length tin.triangles) × ((turn_in tin Source t <ℤ pos 0) ⊎ (turn_in tin Target t <ℤ pos 0))
        → (frame : Frame) × Contains faults (TurnsOver frame t)
    go (within, inl h) = (Source, (is.exact (TurnsOver Source t)).1 (within, h))
    go (within, inr h) = (Target, (is.exact (TurnsOver Target t)).1 (within, h))
first_listed tin faults (checks.Meets t u frame) is first =
    (is.exact (Overlap frame t u)).1 (
      first.is_one.0,
      first.is_one.1,
      (λ e. first.none_before (checks.Flat t frame) (inl sooner) (omega (arith, first.is_one.0, first.is_one.1), e)),
      (λ e. first.none_before (checks.Flat u frame) (inl sooner) (first.is_one.1, e)),
      first.is_one.2,
    )
  where
    sooner : 0 < 1
    sooner = omega arith
first_listed tin faults checks.NoMemory is first = absurd first.is_one

-- ---- none
none_first : (fault : CheckFault) → HasFirst [] fault → ⊥
none_first fault h = grind (arith, no_member)

not_zero : (z : ℤ) → pos 0 <ℤ z → z ≡ pos 0 → ⊥
not_zero z h e = absurd (omega (arith, ints))

not_negative : (z : ℤ) → pos 0 <ℤ z → z <ℤ pos 0 → ⊥
not_negative z h k = absurd (omega (arith, ints))

none_of_sound : (tin : Triangulation) (fault : Fault) → IsSound tin → IsFaultOf tin fault → ⊥
none_of_sound tin (Flat frame t) sound is = not_zero (turn_in tin frame t) (sound.positive frame t is.0) is.1
none_of_sound tin (TurnsOver frame t) sound is = not_negative (turn_in tin frame t) (sound.positive frame t is.0) is.1
none_of_sound tin (Overlap frame t u) sound is =
    let order : t < u = is.0 in
    let within : u < length tin.triangles = is.1 in
    is.4 (sound.fit frame t u (λ same. absurd (omega arith)) (omega arith) within)

pub none_in_sound : (tin : Triangulation) → IsSound tin → AreFaults tin []
none_in_sound tin sound = grind (arith, no_member, none_of_sound)

pub sound_of_none : OutcomeExists → NoneAreSound
sound_of_none outcome tin = (λ none. there none (outcome tin), λ sound. none_in_sound tin sound)
  where
    there : AreFaults tin [] → IsSound tin ⊎ ((fault : CheckFault) × IsFirstFault tin fault) → IsSound tin
    there none (inl sound) = sound
    there none (inr (fault, first)) = absurd (none_first fault (first_listed tin [] fault none first))
