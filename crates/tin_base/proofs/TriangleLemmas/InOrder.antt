-- It is enough to look at each two triangles in one order: where neither is flat, they fit together either way round.
use Rattle.std.proofs.Common.{◌≡◌, ◌≢◌, ◌⊎◌, inl, inr, ℕ, ◌<◌, ◌≤◌, ℤ, pos, ◌<ℤ◌, Bool, true, false, ◌||◌, ◌&&◌, eqb}
use Rattle.std.proofs.Common.{List, [], ◌∷◌, length, sym, ◌∙◌, ap, ap₂, subst, refl, arith}
use Rattle.std.specs.List.{IsDistinct, AllByRecursion, filter, list_any}
use Rattle.std.specs.Cmp.{nat_eq_equiv}
use Rattle.std.proofs.lemmas.Bool.Decides.{eqb_tells}
use Rattle.std.proofs.lemmas.Bool.{eq-eqb, or_parts}
use Rattle.std.proofs.lemmas.Int.{ints}
use Rattle.std.proofs.lemmas.Map.Made.{is_member-filter, length-from_same_keys}
use Rattle.std.proofs.lemmas.Map.Keys.{IsDistinct-cons, IsDistinct-from_apart}
use Rattle.plane_base.specs.Plane.{Point, turn_of, IsMix}
use Rattle.plane_base.proofs.MixLaws.Turns.{turn_cycle, turn_twice}
use Rattle.tin_base.specs.declared.frames.Frame.{Frame}
use Rattle.tin_base.specs.Triangulation.{Triangulation, place, corner_at, numbers_of, places}
use Rattle.tin_base.specs.Soundness.{turn_of_three, turn_in, has, common, common_of, DoFit, IsSound}
use Rattle.tin_base.proofs.FrameImages.Weights.{HasAll}
use Rattle.tin_base.proofs.FrameImages.Alike.{alike_of, alike_in, alike_more}

-- ---- what two lists have in common does not depend on their order
has_is_any : (ns : List ℕ) (k : ℕ) → has ns k ≡ list_any (eqb k) ns
has_is_any [] k = refl
has_is_any (n ∷ ns) k = ap₂ (λ a b. a || b) (nat_eq_equiv.symm n k) (has_is_any ns k)

same_test : (ns : List ℕ) (q x : ℕ) → eqb q x ≡ true → has ns q ≡ has ns x
same_test ns q x e = grind (arith, eqb_tells)

in_common : (ks ns : List ℕ) (q : ℕ) → list_any (eqb q) (common ks ns) ≡ (has ks q && has ns q)
in_common ks ns q = is_member-filter nat_eq_equiv (has ns) q (λ x e. same_test ns q x e) ks
    ∙ ap (λ (b : Bool). b && has ns q) (sym (has_is_any ks q))

either_order : (a b : Bool) → (a && b) ≡ (b && a)
either_order true true = refl
either_order false true = refl
either_order a b = refl

common_exchanged : (ks ns : List ℕ) (q : ℕ) → list_any (eqb q) (common ks ns) ≡ list_any (eqb q) (common ns ks)
common_exchanged ks ns q = in_common ks ns q ∙ either_order (has ks q) (has ns q) ∙ sym (in_common ns ks q)

-- no number is one of those after it
abbrev AreDifferent : List ℕ → Type 0
AreDifferent [] = Unit {0}
AreDifferent (n ∷ ns) = (has ns n ≡ false) × AreDifferent ns

each_apart : (k : ℕ) (ns : List ℕ) → has ns k ≡ false → AllByRecursion (λ n. eqb k n ≡ false) ns
each_apart k [] e = tt
each_apart k (n ∷ ns) e = let h = or_parts (eqb n k) (has ns k) e in (nat_eq_equiv.symm k n ∙ h.0, each_apart k ns h.1)

distinct_of : (ns : List ℕ) → AreDifferent ns → IsDistinct eqb ns
distinct_of [] h = IsDistinct-from_apart eqb [] (λ i j d before within. absurd (omega arith))
distinct_of (n ∷ ns) h = IsDistinct-cons eqb n ns (each_apart n ns h.0) (distinct_of ns h.1)

none_kept : (test : ℕ → Bool) (ns : List ℕ) (k : ℕ) → has ns k ≡ false → has (filter test ns) k ≡ false
none_kept test [] k e = refl
none_kept test (n ∷ ns) k e = grind (arith, or_parts, (none_kept test ns k))

different_kept : (test : ℕ → Bool) (ns : List ℕ) → AreDifferent ns → AreDifferent (filter test ns)
different_kept test [] h = tt
different_kept test (n ∷ ns) h = grind (arith, none_kept, (different_kept test ns h.1))

same_count : (ks ns : List ℕ) → AreDifferent ks → AreDifferent ns → length (common ks ns) ≡ length (common ns ks)
same_count ks ns d e =
    length-from_same_keys nat_eq_equiv (common ks ns) (common ns ks)
    (distinct_of (common ks ns) (different_kept (has ns) ks d))
    (distinct_of (common ns ks) (different_kept (has ks) ns e)) (common_exchanged ks ns)

pub has_all : (ns ks : List ℕ) → ((k : ℕ) → has ks k ≡ true → has ns k ≡ true) → HasAll ns ks
has_all ns [] h = tt
has_all ns (k ∷ ks) h = grind (arith, eq-eqb, (has_all ns ks))

has_all_exchanged : (ks ns : List ℕ) → HasAll (common ns ks) (common ks ns)
has_all_exchanged ks ns = has_all (common ns ks) (common ks ns)
    (λ k e. has_is_any (common ns ks) k ∙ sym (common_exchanged ks ns k) ∙ sym (has_is_any (common ks ns) k) ∙ e)

-- ---- the corners of a triangle that is not flat are different
not_flat : (z : ℤ) → z ≡ pos 0 → pos 0 <ℤ z → ⊥
not_flat z e h = absurd (omega (arith, ints))

no_twice : (at : ℕ → Point) (i j k : ℕ) → pos 0 <ℤ turn_of (at i) (at j) (at k) → eqb j i ≡ false
no_twice at i j k h = grind (arith, eqb_tells, not_flat, turn_twice)

different : (at : ℕ → Point) (i j k : ℕ) → pos 0 <ℤ turn_of (at i) (at j) (at k) → AreDifferent (i ∷ j ∷ k ∷ [])
different at i j k h =
    let ij = no_twice at i j k h in
    let jk = no_twice at j k i (subst (λ (z : ℤ). pos 0 <ℤ z) (turn_cycle (at i) (at j) (at k)) h) in
    let ki = no_twice at k i j (subst (λ (z : ℤ). pos 0 <ℤ z) (sym (turn_cycle (at k) (at i) (at j))) h) in
    (neither (eqb j i) (eqb k i) ij (nat_eq_equiv.symm k i ∙ ki), (neither (eqb k j) false jk refl, (refl, tt)))
  where
    neither : (a b : Bool) → a ≡ false → b ≡ false → (a || (b || false)) ≡ false
    neither a b e f = cc

different_of_turn : (tin : Triangulation) (frame : Frame) (ns : List ℕ) → pos 0 <ℤ turn_of_three (places tin frame ns)
    → AreDifferent ns
different_of_turn tin frame [] h = tt
different_of_turn tin frame (i ∷ []) h = (refl, tt)
different_of_turn tin frame (i ∷ j ∷ k ∷ []) h = different (λ n. place frame (corner_at tin n)) i j k h
different_of_turn tin frame ns h = absurd (not_flat (pos 0) refl h)

-- ---- two triangles, the other way round
pub mix_more : (tin : Triangulation) (frame : Frame) (ns ks : List ℕ) (p : Point) → HasAll ns ks
    → IsMix p (places tin frame ks) → IsMix p (places tin frame ns)
mix_more tin frame ns ks p h m = let q = alike_of tin frame ks p m in alike_in tin frame ns p q.0
    (alike_more tin frame ns ks p q.0 h q.2)

pub fit_exchanged : (tin : Triangulation) (frame : Frame) (t u : ℕ) → pos 0 <ℤ turn_in tin frame t
    → pos 0 <ℤ turn_in tin frame u → DoFit tin frame t u → DoFit tin frame u t
fit_exchanged tin frame t u ht hu fit =
    let ts = numbers_of tin t in let us = numbers_of tin u in
    record {
      two_common = subst (λ (n : ℕ). n ≤ 2) (same_count ts us (different_of_turn tin frame ts ht)
          (different_of_turn tin frame us hu)) fit.two_common;
      meet = λ p hp in_u in_t. mix_more tin frame (common_of tin u t) (common_of tin t u) p (has_all_exchanged ts us)
          (fit.meet p hp in_t in_u);
    }

-- it is enough to look at each pair once
pub sound_of_pairs : (tin : Triangulation)
    → ((frame : Frame) (t : ℕ) → t < length tin.triangles → pos 0 <ℤ turn_in tin frame t)
    → ((frame : Frame) (t u : ℕ) → t < u → u < length tin.triangles → DoFit tin frame t u) → IsSound tin
sound_of_pairs tin positive fit = record {
  positive = positive;
  fit =
      λ frame t u differ ht hu. go frame t u ht hu (first_or_second t u differ);
}
  where
    first_or_second : (t u : ℕ) → t ≢ u → (t < u) ⊎ (u < t)
    first_or_second t u differ = grind arith

    go : (frame : Frame) (t u : ℕ) → t < length tin.triangles → u < length tin.triangles → (t < u) ⊎ (u < t)
        → DoFit tin frame t u
    go frame t u ht hu (inl below) = fit frame t u below hu
    go frame t u ht hu (inr below) = fit_exchanged tin frame u t (positive frame u hu) (positive frame t ht)
        (fit frame u t below ht)
