-- Runs over a part of the bytes, a byte and a part further on.
use Rattle.std.proofs.Common.{◌≡◌, ℕ, ◌+◌, ◌-◌, ◌<◌, ◌≤◌, List, [], ◌∷◌, ◌++◌, length, take, drop, get_or, sym, ap, ◌∙◌}
use Rattle.std.proofs.Common.{arith}
use Rattle.std.specs.Prelude.{Option, Some, None, slice_range, slice_index, option_and_then, IsSomeAnd}
use Rattle.std.specs.List.{AllByRecursion}
use Rattle.std.proofs.lemmas.List.{take_at, length-take-le, length-drop, length-append, drop-drop, append_assoc}
use Rattle.std.proofs.lemmas.List.Edits.{between_none, between_more, split_between, length-between}
use Rattle.std.proofs.lemmas.Option.{none-some}
use Rattle.text_places.specs.Machine.{run}
use Rattle.text_places.proofs.Runs.{run_on, run_next}

-- the front and a part after it
pub front_part : {A : Type 0} (xs : List A) (from to : ℕ) → from ≤ to → to ≤ length xs
    → take from xs ++ slice_range xs from to ≡ take to xs
front_part {A} xs from to below within =
    let whole : (take from xs ++ slice_range xs from to) ++ drop to xs ≡ xs =
    append_assoc (take from xs) (slice_range xs from to) (drop to xs) ∙ sym (split_between xs from to below) in
    let long : length (take from xs ++ slice_range xs from to) ≡ to =
    simp (length-append) (omega (arith, length-take-le from xs (omega arith), length-between xs from to within)) in
    sym (take_at (take from xs ++ slice_range xs from to) (drop to xs) to long) ∙ ap (take to) whole

-- two parts, one after the other
two_parts : {A : Type 0} (xs : List A) (from middle to : ℕ) → from ≤ middle → middle ≤ to → to ≤ length xs
    → slice_range xs from middle ++ slice_range xs middle to ≡ slice_range xs from to
two_parts xs from middle to a b c =
    let there : drop (middle - from) (drop from xs) ≡ drop middle xs = drop-drop (middle - from) from xs
    ∙ ap (λ (n : ℕ). drop n xs) (omega arith) in
    let long : (to - from) - (middle - from) ≡ to - middle = omega arith in
    ap (λ (part : List _). slice_range xs from middle ++ part)
    (sym (ap (λ (n : ℕ). take n (drop (middle - from) (drop from xs))) long ∙ ap (take (to - middle)) there))
    ∙ front_part (drop from xs) (middle - from) (to - from) (omega arith) (omega (arith, length-drop from xs))

module _ {S : Type 0} (step : S → ℕ → Option S) (first : S) (xs : List ℕ) (from : ℕ) where
  pub passes_none : run step first (slice_range xs from from) ≡ Some first
  passes_none = ap (run step first) (between_none xs from)

  pub passes_more : (i : ℕ) (was next : S) → from ≤ i → i < length xs
      → run step first (slice_range xs from i) ≡ Some was
      → step was (slice_index xs i) ≡ Some next → run step first (slice_range xs from (i + 1)) ≡ Some next
  passes_more i was next below within here more =
      ap (run step first) (between_more xs from i 0 below within)
      ∙ run_next step first was (slice_range xs from i) (get_or xs i 0) here ∙ more

  pub passes_on : (middle to : ℕ) (was next : S) → from ≤ middle → middle ≤ to → to ≤ length xs
      → run step first (slice_range xs from middle) ≡ Some was
      → run step was (slice_range xs middle to) ≡ Some next → run step first (slice_range xs from to) ≡ Some next
  passes_on middle to was next a b c here more =
      ap (run step first) (sym (two_parts xs from middle to a b c))
      ∙ run_on step first was (slice_range xs from middle) (slice_range xs middle to) here ∙ more

-- a fact of each byte of a part, and of one more
all_push : (P : ℕ → Type 0) (xs : List ℕ) (x : ℕ) → AllByRecursion P xs → P x → AllByRecursion P (xs ++ x ∷ [])
all_push P [] x all here = (here, tt)
all_push P (y ∷ xs) x all here = (all.0, all_push P xs x all.1 here)

pub all_more : (P : ℕ → Type 0) (xs : List ℕ) (from i : ℕ) → from ≤ i → i < length xs
    → AllByRecursion P (slice_range xs from i) → P (slice_index xs i)
    → AllByRecursion P (slice_range xs from (i + 1))
all_more P xs from i below within all here = grind (arith, between_more, all_push, get_or)

-- the next step of a run, and what is known of it
pub some_next : {S : Type 0} (o : Option S) (f : S → Option S) (last : S) → option_and_then f o ≡ Some last
    → IsSomeAnd o (λ next. f next ≡ Some last)
some_next None f last h = absurd (none-some last h)
some_next (Some next) f last h = h

pub some_more : {S : Type 0} (o : Option S) (P Q : S → Type 0) → ((next : S) → P next → Q next) → IsSomeAnd o P
    → IsSomeAnd o Q
some_more None P Q more h = absurd h
some_more (Some next) P Q more h = more next h
