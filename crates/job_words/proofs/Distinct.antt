-- Texts are distinct where none equals one before it.
use Rattle.std.proofs.Common.{◌≡◌, ◌≢◌, ◌+◌, ℕ, List, [], ◌∷◌, ◌++◌, Bool, true, false, Option, Some, None, cond}
use Rattle.std.proofs.Common.{length, take, refl, sym, ap, ◌∙◌, append_assoc, option_map, subst, true≢false}
use Rattle.std.specs.Prelude.{find}
use Rattle.std.specs.List.{AllByRecursion, enumerate_from, list_any}
use Rattle.std.specs.Str.{bytes_eq}
use Rattle.std.proofs.Math.Seq.{take-append_seam}
use Rattle.std.proofs.lemmas.List.{length-append}
use Rattle.std.proofs.lemmas.Slice.Eq.{bytes_eq-Decides}
use Rattle.job_words.specs.Names.{first_again, stands_before}
use Rattle.job_words.specs.JobFields.{AreDistinct}
use Rattle.std.proofs.lemmas.Bool.{or_parts}

-- each text is none of those before it
abbrev AreFresh : List (List ℕ) → List (List ℕ) → Type 0
AreFresh before [] = Unit {0}
AreFresh before (text ∷ texts) = (list_any (bytes_eq text) before ≡ false) × AreFresh (before ++ text ∷ []) texts

nothing-found : {X : Type 0} (test : X → Bool) (x : X) (xs : List X) → find test (x ∷ xs) ≡ None
    → (test x ≡ false) × (find test xs ≡ None)
nothing-found test x xs none = go (test x) none
  where
    go : (b : Bool) → cond b (Some x) (find test xs) ≡ None → (b ≡ false) × (find test xs ≡ None)
    go true e = absurd (cc)
    go false e = (refl, e)

fresh-behind : (before rest all : List (List ℕ)) → all ≡ before ++ rest
    → find (stands_before all) (enumerate_from (length before) rest) ≡ None → AreFresh before rest
fresh-behind before [] all is none = tt
fresh-behind before (text ∷ texts) all is none =
    let parts = nothing-found (stands_before all) (length before, text) (enumerate_from (length before + 1) texts)
    none in
    let front : take (length before) all ≡ before = ap (take (length before)) is
    ∙ take-append_seam before (text ∷ texts) in
    let more : length (before ++ text ∷ []) ≡ length before + 1 = length-append before (text ∷ []) in
    let again : all ≡ (before ++ text ∷ []) ++ texts = is ∙ sym (append_assoc before (text ∷ []) texts) in (
      ap (list_any (bytes_eq text)) (sym front) ∙ parts.0,
      fresh-behind (before ++ text ∷ []) texts all again
          (ap (λ n. find (stands_before all) (enumerate_from n texts)) more ∙ parts.1),
    )

-- a text differs from those that it is not among
differs-from : (text : List ℕ) (before : List (List ℕ)) → list_any (bytes_eq text) before ≡ false
    → AllByRecursion (λ other. text ≢ other) before
differs-from text [] none = tt
differs-from text (other ∷ before) none =
    let parts = or_parts (bytes_eq text other) (list_any (bytes_eq text) before) none in
    (λ same. true≢false (sym ((bytes_eq-Decides text other).1 same) ∙ parts.0), differs-from text before parts.1)

-- what holds of all holds of one among others
at-middle : {X : Type 0} (P : X → Type 0) (before after : List X) (x : X) → AllByRecursion P (before ++ x ∷ after) → P x
at-middle P [] after x all = all.0
at-middle P (y ∷ before) after x all = at-middle P before after x all.1

-- texts after one differ from it
apart : (before after : List (List ℕ)) (text : List ℕ) (rest : List (List ℕ)) → AreFresh (before ++ text ∷ after) rest
    → AllByRecursion (λ other. other ≢ text) rest
apart before after text [] fresh = tt
apart before after text (other ∷ rest) fresh = (
  at-middle (λ seen. other ≢ seen) before after text (differs-from other (before ++ text ∷ after) fresh.0),
  apart before (after ++ other ∷ []) text rest
      (subst (λ seen. AreFresh seen rest) (append_assoc before (text ∷ after) (other ∷ [])) fresh.1),
)

fresh-distinct : (before rest : List (List ℕ)) → AreFresh before rest → AreDistinct rest
fresh-distinct before [] fresh = tt
fresh-distinct before (text ∷ texts) fresh =
    (apart before [] text texts fresh.1, fresh-distinct (before ++ text ∷ []) texts fresh.1)

pub nothing-made : {X Y : Type 0} (f : X → Y) (found : Option X) → option_map f found ≡ None → found ≡ None
nothing-made f None e = refl
nothing-made f (Some x) e = cc

-- texts are distinct where none equals one before it
pub distinct-texts : (texts : List (List ℕ)) → first_again texts ≡ None → AreDistinct texts
distinct-texts texts none = fresh-distinct [] texts (fresh-behind [] texts texts refl (nothing-made _ _ none))
