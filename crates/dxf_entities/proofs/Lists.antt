-- Fields found so far.
use Rattle.std.proofs.Common.{arith, ◌-◌, ◌+◌, ◌≡◌, List, [], ◌∷◌, ◌++◌, ◌<◌, ℕ, ℤ, pos, length, drop, get_or}
use Rattle.std.proofs.Common.{Bool, true, false, cond, refl, ap, ◌∙◌, Option, None, Some, Err}
use Rattle.std.specs.Prelude.{nat_lt, int_lt, filter, take_while, is_some, slice_get}
use Rattle.std.specs.List.{list_any}
use Rattle.std.proofs.lemmas.List.{drop_more}
use Rattle.std.proofs.lemmas.List.Sums.{take_while-cons}
use Rattle.sheet_base.specs.declared.faults.LayerFault.TheVariants.{Count}
use Rattle.dxf_pairs.specs.declared.pairs.Pair.{Pair}
use Rattle.dxf_entities.specs.Fields.{at_most_one}
use Rattle.dxf_entities.specs.Entities.{is_coded, past_pairs}

-- the list of one or none
abbrev pub list_of : Option Pair → List Pair
list_of None = []
list_of (Some pair) = pair ∷ []

-- one is among those that pass
pub some_pass : (p : Pair → Bool) (items : List Pair) → list_any p items ≡ nat_lt 0 (length (filter p items))
some_pass p [] = refl
some_pass p (item ∷ items) = grind (arith, (some_pass p items))

-- the fields of the code among an entity's pairs, or among those from a place on
abbrev pub coded_fields : ℤ → List Pair → List Pair
coded_fields code pairs = filter (is_coded code) (take_while (λ pair. int_lt pair.code (pos 1000)) pairs)

module _ (code : ℤ) (pairs : List Pair) (at : ℕ) (d : Pair) (within : at < length pairs)
    (small : int_lt (get_or pairs at d).code (pos 1000) ≡ true) where
  fields_on : coded_fields code (drop at pairs) ≡ filter (is_coded code)
      (get_or pairs at d ∷ take_while (λ pair. int_lt pair.code (pos 1000)) (drop (at + 1) pairs))
  fields_on = ap (filter (is_coded code)) (ap (take_while (λ pair. int_lt pair.code (pos 1000)))
      (drop_more pairs at d within)
      ∙ take_while-cons (λ pair. int_lt pair.code (pos 1000)) (get_or pairs at d) (drop (at + 1) pairs)
      ∙ ap (λ (here : Bool). cond here (get_or pairs at d
      ∷ take_while (λ pair. int_lt pair.code (pos 1000)) (drop (at + 1) pairs)) []) small)

  pub coded_on : is_coded code (get_or pairs at d) ≡ true
      → coded_fields code (drop at pairs) ≡ get_or pairs at d ∷ coded_fields code (drop (at + 1) pairs)
  coded_on here = fields_on ∙ rw here refl

  pub other_on : is_coded code (get_or pairs at d) ≡ false
      → coded_fields code (drop at pairs) ≡ coded_fields code (drop (at + 1) pairs)
  other_on here = fields_on ∙ rw here refl

-- one more field, where none was found, and where one was
pub first_found : (found : Option Pair) (pair : Pair) (rest all : List Pair) → list_of found ++ pair ∷ rest ≡ all
    → is_some found ≡ false → list_of (Some pair) ++ rest ≡ all
first_found None pair rest all is none = is
first_found (Some first) pair rest all is none = absurd (cc)

pub second_found : (found : Option Pair) (pair : Pair) (rest all : List Pair) → list_of found ++ pair ∷ rest ≡ all
    → is_some found ≡ true → Err (Count pair.line) ≡ at_most_one all
second_found None pair rest all is some = absurd (cc)
second_found (Some first) pair rest all is some = ap at_most_one is

-- the place past the last pair
pub last_end : (past : ℕ) (pairs : List Pair) (last : Pair) → Some last ≡ slice_get pairs (length pairs - 1)
    → past_pairs past pairs ≡ last.end
last_end past [] last is = absurd (cc)
last_end past (pair ∷ []) last is = let e : Some last ≡ Some pair = is in (cc)
last_end past (pair ∷ next ∷ pairs) last is = grind (arith, (last_end pair.end (next ∷ pairs) last))
