-- Where the first edit begins that passes a test.
use Rattle.std.proofs.Common.{◌≡◌, ◌+◌, suc, ℕ, Bool, true, false, cond, List, [], ◌∷◌, length, Some, None, refl}
use Rattle.std.proofs.Common.{◌∙◌, arith, sym}
use Rattle.std.proofs.lemmas.Bool.Decides.{nat_tests}
use Rattle.std.specs.Prelude.{find, nat_lt}
use Rattle.std.specs.List.{position, position_or_len}
use Rattle.std.specs.Option.{option_map}
use Rattle.sheet_base.specs.declared.edits.Edit.{Edit}
use Rattle.run_notes.specs.InsideStrays.{start_of}

-- one number is less than another where the next ones are
less-next : (a b : ℕ) → nat_lt (suc a) (suc b) ≡ nat_lt a b
less-next a b = by-tests (nat_lt (suc a) (suc b)) (nat_lt a b) refl refl
  where
    by-tests : (next here : Bool) → nat_lt (suc a) (suc b) ≡ next → nat_lt a b ≡ here → nat_lt (suc a) (suc b) ≡ nat_lt a b
    by-tests true true p q = p ∙ sym q
    by-tests false false p q = p ∙ sym q
    by-tests true false p q = absurd (grind (arith, nat_tests, p, q))
    by-tests false true p q = absurd (grind (arith, nat_tests, p, q))

-- 0 is less than what is no 0
zero-less : (n : ℕ) → nat_lt 0 (suc n) ≡ true
zero-less n = by-test (nat_lt 0 (suc n)) refl
  where
    by-test : (less : Bool) → nat_lt 0 (suc n) ≡ less → nat_lt 0 (suc n) ≡ true
    by-test true p = p
    by-test false p = absurd (grind (arith, nat_tests, p))

-- an edit at a place one further, where one more is before it
start-behind : (edit : Edit) (edits : List Edit) (within : Bool) (place : ℕ)
    → start_of (edit ∷ edits) (cond within (Some (suc place)) None) ≡ start_of edits (cond within (Some place) None)
start-behind edit edits true place = refl
start-behind edit edits false place = refl

start-next : (edit : Edit) (edits : List Edit) (place next : ℕ) → next ≡ suc place
    → start_of (edit ∷ edits) (cond (nat_lt next (suc (length edits))) (Some next) None)
    ≡ start_of edits (cond (nat_lt place (length edits)) (Some place) None)
start-next edit edits place next is = rw (is, less-next place (length edits)) (start-behind edit edits (nat_lt place (length edits)) place)

pub start-first : (test : Edit → Bool) (edits : List Edit)
    → start_of edits (position test edits) ≡ option_map (λ (edit : Edit). edit.start) (find test edits)
start-first test [] = refl
start-first test (edit ∷ edits) = by-test (start-first test edits) (test edit) refl
  where
    by-test : start_of edits (position test edits) ≡ option_map (λ (e : Edit). e.start) (find test edits) → (passes : Bool)
        → test edit ≡ passes → start_of (edit ∷ edits) (position test (edit ∷ edits))
        ≡ option_map (λ (e : Edit). e.start) (cond passes (Some edit) (find test edits))
    by-test rest true is = rw (is, zero-less (length edits)) refl
    by-test rest false is = rw is (start-next edit edits (position_or_len test edits)
        (1 + position_or_len test edits) (omega arith) ∙ rest)
