-- Names at the end of a line.
use Rattle.std.proofs.Common.{◌≡◌, ℕ, Bool, true, false, ◌&&◌, cond, List, [], ◌∷◌, ◌++◌, codes}
use Rattle.std.proofs.Common.{Some, None, refl, ◌∙◌, ap, nat_le, arith, subst}
use Rattle.std.specs.Prelude.{IsUtf8}
use Rattle.std.specs.Str.{is_utf8}
use Rattle.std.proofs.lemmas.Bool.Decides.{nat_tests}
use Rattle.std.proofs.lemmas.Str.{IsUtf8-from_is_utf8, is_utf8-from_IsUtf8}
use Rattle.text_fields.proofs.StepChains.{bound, let_through}
use Rattle.text_fields.proofs.Words.{after_again, after_takes}
use Rattle.text_fields.specs.Fields.{after_word}
use Rattle.report_text.specs.InsideFields.{are_printable, name_behind}
use Rattle.report_text.specs.Reports.{IsPrintable}
use Rattle.std.proofs.lemmas.Bool.{and_parts}

pub printable_is : (name : List ℕ) → are_printable name ≡ true → IsPrintable name
printable_is [] is = tt
printable_is (byte ∷ name) is =
    let parts = and_parts (nat_le 32 byte) (are_printable name) is in
    let first = parts.0 in
    (grind (arith, nat_tests, first), printable_is name parts.1)

is_printable_from : (name : List ℕ) → IsPrintable name → are_printable name ≡ true
is_printable_from [] is = refl
is_printable_from (byte ∷ name) is =
    let first = is.0 in
    let here : nat_le 32 byte ≡ true = grind (arith, nat_tests, first) in
    rw (here, is_printable_from name is.1) refl

pub name_again : (name : List ℕ) → IsPrintable name → IsUtf8 name → name_behind (codes " name " ++ name) ≡ Some name
unfolding name_behind
name_again name printable utf8 = rw (
  after_again (codes " name ") name,
  is_printable_from name printable,
  is_utf8-from_IsUtf8 name utf8,
) refl

pub record TakesName (text name : List ℕ) : Type 0 where
  pub parts : text ≡ codes " name " ++ name
  pub printable : IsPrintable name
  pub utf8 : IsUtf8 name

pub name_takes : (text name : List ℕ) → name_behind text ≡ Some name → TakesName text name
unfolding name_behind
name_takes text name is =
    let read = bound (after_word (codes " name ") text) (λ n. cond (are_printable n && is_utf8 n) (Some n) None) name
    is in
    let found = let_through (are_printable read.found && is_utf8 read.found) read.found name read.goes_on in
    let tests = and_parts (are_printable read.found) (is_utf8 read.found) found.passes in
    record {
      parts = after_takes (codes " name ") text read.found read.is ∙ ap (λ n. codes " name " ++ n) found.same;
      printable = subst IsPrintable found.same (printable_is read.found tests.0);
      utf8 = subst IsUtf8 found.same (IsUtf8-from_is_utf8 read.found tests.1);
    }

-- for a name's reading: text that is not UTF-8, text that is
pub name_fails : (text name : List ℕ) → after_word (codes " name ") text ≡ Some name → (IsUtf8 name → ⊥)
    → name_behind text ≡ None
unfolding name_behind
name_fails text name behind never =
    rw behind (by_tests (are_printable name) (is_utf8 name) (λ yes. never (IsUtf8-from_is_utf8 name yes)))
  where
    by_tests : (a b : Bool) → (b ≡ true → ⊥) → cond (a && b) (Some name) None ≡ None
    by_tests true true never = absurd (never refl)
    by_tests a b never = refl

pub name_found : (text name : List ℕ) → after_word (codes " name ") text ≡ Some name → IsUtf8 name
    → name_behind text ≡ cond (are_printable name) (Some name) None
unfolding name_behind
name_found text name behind utf8 = rw (behind, is_utf8-from_IsUtf8 name utf8) (by_test (are_printable name))
  where
    by_test : (a : Bool) → cond (a && true) (Some name) None ≡ cond a (Some name) None
    by_test true = refl
    by_test false = refl
