-- Texts that are the same, and tests whether one says another.
use Rattle.std.proofs.Common.{◌≡◌, ℕ, List, [], ◌∷◌, Bool, true, false, refl, sym, arith}
use Rattle.std.specs.Prelude.{◌↔◌, IsTrue}
use Rattle.std.proofs.lemmas.Bool.{eqb-true, eq-eqb, and_parts}
use Rattle.jtext.specs.Characters.{Char, units_of}
use Rattle.jtext.specs.Values.{quoted}
use Rattle.jtext.specs.Lookups.{Says, are_same}

pub same_is : (xs ys : List ℕ) → are_same xs ys ≡ true → xs ≡ ys
same_is [] [] h = refl
same_is (a ∷ xs) (b ∷ ys) h = grind (arith, and_parts, eqb-true, (same_is xs ys))
same_is xs ys h = cc

pub is_same : (xs : List ℕ) → are_same xs xs ≡ true
is_same [] = refl
is_same (a ∷ xs) = rw (eq-eqb a a refl) (is_same xs)

pub true_or_false : (a b : Bool) → (IsTrue a → b ≡ true) → (b ≡ true → IsTrue a) → a ≡ b
true_or_false true false f g = sym (f refl)
true_or_false false true f g = g refl
true_or_false a b f g = refl

-- a test whether a text says this
pub says_quoted : (chars : List Char) (text : List ℕ) (test : Bool) → (IsTrue test ↔ Says (quoted chars) text)
    → test ≡ are_same (units_of chars) text
says_quoted chars text test h = grind (arith, true_or_false, is_same, same_is)
