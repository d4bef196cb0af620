-- Truth values of tests.
use Rattle.std.proofs.Common.{◌≡◌, ◌≢◌, ◌↔◌, ◌≤◌, ℕ, List, Bool, not, true, false, refl, sym}
use Rattle.std.specs.Prelude.{nat_le}
use Rattle.std.specs.Str.{bytes_eq}
use Rattle.std.proofs.lemmas.Bool.{leb-true}
use Rattle.std.proofs.lemmas.Slice.Eq.{bytes_eq-Decides}

-- two tests of one fact are one
pub same-test : {P : Type 0} (test other : Bool) → ((test ≡ true) ↔ P) → ((other ≡ true) ↔ P) → test ≡ other
same-test true other is same = sym (same.1 (is.0 refl))
same-test false true is same = is.1 (same.0 refl)
same-test false false is same = refl

-- a test of what is not so
pub fails : (test : Bool) → (test ≡ true → ⊥) → test ≡ false
fails true never = absurd (never refl)
fails false never = refl

-- texts that differ
pub texts-differ : (text other : List ℕ) → text ≢ other → bytes_eq text other ≡ false
texts-differ text other differ = fails (bytes_eq text other) (λ same. differ ((bytes_eq-Decides text other).0 same))

-- a number that is not above another
pub no-more : (number most : ℕ) → nat_le number most ≡ true → number ≤ most
no-more number most is = leb-true number most is

-- a test whose opposite fails, and one whose opposite passes
pub not-false : (test : Bool) → false ≡ not test → test ≡ true
not-false true is = refl
not-false false is = is

pub not-true : (test : Bool) → true ≡ not test → test ≡ false
not-true true is = is
not-true false is = refl
