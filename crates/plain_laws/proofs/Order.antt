-- Orders of naturals and of whole numbers.
use Rattle.std.proofs.Common.{◌≡◌, ◌⊎◌, inl, inr, ⊎_elim, ℕ, ◌+◌, ◌<◌, ◌≤◌, ℤ, pos, neg_ℤ, ◌<ℤ◌, ◌≤ℤ◌, sym, subst, arith}
use Rattle.std.proofs.lemmas.Bool.{cases_order}
use Rattle.std.proofs.lemmas.Int.{ints}

pub trichotomy : (m n : ℕ) → (m < n) ⊎ ((m ≡ n) ⊎ (n < m))
trichotomy m n = ⊎_elim (λ e. inr (inl e)) (λ r. ⊎_elim (λ h. inl h) (λ h. inr (inr h)) r) (cases_order m n)

pub at_or_before : (k n : ℕ) → k < n + 1 → (k < n) ⊎ (k ≡ n)
at_or_before k n h = grind arith

pub at_most_of_equal : (m n : ℕ) → m ≡ n → m ≤ n
at_most_of_equal m n e = omega arith

pub equal_of_both : (m n : ℕ) → m ≤ n → n ≤ m → m ≡ n
equal_of_both m n h k = omega arith

-- neither of two numbers is below the other
pub equal_of_neither : (m n : ℕ) → (m < n → ⊥) → (n < m → ⊥) → m ≡ n
equal_of_neither m n h k = go (trichotomy m n)
  where
    go : (m < n) ⊎ ((m ≡ n) ⊎ (n < m)) → m ≡ n
    go (inl less) = absurd (h less)
    go (inr (inl same)) = same
    go (inr (inr more)) = absurd (k more)

-- two steps up are one
pub up_trans : (a b c : ℤ) → a ≤ℤ b → b ≤ℤ c → a ≤ℤ c
up_trans a b c h k = omega (arith, ints)

-- signs of a whole number, and of one and its opposite
pub sign_of : (z : ℤ) → (z ≡ pos 0) ⊎ ((z <ℤ pos 0) ⊎ (pos 0 <ℤ z))
sign_of z = grind (arith, ints)

pub opposite : (y z : ℤ) → y ≡ neg_ℤ z → y <ℤ pos 0 → pos 0 <ℤ z
opposite y z e h = omega (arith, ints)

-- what holds of three numbers holds of one that is one of them
pub one_of_three : (z a b c : ℤ) (P : ℤ → Type 0) → (z ≡ a) ⊎ ((z ≡ b) ⊎ (z ≡ c)) → P a → P b → P c → P z
one_of_three z a b c P (inl e) ha hb hc = subst P (sym e) ha
one_of_three z a b c P (inr (inl e)) ha hb hc = subst P (sym e) hb
one_of_three z a b c P (inr (inr e)) ha hb hc = subst P (sym e) hc
