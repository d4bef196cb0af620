-- A whole number of any length, by its leading digits. Only private functions speak of them.
use Rattle.std.specs.Prelude.{◌≡◌, ℕ, ◌+◌, ◌*◌, ◌^◌, ◌<◌, ◌≤◌, ◌↔◌, IsTrue}
use Rattle.mm_decimal.specs.declared.leading_digits.LeadingDigits.{LeadingDigits}

-- The number is the leading digits, and then some more, not all 0 where one was lost.
-- Digits are dropped only where 18 are kept.
pub record IsCut (kept : LeadingDigits) (number : ℕ) : Type 0 where
  pub low : ℕ
  pub sum : number ≡ kept.top * 10 ^ kept.dropped + low
  pub below : low < 10 ^ kept.dropped
  pub lost : IsTrue kept.lost ↔ (0 < low)
  pub small : kept.top < 10 ^ 18
  pub full : 0 < kept.dropped → 10 ^ 17 ≤ kept.top
