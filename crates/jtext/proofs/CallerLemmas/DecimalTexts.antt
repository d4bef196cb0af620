-- Texts of decimal digits are numbers of JSON, and so are those of thousandths, with or without a sign.
use Rattle.std.proofs.Common.{◌≡◌, ℕ, zero, suc, ◌+◌, ◌/◌, ◌%◌, ◌^◌, ◌<◌, ◌≤◌, inl, inr, List, [], ◌∷◌, ◌++◌}
use Rattle.std.proofs.Common.{decimal, refl, sym, ap, subst, arith, append-nil}
use Rattle.std.specs.List.{AllByRecursion}
use Rattle.std.proofs.lemmas.Fmt.{decimal_by_steps}
use Rattle.plain_laws.proofs.Lists.{all_append}
use Rattle.jtext.specs.Numbers.{IsDigit, IsInt, IsMinus, IsNumber}

digit_is : (n : ℕ) → IsDigit (48 + n % 10)
digit_is n = (omega arith, omega arith)

-- digits, whose first one is no zero unless the number is 0
pub record IsWritten (n : ℕ) (text : List ℕ) : Type 0 where
  pub first : ℕ
  pub more : List ℕ
  pub is : text ≡ first ∷ more
  pub digit : IsDigit first
  pub digits : AllByRecursion IsDigit more
  pub lead : 0 < n → 49 ≤ first
  pub int : IsInt (first ∷ more)

one_digit : (n : ℕ) → n < 10 → IsInt ((48 + n) ∷ [])
one_digit zero small = inl (refl, refl)
one_digit (suc n) small = inr (omega arith, omega (arith, small), tt)

pub decimal_written : (n : ℕ) → n < 2 ^ 64 → IsWritten n (decimal n)
decimal_written = decimal_by_steps (λ n digits. IsWritten n digits)
    (λ n small. record {
      first = 48 + n;
      more = [];
      is = refl;
      digit = (omega arith, omega (arith, small));
      digits = tt;
      lead = λ some. omega (arith, some);
      int = one_digit n small;
    })
    (λ n digits large h.
    let all = all_append IsDigit h.more ((48 + n % 10) ∷ []) h.digits (digit_is n, tt) in
    let lead = h.lead (omega (arith, large)) in
    record {
      first = h.first;
      more = h.more ++ (48 + n % 10) ∷ [];
      is = ap (λ text. text ++ (48 + n % 10) ∷ []) h.is;
      digit = h.digit;
      digits = all;
      lead = λ some. lead;
      int = inr (lead, h.digit.1, all);
    })

pub decimal_number : (n : ℕ) → n < 2 ^ 64 → IsNumber (decimal n)
decimal_number n small =
    let h = decimal_written n small in
    record {
      minus = [];
      whole = decimal n;
      fraction = [];
      exponent = [];
      minus_is = inl refl;
      whole_is = subst IsInt (sym h.is) h.int;
      fraction_is = inl refl;
      exponent_is = inl refl;
      all = sym (append-nil (decimal n));
    }

-- a number of thousandths, with three digits after a point
pub thousandths_number : (minus : List ℕ) → IsMinus minus → (n : ℕ) → n < 2 ^ 64
    → IsNumber (minus ++ (decimal (n / 1000) ++ 46 ∷ (48 + (n / 100) % 10) ∷ (48 + (n / 10) % 10) ∷ (48 + n % 10) ∷ []))
thousandths_number minus sign n small =
    let h = decimal_written (n / 1000) (omega (arith, small)) in
    let digits = (48 + (n / 100) % 10) ∷ (48 + (n / 10) % 10) ∷ (48 + n % 10) ∷ [] in
    record {
      minus = minus;
      whole = decimal (n / 1000);
      fraction = 46 ∷ digits;
      exponent = [];
      minus_is = sign;
      whole_is = subst IsInt (sym h.is) h.int;
      fraction_is =
          inr (digits, ((digit_is (n / 100), (digit_is (n / 10), (digit_is n, tt))), omega arith), refl);
      exponent_is = inl refl;
      all = ap (λ text. minus ++ (decimal (n / 1000) ++ text)) (sym (append-nil (46 ∷ digits)));
    }
