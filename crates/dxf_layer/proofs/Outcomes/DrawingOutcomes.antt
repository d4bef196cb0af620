-- A drawing has one sheet or one fault, since what it is read as is a function of its bytes.
use Rattle.std.proofs.Common.{◌≡◌, inl, inr, refl, sym, ◌∙◌}
use Rattle.std.specs.Prelude.{Result, Ok, Err}
use Rattle.sheet_base.specs.declared.faults.LayerFault.{LayerFault}
use Rattle.sheet_base.specs.Sheets.{Contents}
use Rattle.sheet_base.specs.Outcomes.{HasOneOutcome, HasOutcome}

pub one_result : (result : Result Contents LayerFault)
    → HasOneOutcome (λ sheet. result ≡ Ok sheet) (λ fault. result ≡ Err fault)
one_result result = record {
  one_sheet = λ sheet other is too. let e = sym is ∙ too in cc;
  one_fault = λ fault other is too. let e = sym is ∙ too in cc;
  apart = λ sheet fault is too. let e = sym is ∙ too in cc;
}

pub some_result : (result : Result Contents LayerFault)
    → HasOutcome (λ sheet. result ≡ Ok sheet) (λ fault. result ≡ Err fault)
some_result (Ok sheet) = inl (sheet, refl)
some_result (Err fault) = inr (fault, refl)
