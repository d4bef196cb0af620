-- Neither a text of faults nor the line on too many faults says that there are too many bytes.
use Rattle.std.proofs.Common.{◌≡◌, ◌++◌, arith, ℕ, Bool, List, length, take, codes, refl, sym, ap, subst, length-take}
use Rattle.std.proofs.Common.{length-append}
use Rattle.runs.specs.Refusals.{limit_front}
use Rattle.runs.proofs.LimitLines.{TellsNone, at-first}
use Rattle.publication.proofs.LimitFronts.{IsApart, apart}
use Rattle.fault_runs.specs.declared.refusals.FaultRefusal.TheVariants.{TooManyFaults}
use Rattle.fault_runs.specs.declared.spots.FaultSpot.{FaultSpot}
use Rattle.fault_runs.specs.Refusals.{line_of}
use Rattle.fault_runs.specs.FaultsText.{faults_text, opening_text}
use Rattle.fault_runs.specs.InsideTexts.{IsFaultsText}

-- the line that there are too many faults is shorter
many-begins : (rest : List ℕ) (count : ℕ) → limit_front ++ rest ≡ take count (codes "limit: faults\n") → ⊥
many-begins rest count same =
    let sizes : length (limit_front ++ rest) ≡ length (take count (codes "limit: faults\n")) =
    ap (λ (text : List ℕ). length text) same in
    let few : length (codes "limit: faults\n") ≡ 14 = refl in
    let many : length limit_front ≡ 15 = refl in
    omega (arith, sizes, length-append limit_front rest, length-take count (codes "limit: faults\n"), few, many)

pub many_apart : IsApart (line_of TooManyFaults)
many_apart = λ rest count same. many-begins rest count same

-- a text of faults begins with a brace
faults-none : (lines : Bool) (faults : List FaultSpot) → TellsNone (faults_text lines faults)
unfolding opening_text
faults-none lines faults = at-first _ 123 refl (λ e. omega (arith, e))

pub text_apart : (lines : Bool) (said : List ℕ) → IsFaultsText lines said → IsApart said
text_apart lines said (faults, is, json) =
    apart said (subst (λ (text : List ℕ). TellsNone text) (sym is) (faults-none lines faults))
