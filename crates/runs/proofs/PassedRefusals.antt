-- What is said of a refusal that is handed on.
use Rattle.std.proofs.Common.{◌≡◌, sym, subst}
use Rattle.std.specs.Prelude.{IfOk, IfErr, Result, Ok, Err}
use Rattle.std.specs.Result.{IsErrAnd}
use Rattle.runs.specs.declared.refusal.Refusal.{Refusal}

-- by `?`
pub handed_on : {T : Type 0} (P : Refusal → Type 0) (refusal : Refusal) (answer : Result T Refusal)
    → IsErrAnd answer (λ other. other ≡ refusal) → P refusal → IfErr answer P
handed_on P refusal (Ok value) is why = absurd is
handed_on P refusal (Err other) is why = subst P (sym is) why

-- as a call's answer: what follows from what is said of its refusal, or of its value
pub refused_more : {T : Type 0} (P Q : Refusal → Type 0) (answer : Result T Refusal)
    → ((refusal : Refusal) → P refusal → Q refusal) → IfErr answer P → IfErr answer Q
refused_more P Q (Ok value) more why = tt
refused_more P Q (Err refusal) more why = more refusal why

pub done_more : {T : Type 0} (P Q : T → Type 0) (answer : Result T Refusal) → ((value : T) → P value → Q value)
    → IfOk answer P → IfOk answer Q
done_more P Q (Ok value) more is = more value is
done_more P Q (Err refusal) more is = tt
