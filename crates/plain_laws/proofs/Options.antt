-- What is known of the answer of a call that may be none.
use Rattle.std.proofs.Common.{◌≡◌, Option, Some, None, IfSome, IfNone, subst}

pub some_told : {A : Type 0} (P : A → Type 0) (answer : Option A) (x : A) → answer ≡ Some x → IfSome answer P → P x
some_told P answer x e h = subst (λ o. IfSome o P) e h

pub none_told : {A : Type 0} (P : Type 0) (answer : Option A) → answer ≡ None → IfNone answer P → P
none_told P answer e h = subst (λ o. IfNone o P) e h
