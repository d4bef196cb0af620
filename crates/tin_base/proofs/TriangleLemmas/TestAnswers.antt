-- What is known from a test that was made.
use Rattle.std.proofs.Common.{◌↔◌, true, false, IsTrue, refl}

no_false : IsTrue false → ⊥
no_false e = cc

pub yes : {P : Type 0} → P → IsTrue true ↔ P
yes p = (λ _. p, λ _. refl)

pub no : {P : Type 0} → (P → ⊥) → IsTrue false ↔ P
no n = (λ e. absurd (no_false e), λ p. absurd (n p))

pub denied : {P : Type 0} → IsTrue false ↔ P → P → ⊥
denied i p = no_false (i.1 p)

pub told : {P : Type 0} → IsTrue true ↔ P → P
told i = i.0 refl
