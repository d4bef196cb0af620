-- Steps of a reading that were all taken.
use Rattle.std.proofs.Common.{◌≡◌, Bool, true, false, cond, Option, Some, None, refl}
use Rattle.std.proofs.lemmas.Option.{none-some}
use Rattle.text_fields.specs.Fields.{◌>>=◌}

abbrev some : {A : Type 0} → A → Option A
some x = Some x

pub record IsBound {A B : Type 0} (first : Option A) (next : A → Option B) (last : B) : Type 0 where
  pub found : A
  pub is : first ≡ Some found
  pub goes_on : next found ≡ Some last

-- where two steps find something, the first finds something from which the second does
pub bound : {A B : Type 0} (first : Option A) (next : A → Option B) (last : B) → (first >>= next) ≡ Some last
    → IsBound first next last
bound None next last is = absurd (none-some last is)
bound (Some found) next last is = record { found = found; is = refl; goes_on = is }

pub some_is : {A : Type 0} (x y : A) → some x ≡ some y → x ≡ y
some_is x y is = cc

-- what a test lets through
pub record IsLet {A : Type 0} (test : Bool) (value last : A) : Type 0 where
  pub passes : test ≡ true
  pub same : value ≡ last

pub let_through : {A : Type 0} (test : Bool) (value last : A) → cond test (Some value) None ≡ Some last
    → IsLet test value last
let_through true value last is = record { passes = refl; same = some_is value last is }
let_through false value last is = absurd (none-some last is)
