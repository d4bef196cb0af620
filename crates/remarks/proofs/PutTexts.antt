-- A text that is put after another, where there is room.
use Rattle.std.proofs.Common.{◌≡◌, ℕ, List, ◌++◌, Result, Ok, Err, OnOk}
use Rattle.std.specs.Prelude.{is_ok, if◌then◌else◌}

pub put_behind : {T E : Type 0} (answer : Result T E) (before now more : List ℕ)
    → now ≡ (if is_ok answer then before ++ more else before) → OnOk answer (now ≡ before ++ more)
put_behind (Ok value) before now more is = is
put_behind (Err fault) before now more is = tt
