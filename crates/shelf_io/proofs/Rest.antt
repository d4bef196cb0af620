-- What was read so far and what is left, over the turns of a loop.
use Rattle.std.proofs.Common.{ℕ, List, [], Option, Some, None, refl}
use Rattle.shelf_io.specs.Load.{Taken}

pub Taken-start : (rest : Option (List ℕ)) → Taken rest rest []
Taken-start None = tt
Taken-start (Some rest) = (rest, refl, refl)
