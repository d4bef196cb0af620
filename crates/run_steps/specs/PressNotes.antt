-- What is kept of the calls of a press: the name of the file at hand.
use Rattle.std.specs.Prelude.{◌≡◌, ◌⊎◌, ℕ, List, []}

-- the kept name is that of the file; or memory ran out, and no name is kept
abbrev pub IsNamed : List ℕ → List ℕ → Type 0
IsNamed name kept = (kept ≡ name) ⊎ (kept ≡ [])
