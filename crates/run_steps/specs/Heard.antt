-- What is heard of a run, where somebody listens.
use Rattle.std.specs.Prelude.{ℕ, List, Option, None, Some}
use Rattle.std.specs.Io.KnownBytes.{Appends}

-- what was written to whoever listens; where nobody does, nobody does after it
abbrev pub IsHeard : {W : Type 0} → (W → Option (List ℕ)) → Option W → Option W → List ℕ → Type 0
IsHeard contents (Some before) (Some after) said = Appends (contents before) (contents after) said
IsHeard contents None None said = Unit {0}
IsHeard contents before after said = ⊥
