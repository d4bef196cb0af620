-- What was found in a document. Only private functions speak of it.
use Rattle.std.specs.Prelude.{◌≡◌, ℕ, List, Option, None, Some}
use Rattle.jtext.specs.Places.{Entry, HasNodesAt}
use Rattle.jtext.specs.declared.document.Node.{Node}

-- the value of the member begins at the node of this number, or there is none
abbrev pub IsFoundAs : List Node → List ℕ → Option ℕ → Option Entry → Type 0
IsFoundAs nodes bytes None None = Unit {0}
IsFoundAs nodes bytes (Some number) (Some one) = (number ≡ one.number) × HasNodesAt nodes bytes one.number one.start one.value
IsFoundAs nodes bytes found one = ⊥
