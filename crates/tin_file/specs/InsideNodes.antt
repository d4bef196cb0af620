-- What is where in the document that is read. Only private functions speak of it.
use Rattle.std.specs.Prelude.{◌≡◌, ℕ, ◌+◌, List, [], ◌∷◌, Result, Ok, Err}
use Rattle.jtext.specs.Values.{Json, Elements, Members, array, object, no_element, element}
use Rattle.jtext.specs.Nodes.{node_count}
use Rattle.jtext.specs.Places.{HasNodesAt}
use Rattle.jtext.specs.declared.document.Node.{Node}
use Rattle.tin_file.specs.declared.faults.TinFault.{TinFault}
use Rattle.tin_file.specs.declared.faults.TinFault.TheVariants.{NoMemory}

-- the value has its first node at this number
abbrev pub IsThere : List Node → List ℕ → ℕ → Json → Type 0
IsThere nodes bytes number value = (start : ℕ) × HasNodesAt nodes bytes number start value

-- the values have their first nodes at these numbers
abbrev pub AreThere : List Node → List ℕ → List ℕ → List Json → Type 0
AreThere nodes bytes [] [] = Unit {0}
AreThere nodes bytes (number ∷ numbers) (value ∷ values) =
    IsThere nodes bytes number value × AreThere nodes bytes numbers values
AreThere nodes bytes numbers values = ⊥

-- some value has
abbrev pub IsNode : List Node → List ℕ → ℕ → Type 0
IsNode nodes bytes number = (value : Json) × IsThere nodes bytes number value

-- some values have
abbrev pub AreNodes : List Node → List ℕ → List ℕ → Type 0
AreNodes nodes bytes numbers = (values : List Json) × AreThere nodes bytes numbers values

-- an array has
abbrev pub IsArray : List Node → List ℕ → ℕ → Type 0
IsArray nodes bytes number = (blank : List ℕ) × (elements : Elements)
    × IsThere nodes bytes number (array blank elements)

-- an object with these members is the whole value
abbrev pub HasMembers : List Node → List ℕ → Members → Type 0
HasMembers nodes bytes members = (blank : List ℕ) × IsThere nodes bytes 0 (object blank members)

-- the first nodes of the elements, where that of the first has this number
abbrev pub element_numbers : ℕ → Elements → List ℕ
element_numbers number no_element = []
element_numbers number (element before value after rest) = number ∷ element_numbers (number + node_count value) rest

-- both are values in the relation, or both are the same fault; memory may always run out
abbrev pub Gives : {A B : Type 0} → (A → B → Type 0) → Result A TinFault → Result B TinFault → Type 0
Gives R (Ok one) (Ok other) = R one other
Gives R (Ok one) (Err fault) = ⊥
Gives R (Err NoMemory) wanted = Unit {0}
Gives R (Err fault) wanted = Err fault ≡ wanted

abbrev pub Equals : {A : Type 0} → Result A TinFault → Result A TinFault → Type 0
Equals result wanted = Gives (λ one other. one ≡ other) result wanted
