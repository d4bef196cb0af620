-- Where the text of a value is.
use Rattle.std.proofs.Common.{◌≡◌, ℕ, ◌+◌, ◌-◌, ◌≤◌, List, ◌++◌, length, take, drop, refl, ap, arith}
use Rattle.std.proofs.Common.{length-append}
use Rattle.std.specs.Prelude.{slice_get, Some, slice_range, true}
use Rattle.std.proofs.Math.Seq.{take-append_seam, drop-append_seam}
use Rattle.jtext.specs.Values.{Json, numeral, spelling}
use Rattle.jtext.specs.Nodes.{first_node}
use Rattle.jtext.specs.Places.{IsPartAt}
use Rattle.jtext.specs.declared.document.Node.{Node}
use Rattle.tin_file.specs.Keys.{is_number}
use Rattle.tin_file.specs.InsideNodes.{IsThere, IsNode}
use Rattle.tin_file.proofs.DocumentValues.There.{first_node_is}

part_within : (whole : List ℕ) (place : ℕ) (part : List ℕ) → IsPartAt whole place part
    → place + length part ≤ length whole
part_within whole place part h =
    omega (arith, ap length h.all, h.place_is, length-append h.front (part ++ h.back), length-append part h.back)

part_is : (whole : List ℕ) (place : ℕ) (part : List ℕ) → IsPartAt whole place part
    → take (length part) (drop place whole) ≡ part
part_is whole place part h = grind (arith, drop-append_seam, take-append_seam)

module _ (nodes : List Node) (bytes : List ℕ) (number : ℕ) (node : Node) (got : slice_get nodes number ≡ Some node)
  where
    module _ (value : Json) (h : IsThere nodes bytes number value) where
      is : node ≡ first_node number h.0 value
      is = first_node_is nodes bytes number value node h got

      starts : node.start ≡ h.0
      starts = ap (λ (n : Node). n.start) is

      ends : node.end ≡ h.0 + length (spelling value)
      ends = ap (λ (n : Node). n.end) is

      pub text_is : slice_range bytes node.start node.end ≡ spelling value
      text_is =
          let long : node.end - node.start ≡ length (spelling value) = omega (arith, starts, ends) in
          rw (long, starts) (part_is bytes h.0 (spelling value) h.1.text_there)

    pub text_begins : IsNode nodes bytes number → node.start ≤ node.end
    text_begins (value, h) = omega (arith, starts value h, ends value h)

    pub text_ends : IsNode nodes bytes number → node.end ≤ length bytes
    text_ends (value, h) = omega (arith, ends value h, part_within bytes h.0 (spelling value) h.1.text_there)

-- the value of a number
pub numeral_of : (value : Json) → is_number value ≡ true → (text : List ℕ) × (value ≡ numeral text)
numeral_of (numeral text) h = (text, refl)
numeral_of _ h = cc
