-- Rows that are found, and what is read of them.
use Rattle.std.proofs.Common.{◌≡◌, ℕ, ◌<◌, ◌≤◌, List, length, arith, Vec, Global}
use Rattle.std.specs.Prelude.{if◌then◌else◌, Result, Ok, Err}
use Rattle.std.proofs.lemmas.Bool.{lt-ltb, ltb-true}
use Rattle.jtext.specs.Values.{Json}
use Rattle.jtext.specs.declared.document.Node.{Node}
use Rattle.tin_file.specs.Keys.{and_then}
use Rattle.tin_file.specs.InsideNodes.{AreThere, AreNodes, Gives}
use Rattle.tin_file.specs.Vertices.{few}
use Rattle.tin_file.specs.declared.faults.Rows.{Rows}
use Rattle.tin_file.specs.declared.faults.TinFault.{TinFault}
use Rattle.tin_file.specs.declared.faults.TinFault.TheVariants.{TooMany}
use Rattle.tin_file.proofs.DocumentValues.There.{as_many}

module _ (nodes : List Node) (bytes : List ℕ) (list : Rows) (most : ℕ) (numbers : List ℕ) where
  pub few_pass : (r : Result (List Json) TinFault)
      → Gives {A = Unit {0}} (λ _ values. AreThere nodes bytes numbers values) (Ok tt) r → length numbers ≤ most
      → Gives {A = Unit {0}} (λ _ values. AreThere nodes bytes numbers values) (Ok tt) (and_then (few list most) r)
  few_pass r h small = grind (arith, ltb-true, as_many)

  pub too_many : (r : Result (List Json) TinFault)
      → Gives {A = Unit {0}} (λ _ values. AreThere nodes bytes numbers values) (Ok tt) r → most < length numbers
      → Err (TooMany list) ≡ and_then (few list most) r
  too_many r h large = grind (arith, as_many, lt-ltb)

pub with_rows : (nodes : List Node) (bytes : List ℕ) (rows : Vec ℕ Global) (r : Result (List Json) TinFault)
    → Gives {A = Unit {0}} (λ _ values. AreThere nodes bytes rows.items values) (Ok tt) r
    → Gives {A = Vec ℕ Global} (λ found values. AreThere nodes bytes found.items values) (Ok rows) r
with_rows nodes bytes rows r h = grind arith

pub rows_found : (nodes : List Node) (bytes : List ℕ) (rows : Vec ℕ Global) (r : Result (List Json) TinFault)
    → Gives {A = Vec ℕ Global} (λ found values. AreThere nodes bytes found.items values) (Ok rows) r
    → AreNodes nodes bytes rows.items
rows_found nodes bytes rows r h = grind arith
