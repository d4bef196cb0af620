-- Triangles of rows, by the corners of the rows.
use Rattle.std.proofs.Common.{◌≡◌, ℕ, List, refl, sym, subst, arith}
use Rattle.std.specs.Prelude.{Result, Ok, Err}
use Rattle.tin_file.specs.InsideNodes.{Gives}
use Rattle.tin_file.specs.RowContents.{face_corners, placed_or_fault}
use Rattle.tin_file.specs.declared.faults.TinFault.{TinFault}

module _ (numbers : List ℕ) where
  -- a triangle is the corners of these rows
  abbrev pub IsPlaced : List ℕ → List ℕ → Type 0
  IsPlaced one face = one ≡ face_corners numbers face

  same_gives : (wanted : Result (List ℕ) TinFault) → Gives IsPlaced (placed_or_fault numbers wanted) wanted
  same_gives wanted = grind arith

  pub placed_gives : (result wanted : Result (List ℕ) TinFault) → result ≡ placed_or_fault numbers wanted
      → Gives IsPlaced result wanted
  placed_gives result wanted is = subst (λ r. Gives IsPlaced r wanted) (sym is) (same_gives wanted)

  pub placed_ok : (one : List ℕ) (wanted : Result (List ℕ) TinFault) → Gives IsPlaced (Ok one) wanted
      → (face : List ℕ) × (wanted ≡ Ok face) × (one ≡ face_corners numbers face)
  placed_ok one (Ok face) h = (face, refl, h)
  placed_ok one (Err fault) h = absurd h

  pub fault_of_face : {B C : Type 0} (R : B → C → Type 0) (fault : TinFault) (part : Result (List ℕ) TinFault)
      (whole : Result C TinFault)
      → Gives IsPlaced (Err fault) part → (part ≡ Err fault → whole ≡ Err fault) → Gives R (Err fault) whole
  fault_of_face R fault part whole h on = grind arith
