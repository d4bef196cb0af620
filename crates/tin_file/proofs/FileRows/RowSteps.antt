-- One row more is collected.
use Rattle.std.proofs.Common.{◌≡◌, ℕ, ◌+◌, List, [], ◌∷◌, ◌++◌, map, Bool, ap, ◌∙◌, append-nil, arith}
use Rattle.std.specs.Prelude.{if◌then◌else◌, not}
use Rattle.std.specs.List.{list_any, position_or_len}
use Rattle.std.proofs.lemmas.List.{map-append}
use Rattle.std.proofs.lemmas.List.Sums.{sum_by_push}
use Rattle.indexmap.specs.IndexSet.{IndexSet, insert_key}
use Rattle.tin_base.specs.declared.corners.Corner.{Corner}
use Rattle.tin_file.specs.Corners.{is_same, corners_of, corner_number}
use Rattle.tin_file.specs.RowContents.{corners_in, AreCollected, numbers_in}
use Rattle.tin_file.specs.declared.vertices.Numbers.{Numbers}
use Rattle.tin_file.specs.declared.vertices.VertexRow.{VertexRow}
use Rattle.tin_file.specs.declared.vertices.Vertices.{Vertices}
use Rattle.tin_file.specs.contracts.vertices.NumbersPartialEq.TheImpl as equality
use Rattle.tin_file.proofs.FileRows.CornerKeys.{any_key, place_key, corners_have, corners_push, numbers_push}

module _ {S : Type 0} (old new : Vertices) (seen seen' : IndexSet Numbers S) (rows : List VertexRow) (vertex : VertexRow)
    (h : AreCollected old seen rows) where
  abbrev row : Corner
  row = vertex.corner

  abbrev before : List Corner
  before = corners_in rows

  corners_after : corners_in (rows ++ vertex ∷ []) ≡ before ++ row ∷ []
  corners_after = map-append (λ (v : VertexRow). v.corner) rows (vertex ∷ [])

  keys_are : seen.keys ≡ map numbers_in (corners_of before)
  keys_are = h.keys ∙ ap (map numbers_in) h.gathered.corners

  was_there : list_any ((equality.eq-value).it (numbers_in row)) seen.keys ≡ list_any (is_same row) before
  was_there = ap (list_any ((equality.eq-value).it (numbers_in row))) keys_are ∙ any_key row (corners_of before)
      ∙ corners_have row before

  number_is : position_or_len ((equality.eq-value).it (numbers_in row)) seen.keys
      ≡ corner_number (corners_of before) row
  number_is = ap (position_or_len ((equality.eq-value).it (numbers_in row))) keys_are
      ∙ place_key row (corners_of before)

  pushed : (test : Bool) (cs : List Corner) → (if not test then cs ++ row ∷ [] else cs) ≡ cs
      ++ (if test then [] else row ∷ [])
  pushed test cs = grind (arith, append-nil)

  mapped : (test : Bool) (cs : List Corner) → (if test then map numbers_in cs else map numbers_in cs ++ numbers_in row
      ∷ []) ≡ map numbers_in (cs ++ (if test then [] else row ∷ []))
  mapped test cs = grind (arith, append-nil, map-append)

  pub collects : (fresh : Bool) (number : ℕ)
      → fresh ≡ not (list_any ((equality.eq-value).it (numbers_in row)) seen.keys)
      → seen'.keys ≡ insert_key (equality.eq-value).it seen.keys (numbers_in row)
      → number ≡ position_or_len ((equality.eq-value).it (numbers_in row)) seen.keys
      → new.corners.items ≡ (if fresh then old.corners.items ++ row ∷ [] else old.corners.items)
      → new.numbers.items ≡ old.numbers.items ++ number ∷ []
      → new.inexact ≡ old.inexact + vertex.inexact
      → AreCollected new seen' (rows ++ vertex ∷ [])
  collects fresh number is_new keys is corners numbers inexact =
      grind (
        arith,
        was_there,
        corners_after,
        corners_push,
        pushed,
        number_is,
        numbers_push,
        sum_by_push,
        keys_are,
        mapped,
      )
