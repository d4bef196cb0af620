-- A layer is read line by line.
use Rattle.std.proofs.Common.{◌≡◌, ℕ, ◌+◌, ◌<◌, ◌^◌, Bool, List, [], ◌∷◌, ◌++◌, length, refl, sym, subst}
use Rattle.std.proofs.Common.{append_assoc, append-nil, arith, ◌≤◌}
use Rattle.std.specs.Prelude.{Option, Some, None, flat_map}
use Rattle.std.specs.Borrow.{Bor}
use Rattle.sheet_base.specs.Sheets.{Contents, IsSheet}
use Rattle.wkt_layer.specs.Tokens.{tokens_of}
use Rattle.wkt_layer.specs.Lines.{IsLineOf}
use Rattle.wkt_layer.specs.Layers.{AreLinesOf}
use Rattle.wkt_layer.specs.Paths.{Path, sheet_of}
use Rattle.wkt_layer.specs.InsidePasses.{GoesOn, Held, HasRoom, RestsAt, Ascend, path_numbers}
use Rattle.wkt_layer.proofs.SheetLaws.EditOrder.{ascend_before, ascend_past, ascend_append, line_ascends, edits_in_order}
use Rattle.sheet_base.specs.Splices.{AreInOrder}
use Rattle.std.proofs.lemmas.Grind.{flat_map-append}
use Rattle.wkt_layer.specs.declared.pass.LinesRead.{LinesRead}
use Rattle.wkt_layer.proofs.SheetLaws.Sheets.{whole_append, line_paths_whole, is_sheet}

pub goes_next : (exact : Bool) (all : List (List ℕ)) (base next : ℕ) (line : List ℕ) (rest : List (List ℕ))
    (done here : List Path) → next ≡ base + length line + 1
    → GoesOn exact all base (line ∷ rest) done → IsLineOf exact (tokens_of base line) here
    → GoesOn exact all next rest (done ++ here)
goes_next exact all base next line rest done here place on is =
    grind (arith, append_assoc, whole_append, line_paths_whole)

pub goes_end : (exact : Bool) (all : List (List ℕ)) (base : ℕ) (done : List Path) → GoesOn exact all base [] done
    → AreLinesOf exact 0 all done
goes_end exact all base done on = subst (AreLinesOf exact 0 all) (append-nil done) (on.onward [] refl)

-- what is held, as a sheet
abbrev pub contents_of : LinesRead → Contents
contents_of pass = record {
  paths = pass.paths.items;
  points = pass.points.items;
  heights = pass.heights;
  edits = pass.edits.items;
  inexact = pass.inexact;
  dropped = 0;
}

-- what is held of whole paths is their sheet
pub held_sheet : (pass : LinesRead) (done : List Path) → Held pass done [] → contents_of pass ≡ sheet_of done
held_sheet pass done held = grind (arith, append-nil)

pub held_is_sheet : (pass : LinesRead) (done : List Path) → Held pass done []
    → (exact : Bool) (all : List (List ℕ)) (base : ℕ) → GoesOn exact all base [] done
    → length pass.points.items < 2 ^ 32 → IsSheet (contents_of pass)
held_is_sheet pass done held exact all base on few = grind (arith, append-nil, held_sheet, is_sheet)

-- the rest of a text, further on
pub rests_next : (rest : Option (Bor (List ℕ))) (base size whole all : ℕ) → base + whole ≡ all → RestsAt rest size whole
    → RestsAt rest (base + size) all
rests_next None base size whole all sum at = tt
rests_next (Some rest) base size whole all sum at = omega (arith, sum, at)

pub room_more : (pass : LinesRead) (at more : ℕ) → HasRoom pass at → at ≤ more → HasRoom pass more
room_more pass at more room le = grind (arith)

-- the numbers so far follow one another
abbrev pub IsOrdered : List Path → ℕ → ℕ → Type 0
IsOrdered done base size = (past : ℕ) × (past ≤ base) × (past ≤ size) × Ascend 0 (flat_map path_numbers done) past

pub order_next : (exact : Bool) (base next size : ℕ) (line : List ℕ) (done here : List Path) → IsOrdered done base size
    → base + length line ≤ next → base + length line ≤ size
    → IsLineOf exact (tokens_of base line) here → IsOrdered (done ++ here) next size
order_next exact base next size line done here (past, below, inside, up) le fits is = (
  base + length line,
  le,
  fits,
  subst (λ ns. Ascend 0 ns (base + length line)) (sym (flat_map-append path_numbers done here))
      (ascend_append 0 (flat_map path_numbers done) (flat_map path_numbers here) past (base + length line) up
      (ascend_before base past (flat_map path_numbers here) (base + length line) below
      (line_ascends exact base line here is))),
)

pub sheet_order : (sheet : Contents) (done : List Path) (base size : ℕ) → sheet ≡ sheet_of done
    → IsOrdered done base size → AreInOrder 0 sheet.edits size
sheet_order sheet done base size is (past, below, inside, up) = grind (arith, edits_in_order, ascend_past)
