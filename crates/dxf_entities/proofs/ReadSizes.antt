-- How much is read at most.
use Rattle.std.proofs.Common.{ℕ, ◌+◌, ◌≤◌, List, length, Bool, arith, Result, Ok, Err}
use Rattle.std.specs.Prelude.{OnOk, take_while}
use Rattle.std.proofs.lemmas.List.Sums.{prefix_len-le-length}
use Rattle.std.proofs.lemmas.List.Folds.{length-prefix_len}
use Rattle.sheet_base.specs.declared.edits.Edit.{Edit}
use Rattle.sheet_base.specs.Sheets.{Contents}
use Rattle.sheet_base.specs.declared.faults.LayerFault.{LayerFault}
use Rattle.dxf_entities.specs.DrawingContents.{with_edits, HoldsAtMost, GrowsBy}

pub holds_more : (few many : ℕ) (contents : Contents) → HoldsAtMost few contents → few ≤ many
    → HoldsAtMost many contents
holds_more few many contents room more = grind arith

pub grows_more : (a b more : ℕ) (before mid now : Contents) → GrowsBy a before mid → GrowsBy b mid now → a + b ≤ more
    → GrowsBy more before now
grows_more a b more before mid now first second enough = λ count room.
    let there : HoldsAtMost ((count + a) + b) now = second (count + a) (first count room) in grind (arith, holds_more)

pub grows_wider : {A : Type 0} (few many : ℕ) (before now : Contents) (result : Result A LayerFault)
    → OnOk result (GrowsBy few before now) → few ≤ many → OnOk result (GrowsBy many before now)
grows_wider {A} few many before now (Ok done) grown more =
    λ count room. holds_more _ _ now (grown count room) (omega arith)
grows_wider {A} few many before now (Err fault) grown more = grown

pub taken_short : {X : Type 0} (p : X → Bool) (xs : List X) → length (take_while p xs) ≤ length xs
taken_short p xs = rw (length-prefix_len p xs) (prefix_len-le-length p xs)

-- an edit takes no room
pub edited_holds : (count : ℕ) (contents : Contents) (edits : List Edit) → HoldsAtMost count contents
    → HoldsAtMost count (with_edits contents edits)
edited_holds count contents edits room = grind arith
