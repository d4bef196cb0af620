-- The changes from path to path, and from layer to layer.
use Rattle.std.proofs.Common.{◌≡◌, ℕ, ◌+◌, ◌<◌, ◌≤◌, List, [], length, get_or, drop, sym, subst, arith}
use Rattle.std.proofs.lemmas.List.{drop_more}
use Rattle.sheet_base.specs.declared.paths.PathRow.{PathRow}
use Rattle.sheet_base.specs.Sheets.{Contents}
use Rattle.sheet_base.specs.ImageFits.{Runs, no_path}
use Rattle.ring_side.specs.declared.kinds.SideChange.{SideChange}
use Rattle.ring_side.specs.SideChanges.{path_changes, paths_changes, layers_changes, sheet_at}
use Rattle.ring_side.specs.InsideLists.{AreOnWay, DoesAdd}
use Rattle.ring_side.proofs.ChangeLists.OnWay.{begun, added_more, remain_as}

pub path_step : (sheets : List Contents) (images : List Runs) (layer k most : ℕ) (rows : List PathRow) (before after all : List SideChange)
    → k < length rows → length before ≤ most → AreOnWay most before (paths_changes sheets images layer k (drop k rows)) all
    → DoesAdd most before after (path_changes sheets images layer k (get_or rows k no_path).kind)
    → AreOnWay most after (paths_changes sheets images layer (k + 1) (drop (k + 1) rows)) all
path_step sheets images layer k most rows before after all within few on adds =
    grind (arith, added_more, get_or, remain_as, drop_more)

pub layer_step : (sheets : List Contents) (images : List Runs) (k most : ℕ) (before after all : List SideChange)
    → k < length sheets → length before ≤ most → AreOnWay most before (layers_changes sheets images k (drop k sheets)) all
    → DoesAdd most before after (paths_changes sheets images k 0 (sheet_at sheets k).paths)
    → AreOnWay most after (layers_changes sheets images (k + 1) (drop (k + 1) sheets)) all
layer_step sheets images k most before after all within few on adds = grind (arith, added_more, remain_as, drop_more)

pub begun_empty : (most : ℕ) (changes all : List SideChange) → changes ≡ [] → AreOnWay most changes all all
begun_empty most changes all e = subst (λ (cs : List SideChange). AreOnWay most cs all all) (sym e) (begun most [] all)
