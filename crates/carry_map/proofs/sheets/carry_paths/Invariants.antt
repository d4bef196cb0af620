-- The invariant of the loop of `carry_paths` in src/sheets.rt.
use Rattle.carry_map.proofs.SheetSteps.{IsSheetCarried}
use Rattle.carry_map.proofs.sheets.carry_paths.Given as goal

-- the paths so far are carried
abbrev pub invariant-loop-number : goal.invariant-loop-number
invariant-loop-number l =
    IsSheetCarried l.index l.layer l.points l.heights (l.sheet).paths l.most l.gathered.points.items l.gathered.heights
    l.gathered.run.items l.fn.pieces.items l.pieces.items l.number
