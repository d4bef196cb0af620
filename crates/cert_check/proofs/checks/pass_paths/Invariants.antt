-- The invariant of the loop of `pass_paths` in src/checks.rt.
use Rattle.cert_check.proofs.SheetLaws.{IsSheetImaged}
use Rattle.cert_check.proofs.checks.pass_paths.Given as goal

-- the vertices of the paths so far have their runs
abbrev pub invariant-loop-path : goal.invariant-loop-path
invariant-loop-path l = IsSheetImaged l.tin l.points l.heights (l.sheet).paths l.gathered.points.items
    l.gathered.heights l.gathered.run.items
    l.lines l.gathered.rest.now l.path
