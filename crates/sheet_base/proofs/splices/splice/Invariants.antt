-- The invariant of the loop of `splice` in src/splices.rt.
use Rattle.std.proofs.Common.{drop}
use Rattle.sheet_base.proofs.SpliceLaws.{IsSpliced}
use Rattle.sheet_base.proofs.splices.splice.Given as goal

abbrev pub invariant-loop-edit : goal.invariant-loop-edit
invariant-loop-edit g l = IsSpliced l.bytes (g.T.EditTexts.text l.texts) l.edits (drop l.edit-index l.edits) l.from
    l.out.items
