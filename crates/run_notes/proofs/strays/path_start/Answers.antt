-- Answers to the goals of `path_start` in src/strays.rt.
use Rattle.std.proofs.Common.{◌∙◌, ap}
use Rattle.sheet_base.specs.declared.edits.Edit.{Edit}
use Rattle.sheet_base.specs.EditStarts.{is_number, path_of}
use Rattle.run_notes.specs.InsideStrays.{start_of}
use Rattle.run_notes.proofs.EditStarts.{start-first}
use Rattle.run_notes.proofs.strays.path_start.Goals as goal

pub returns : goal.returns
returns c = c.start_at.ensures ∙ ap (start_of c.args.edits.now) c.path_edit.ensures
    ∙ start-first (λ (edit : Edit). is_number c.args.path (path_of edit.what)) c.args.edits.now
