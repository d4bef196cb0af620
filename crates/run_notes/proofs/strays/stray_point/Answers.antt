-- Answers to the goals of `stray_point` in src/strays.rt.
use Rattle.std.proofs.Common.{◌≡◌, ◌∙◌, ℕ, ap, refl, rules, subst}
use Rattle.remarks.specs.LineColumns.{line_at}
use Rattle.run_notes.specs.InsideStrays.{are_small_rows}
use Rattle.run_notes.proofs.strays.stray_point.Goals as goal

pub returns : goal.returns
returns c = record {
  row = c.in_ok-row.row;
  in_list = c.in_ok-row.ensures;
  line = subst (λ (start : ℕ). c.line_and_column.result.line ≡ line_at c.args.bytes.now start) c.from.ensures
      c.line_and_column.ensures.line;
  from = refl;
  to = refl;
  triangles = search rules;
  box = rw (c.least_of.ensures, c.greatest_of.ensures) c.in_ok-triangles.ensures;
  not_asked = (refl, refl);
  small = c.are_small_rows.ensures ∙ ap are_small_rows c.items.ensures;
}
