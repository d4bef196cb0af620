-- Answers to the goals of `prepare_check` in src/checks.rt.
use Rattle.std.proofs.Common.{◌≡◌, List, map, rules, refl, ap}
use Rattle.runs.specs.declared.output.LayerFile.{LayerFile}
use Rattle.runs.specs.Output.{file_of}
use Rattle.check_mode.specs.Checks.{sound_text}
use Rattle.runs.proofs.PassedRefusals.{handed_on}
use Rattle.check_mode.proofs.CheckRefusals.{check_refused}
use Rattle.check_mode.proofs.checks.prepare_check.Goals as goal

pub returns-clause-form : goal.returns-clause-form
returns-clause-form g c =
    let said : c.of.result ≡ sound_text c.in_ok-tin.tin = search rules in
    record {
      writable = rw c.new.ensures.items tt;
      is_of = (
        ap (λ (files : List LayerFile). map file_of files) c.new.ensures.items,
        refl,
        record { tin = c.in_ok-tin.tin; sound = c.sound_line.ensures.sound; said_is = said },
      );
    }

pub returns-in_err-tin-clause-refused : goal.returns-in_err-tin-clause-refused
returns-in_err-tin-clause-refused g c =
    handed_on _ c.in_err-tin.field-0.0 c.from_residual.result c.from_residual.ensures.1
    (check_refused (g.S.Shelf.files c.args.shelf.now) c.args.how c.args.name.now _ _ c.in_err-tin.field-0.0
    (rw c.text.ensures at c.in_err-tin.ensures.refused))
