-- Answers to the goals of `carry_next` in src/layer_runs.rt.
use Rattle.std.proofs.Common.{◌≡◌, ◌+◌, ℕ, List, [], ◌∷◌, ◌++◌, map, length, drop, Some, refl, ◌∙◌, ap, subst}
use Rattle.std.proofs.Common.{append_assoc}
use Rattle.std.proofs.lemmas.List.{map-append}
use Rattle.shelf_io.specs.Files.{Files}
use Rattle.report_text.specs.declared.rows.LayerRow.{LayerRow}
use Rattle.job_words.specs.Formats.{format_by_name}
use Rattle.runs.specs.declared.output.LayerFile.{LayerFile}
use Rattle.migrate_mode.specs.LayerRuns.{Done}
use Rattle.migrate_mode.specs.Migrations.{file_in, certs_of}
use Rattle.runs.specs.Output.{file_of}
use Rattle.runs.specs.declared.refusal.Refusal.TheVariants.{NoMemory}
use Rattle.runs.proofs.PassedRefusals.{handed_on}
use Rattle.migrate_mode.proofs.LayerRefusals.{none_by_memory}
use Rattle.migrate_mode.proofs.RunSheets.{kept_next}
use Rattle.migrate_mode.proofs.layer_runs.carry_next.Goals as goal

-- one more file
one_more_file : (before now : List LayerFile) (file : LayerFile) (folder : List ℕ) (done : Done)
    → now ≡ before ++ file ∷ [] → file_of file ≡ file_in folder done
    → map file_of now ≡ map file_of before ++ file_in folder done ∷ []
one_more_file before now file folder done is same =
    ap (λ (files : List LayerFile). map file_of files) is
    ∙ (map-append file_of before (file ∷ []) ∙ ap (λ f. map file_of before ++ f ∷ []) same)

-- and its certificate, where it is wanted
with_cert : (before now after certs : Files) (file : List ℕ × List ℕ) → now ≡ before ++ file ∷ [] → after ≡ now ++ certs
    → after ≡ before ++ file ∷ certs
with_cert before now after certs file is then = then
    ∙ (ap (λ (fs : Files). fs ++ certs) is ∙ append_assoc before (file ∷ []) certs)

pub returns-clause-ok : goal.returns-clause-ok
returns-clause-ok c =
    let added = c.in_ok-add_layer.ensures in
    let certified = c.in_ok-add_cert.ensures in
    let kept = c.in_ok-keep_sheet.ensures in
    let layer = c.in_ok-layer.layer in
    let place : c.len-before.result ≡ length c.args.run.now.pieces.items =
    c.len-before.ensures ∙ c.args.run.now.pieces.ok.0 in
    let done : Done = record {
      name = c.args.name.now;
      format = c.known_format-format.result;
      carried = layer.carried;
      pieces = drop (length c.args.run.now.pieces.items) c.add_cert.new.run.pieces.items;
    } in
    record {
      done = done;
      named = refl;
      suffix = subst (λ (name : List ℕ). format_by_name name ≡ Some c.known_format-format.result) c.text.ensures
          c.known_format-format.ensures;
      carried =
          rw (certified.pieces, added.pieces, kept.pieces) c.in_ok-layer.ensures.ok;
      own = refl;
      files = with_cert (map file_of c.args.run.now.files.items) (map file_of c.add_layer.new.run.files.items) _
          (certs_of c.args.cert c.args.folder.now c.args.name.now done.pieces) (file_in c.args.folder.now done)
          (one_more_file c.args.run.now.files.items c.add_layer.new.run.files.items c.in_ok-file.file
          c.args.folder.now done (rw (← kept.files) added.files) c.in_ok-file.ensures)
          (rw (certified.pieces, ← place) certified.files);
      rows = rw certified.rows
          (rw (← kept.rows) added.rows ∙ ap (λ (row : LayerRow). c.args.run.now.rows.items ++ row ∷ [])
          c.in_ok-row.ensures);
      used = ap (λ u. u + length c.args.bytes.now) (certified.used ∙ (added.used ∙ kept.used));
    }

pub returns-in_err-layer-clause-refused : goal.returns-in_err-layer-clause-refused
returns-in_err-layer-clause-refused c =
    handed_on _ c.in_err-layer.field-0.0 c.from_residual.result c.from_residual.ensures.1
    (record {
      format = c.known_format-format.result;
      suffix = subst (λ (name : List ℕ). format_by_name name ≡ Some c.known_format-format.result) c.text.ensures
          c.known_format-format.ensures;
      why = c.in_err-layer.ensures.refused;
    })

pub returns-in_err-row-clause-refused : goal.returns-in_err-row-clause-refused
returns-in_err-row-clause-refused c =
    handed_on _ NoMemory c.from_residual-in_err-row.result c.from_residual-in_err-row.ensures.1
    (none_by_memory _ _ _ _ _ _ c.known_format-format.result
    (subst (λ (name : List ℕ). format_by_name name ≡ Some c.known_format-format.result) c.text.ensures
    c.known_format-format.ensures))

pub returns-in_err-file-clause-refused : goal.returns-in_err-file-clause-refused
returns-in_err-file-clause-refused c =
    handed_on _ NoMemory c.from_residual-in_err-file.result c.from_residual-in_err-file.ensures.1
    (none_by_memory _ _ _ _ _ _ c.known_format-format.result
    (subst (λ (name : List ℕ). format_by_name name ≡ Some c.known_format-format.result) c.text.ensures
    c.known_format-format.ensures))

pub returns-in_err-add_layer-clause-refused : goal.returns-in_err-add_layer-clause-refused
returns-in_err-add_layer-clause-refused c =
    handed_on _ NoMemory c.from_residual-in_err-add_layer.result c.from_residual-in_err-add_layer.ensures.1
    (none_by_memory _ _ _ _ _ _ c.known_format-format.result
    (subst (λ (name : List ℕ). format_by_name name ≡ Some c.known_format-format.result) c.text.ensures
    c.known_format-format.ensures))

pub returns-in_err-add_cert-clause-refused : goal.returns-in_err-add_cert-clause-refused
returns-in_err-add_cert-clause-refused c =
    handed_on _ NoMemory c.from_residual-in_err-add_cert.result c.from_residual-in_err-add_cert.ensures.1
    (none_by_memory _ _ _ _ _ _ c.known_format-format.result
    (subst (λ (name : List ℕ). format_by_name name ≡ Some c.known_format-format.result) c.text.ensures
    c.known_format-format.ensures))

pub returns-in_err-keep_sheet-clause-refused : goal.returns-in_err-keep_sheet-clause-refused
returns-in_err-keep_sheet-clause-refused c =
    handed_on _ NoMemory c.from_residual-in_err-keep_sheet.result c.from_residual-in_err-keep_sheet.ensures.1
    (none_by_memory _ _ _ _ _ _ c.known_format-format.result
    (subst (λ (name : List ℕ). format_by_name name ≡ Some c.known_format-format.result) c.text.ensures
    c.known_format-format.ensures))

pub returns-clause-kept : goal.returns-clause-kept
returns-clause-kept c =
    let added = c.in_ok-add_layer.ensures in
    let certified = c.in_ok-add_cert.ensures in
    let layer = c.in_ok-layer.layer in
    let is = c.in_ok-layer.ensures in
    let keeps = c.in_ok-keep_sheet.ensures in
    kept_next c.args.run.now.sides c.args.how c.args.index.now c.args.name.now c.args.bytes.now c.args.run.now
    (record c.args.run.now { pieces = c.carry_by_format.new.pieces }) c.keep_sheet.new.run _
    c.known_format-format.result layer.sheet layer.images
    (subst (λ (name : List ℕ). format_by_name name ≡ Some c.known_format-format.result) c.text.ensures
    c.known_format-format.ensures) is.kept is.placed keeps.kept refl refl
    (certified.sheets ∙ added.sheets)
    (certified.images ∙ added.images)
