-- Answers to the goals of `add_cert` in src/layer_runs.rt.
use Rattle.std.proofs.Common.{◌≡◌, ℕ, ◌-◌, List, [], ◌∷◌, ◌++◌, map, length, take, drop, ◌∙◌, ap, sym, subst, arith}
use Rattle.std.proofs.Common.{append-nil}
use Rattle.std.proofs.lemmas.List.{map-append, take_all, length-drop}
use Rattle.tin_base.specs.declared.pieces.Piece.{Piece}
use Rattle.cert_check.specs.Certificates.{certificate_of}
use Rattle.cert_check.specs.PieceLists.{lists_of}
use Rattle.runs.specs.declared.output.LayerFile.{LayerFile}
use Rattle.runs.specs.Output.{file_of}
use Rattle.migrate_mode.specs.Names.{cert_name_in}
use Rattle.migrate_mode.proofs.layer_runs.add_cert.Goals as goal

-- all pieces from one on
pieces_from : (before : ℕ) (pieces : List Piece)
    → take (length pieces - before) (drop before pieces) ≡ drop before pieces
pieces_from before pieces =
    take_all (length pieces - before) (drop before pieces) (omega (arith, length-drop before pieces))

pub returns-then-not-cert-clause-files : goal.returns-then-not-cert-clause-files
returns-then-not-cert-clause-files c =
    rw c.if-not-cert.true (sym (append-nil (map file_of c.args.run.now.files.items)))

pub returns-clause-files : goal.returns-clause-files
returns-clause-files c =
    rw c.if-not-cert.false
    (ap (λ (files : List LayerFile). map file_of files) c.in_ok-push.ensures.items
    ∙ (map-append file_of c.args.run.now.files.items (c.in_ok-file.file ∷ [])
    ∙ ap (λ f. map file_of c.args.run.now.files.items ++ f ∷ [])
    (subst (λ (pieces : List Piece). file_of c.in_ok-file.file ≡ (
      cert_name_in c.args.folder.now c.args.name.now,
      certificate_of (lists_of pieces),
    )) (pieces_from c.args.before c.args.run.now.pieces.items)
    (rw c.deref.ensures.value at c.in_ok-file.ensures))))
