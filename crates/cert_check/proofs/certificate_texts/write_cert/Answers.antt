-- Answers to the goals of `write_cert` in src/certificate_texts.rt.
use Rattle.std.proofs.Common.{Bool, [], ◌∷◌, ◌++◌, decimal, ◌∙◌, ap}
use Rattle.cert_check.specs.Certificates.{separator}
use Rattle.cert_check.proofs.PieceLines.{written_more}
use Rattle.cert_check.proofs.certificate_texts.write_cert.Goals as goal

pub loop-piece-preserved : goal.loop-piece-preserved
loop-piece-preserved c =
    written_more c.loop-piece.out.items c.push_number.new.out.items c.args.pieces.now c.loop-piece.rest.now
    c.in-Some.behind.now c.in-Some.piece.now c.loop-piece.invariant c.in-Some.ensures.cases.0
    (c.in_ok-push_number.ensures ∙ ap (λ (last : Bool). c.loop-piece.out.items
    ++ (decimal c.in-Some.piece.now.tri ++ separator last ∷ [])) c.ends_segment.ensures)
