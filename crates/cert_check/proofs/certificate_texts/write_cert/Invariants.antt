-- The invariants of `write_cert` in src/certificate_texts.rt.
use Rattle.std.proofs.Common.{length}
use Rattle.cert_check.proofs.PieceLines.{IsWritten}
use Rattle.cert_check.proofs.certificate_texts.write_cert.Given as goal

-- with the lines of the other pieces it is the certificate
abbrev pub invariant-loop-piece : goal.invariant-loop-piece
invariant-loop-piece l = IsWritten l.out.items l.pieces l.rest

abbrev pub decreases-loop-piece : goal.decreases-loop-piece
decreases-loop-piece l = length l.rest
