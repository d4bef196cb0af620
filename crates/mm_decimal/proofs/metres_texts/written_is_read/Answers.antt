-- The proof of the law `written_is_read` in src/metres_texts.rt.
use Rattle.mm_decimal.proofs.RoundTrip.{written_value, written_reads}
use Rattle.mm_decimal.proofs.metres_texts.written_is_read.Goals as goal

pub returns : goal.returns
returns c = record { value = written_value; read = written_reads }
