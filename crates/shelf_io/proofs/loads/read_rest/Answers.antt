-- Answers to the goals of `read_rest` in src/loads.rt.
use Rattle.std.proofs.Common.{refl, arith}
use Rattle.shelf_io.proofs.Rest.{Taken-start}
use Rattle.shelf_io.proofs.loads.read_rest.Goals as goal

pub loop-buf-init : goal.loop-buf-init
loop-buf-init g c = record {
  taken = rw c.new-bytes.ensures.items (Taken-start (g.S.Shelf.left c.args.shelf.now));
  at_hand = c.requires.at_hand;
  files = refl;
  given = omega arith;
  given_later = omega arith;
  faults = refl;
}
