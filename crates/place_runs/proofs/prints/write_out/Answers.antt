-- Answers to the goals of `write_out` in src/prints.rt.
use Rattle.place_runs.proofs.PrintedMaps.HeldBytes.{moves_none}
use Rattle.place_runs.proofs.prints.write_out.Goals as goal

pub returns-then-len-le-MOST_HELD-clause-ok : goal.returns-then-len-le-MOST_HELD-clause-ok
returns-then-len-le-MOST_HELD-clause-ok g c = moves_none (g.P.Press.made c.args.press.now) c.args.room.now.items
