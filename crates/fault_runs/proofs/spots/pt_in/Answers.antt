-- Answers to the goals of `pt_in` in src/spots.rt.
use Rattle.fault_runs.proofs.SpotPlaces.{pt_at}
use Rattle.fault_runs.proofs.spots.pt_in.Goals as goal

pub returns : goal.returns
returns c = pt_at c.args.tin.now c.args.frame c.args.number c.place.result c.place.ensures.place
