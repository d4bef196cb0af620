-- The proof of the law `each_node_has_a_value` in src/lookup.rt.
use Rattle.jtext.proofs.CallerLemmas.NodePlaces.{node_stands}
use Rattle.jtext.proofs.CallerLemmas.MemberLoops.{object_there}
use Rattle.jtext.proofs.lookup.each_node_has_a_value.Goals as goal

pub returns-clause-value : goal.returns-clause-value
returns-clause-value c doc bytes number (whole, r) below = node_stands whole doc bytes r number below

pub returns-clause-object : goal.returns-clause-object
returns-clause-object c doc bytes number read kind = (object_there doc bytes number read kind).1
