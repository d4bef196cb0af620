-- The proof of the law `pieces_keep_relations` in src/laws.rt.
use Rattle.meet_rel.proofs.PieceRelations.{pieces_keep_relations}
use Rattle.meet_rel.proofs.laws.pieces_keep_relations.Goals as goal

pub returns : goal.returns
returns c = pieces_keep_relations
