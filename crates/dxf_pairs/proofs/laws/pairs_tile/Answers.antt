-- The proof of the law `pairs_tile` in src/laws.rt.
use Rattle.dxf_pairs.proofs.LinePlaces.{tiles, within}
use Rattle.dxf_pairs.proofs.laws.pairs_tile.Goals as goal

pub returns-clause-tile : goal.returns-clause-tile
returns-clause-tile c = tiles

pub returns-clause-within : goal.returns-clause-within
returns-clause-within c = within
