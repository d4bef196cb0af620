-- Pairs that follow each other without a gap.
use Rattle.std.proofs.Common.{ℕ, ◌+◌, ◌≤◌, List, [], ◌∷◌, arith}
use Rattle.dxf_pairs.specs.declared.pairs.Pair.{Pair}
use Rattle.dxf_pairs.specs.Laws.{AreTiles}

pub tiles_upto : (start line past : ℕ) (pairs : List Pair) → AreTiles start line pairs past → start ≤ past
tiles_upto start line past [] tiles = omega (arith, tiles)
tiles_upto start line past (pair ∷ pairs) tiles =
    omega (arith, tiles.0, tiles.2, tiles.3, tiles.4, tiles_upto pair.end (line + 2) past pairs tiles.5)
