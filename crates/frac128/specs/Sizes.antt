-- How large the numbers of a fraction are.
use Rattle.std.specs.Prelude.{ℤ, pos, ◌<ℤ◌, unsigned_abs}
use Rattle.frac128.specs.declared.frac.TheConstants.{TURN}

-- below `TURN` in magnitude
abbrev pub IsSmall : ℤ → Type 0
IsSmall z = pos (unsigned_abs z) <ℤ TURN
