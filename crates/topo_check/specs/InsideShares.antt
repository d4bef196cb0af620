-- Shares of a way in whole parts. Only private functions speak of them.
use Rattle.std.specs.Prelude.{◌*ℤ◌, ◌≤ℤ◌}
use Rattle.frac128.specs.declared.frac.Frac.{Frac}
use Rattle.topo_check.specs.declared.parts.Share.{Share}
use Rattle.topo_check.specs.declared.parts.TheConstants.{PARTS}

-- the parts are those of a share, rounded down and up
pub record IsShareOf (share : Share) (of : Frac) : Type 0 where
  pub down : (share.down *ℤ of.den) ≤ℤ (of.num *ℤ PARTS)
  pub up : (of.num *ℤ PARTS) ≤ℤ (share.up *ℤ of.den)
