-- The whole way from a point to itself. Only private functions speak of it.
use Rattle.std.specs.Prelude.{◌≡◌, pos}
use Rattle.plane_base.specs.declared.stretches.End.TheVariants.{Vertex}
use Rattle.plane_base.specs.declared.stretches.Stretch.{Stretch}

-- the stretch goes from 0 to 1
pub record IsFromZeroToOne (s : Stretch) : Type 0 where
  pub lo : s.lo.num ≡ pos 0
  pub lo_whole : s.lo.den ≡ pos 1
  pub hi : s.hi.num ≡ pos 1
  pub hi_whole : s.hi.den ≡ pos 1
  pub enter : s.enter ≡ Vertex
  pub leave : s.leave ≡ Vertex
