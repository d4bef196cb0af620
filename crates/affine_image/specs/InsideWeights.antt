-- The numbers of a mix by weights out of a whole.
use Rattle.std.specs.Prelude.{ℤ, ◌+ℤ◌, ◌-ℤ◌, ◌*ℤ◌}
use Rattle.affine_image.specs.declared.weights.Weights.{Weights}

-- `whole` times the mix of three numbers
abbrev pub numerator : Weights → ℤ → ℤ → ℤ → ℤ
numerator w a b c = (w.whole -ℤ w.second -ℤ w.third) *ℤ a +ℤ w.second *ℤ b +ℤ w.third *ℤ c
