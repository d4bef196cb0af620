-- Offsets by turns: what private functions mix them by.
use Rattle.std.specs.Prelude.{ℤ, ◌+ℤ◌, ◌*ℤ◌}
use Rattle.plane_base.specs.Plane.{turn_of, whole}
use Rattle.plane_base.specs.declared.shapes.Pt.{Pt}
use Rattle.plane_base.specs.declared.shapes.Tri.{Tri}

-- three offsets, each as often as the point's turn with the side opposite its corner says
abbrev pub mixed_by_turns : Tri → Pt → ℤ → ℤ → ℤ → ℤ
mixed_by_turns t p a b c =
    turn_of (whole t.b) (whole t.c) (whole p) *ℤ a +ℤ turn_of (whole t.c) (whole t.a) (whole p) *ℤ b
    +ℤ turn_of (whole t.a) (whole t.b) (whole p) *ℤ c
