-- A ring in one frame, with its boxes. Only private functions speak of it.
use Rattle.std.specs.Prelude.{◌≡◌, List}
use Rattle.plane_base.specs.declared.shapes.Pt.{Pt}
use Rattle.ring_side.specs.declared.forms.Form.{Form}
use Rattle.ring_side.specs.InsideParts.{HasAll}
use Rattle.ring_side.specs.InsideTrees.{AreNodesOf}

pub record IsForm (form : Form) (points : List Pt) : Type 0 where
  pub same : form.points.now ≡ points
  pub around : HasAll form.around points
  pub nodes : AreNodesOf points form.nodes.items
