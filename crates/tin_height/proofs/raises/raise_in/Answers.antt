-- Answers to the goals of `raise_in` in src/raises.rt.
use Rattle.std.proofs.Common.{rules, ◌+ℤ◌, SFits, refl, subst}
use Rattle.std.proofs.lemmas.Int.{to_z-of_z}
use mir.Syntax.{w64}
use Rattle.tin_base.specs.Triangulation.{Triangulation}
use Rattle.affine_image.specs.RoundedImages.{IsRoundedImage}
use Rattle.affine_image.proofs.HeightLemmas.{height_fits}
use Rattle.tin_height.specs.Offsets.{IsRoundedOffset}
use Rattle.tin_height.proofs.raises.raise_in.Goals as goal

pub returns : goal.returns
returns c =
    let z = c.args.row.z in let o = c.offset_of.result in
    let fz : SFits w64 z = search rules in let fo : SFits w64 o = search rules in
    let f : SFits w64 (z +ℤ o) = height_fits z o c.requires.height c.offset_of.ensures.size in
    record {
      image = subst (λ (tin : Triangulation). IsRoundedImage tin c.args.row.p c.image_of.result) c.tin.ensures
          c.image_of.ensures;
      offset = o;
      offset_is = subst (λ (tin : Triangulation). IsRoundedOffset tin c.args.offsets.now c.args.row.p o) c.tin-2.ensures
          c.offset_of.ensures.offset;
      height = simp to_z-of_z refl;
    }
