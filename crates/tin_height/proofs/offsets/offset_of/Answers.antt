-- Answers to the goals of `offset_of` in src/offsets.rt.
use Rattle.std.proofs.Common.{rules, ◌≡◌, ◌∙◌, ℕ, List, [], length, get_or, ap, sym, arith, SFits}
use Rattle.std.proofs.lemmas.Int.{to_z-of_z}
use mir.Syntax.{w64}
use Rattle.tin_base.specs.Triangulation.{numbers_of}
use Rattle.tin_height.specs.Offsets.{offset_in}
use Rattle.affine_image.proofs.HeightLemmas.{rise_fits}
use Rattle.tin_height.proofs.MixedOffsets.{offset_is, offset_small, three_numbers, corner_below}
use Rattle.tin_height.proofs.offsets.offset_of.Goals as goal

pub bounds-offsets-first : goal.bounds-offsets-first
bounds-offsets-first c =
    corner_below c.args.tin.now c.args.offsets.now c.triangles.result.now c.args.tri 0 c.triangles.ensures.triangles
    c.triangles.ensures.limits c.requires.offsets c.requires.in_range (omega arith)

pub bounds-offsets-second : goal.bounds-offsets-second
bounds-offsets-second c =
    corner_below c.args.tin.now c.args.offsets.now c.triangles.result.now c.args.tri 1 c.triangles.ensures.triangles
    c.triangles.ensures.limits c.requires.offsets c.requires.in_range (omega arith)

pub bounds-offsets-third : goal.bounds-offsets-third
bounds-offsets-third c =
    corner_below c.args.tin.now c.args.offsets.now c.triangles.result.now c.args.tri 2 c.triangles.ensures.triangles
    c.triangles.ensures.limits c.requires.offsets c.requires.in_range (omega arith)

pub mixed_offset-requires-clause-first : goal.mixed_offset-requires-clause-first
mixed_offset-requires-clause-first c =
    let number = get_or (get_or c.triangles.result.now c.args.tri []) 0 0 in
    let small = offset_small c.args.offsets.now c.requires.offsets.small number in
    let f : SFits w64 (offset_in c.args.offsets.now number) = rise_fits _ small in
    simp to_z-of_z small

pub mixed_offset-requires-clause-second : goal.mixed_offset-requires-clause-second
mixed_offset-requires-clause-second c =
    let number = get_or (get_or c.triangles.result.now c.args.tri []) 1 0 in
    let small = offset_small c.args.offsets.now c.requires.offsets.small number in
    let f : SFits w64 (offset_in c.args.offsets.now number) = rise_fits _ small in
    simp to_z-of_z small

pub mixed_offset-requires-clause-third : goal.mixed_offset-requires-clause-third
mixed_offset-requires-clause-third c =
    let number = get_or (get_or c.triangles.result.now c.args.tri []) 2 0 in
    let small = offset_small c.args.offsets.now c.requires.offsets.small number in
    let f : SFits w64 (offset_in c.args.offsets.now number) = rise_fits _ small in
    simp to_z-of_z small

pub returns-clause-offset : goal.returns-clause-offset
returns-clause-offset c =
    let tin = c.args.tin.now in let offsets = c.args.offsets.now in
    let ns = get_or c.triangles.result.now c.args.tri [] in
    let same : numbers_of tin c.args.tri ≡ ns =
    ap (λ (ts : List (List ℕ)). get_or ts c.args.tri []) (sym c.triangles.ensures.triangles) in
    let three = same ∙ three_numbers ns (ap length (sym same) ∙ c.triangles.ensures.limits.three c.args.tri
    c.requires.in_range) in
    let a = get_or ns 0 0 in let b = get_or ns 1 0 in let d = get_or ns 2 0 in
    let fa : SFits w64 (offset_in offsets a) = rise_fits _ (offset_small c.args.offsets.now c.requires.offsets.small a) in
    let fb : SFits w64 (offset_in offsets b) = rise_fits _ (offset_small c.args.offsets.now c.requires.offsets.small b) in
    let fd : SFits w64 (offset_in offsets d) = rise_fits _ (offset_small c.args.offsets.now c.requires.offsets.small d) in
    let fr : SFits w64 c.mixed_offset.result = search rules in
    let is = offset_is tin offsets c.args.tri c.tri.result c.args.p a b d c.mixed_offset.result c.requires.in_range
    three c.tri.ensures.corners c.requires.inside c.tri.ensures.positive (simp to_z-of_z at c.mixed_offset.ensures.value) in
    simp to_z-of_z is
