-- Answers to the goals of `sound_of` in src/made_tins.rt.
use Rattle.std.proofs.Common.{pos, ◌<ℤ◌, arith}
use Rattle.std.proofs.lemmas.Int.{ints}
use Rattle.tin_base.specs.declared.frames.Frame.TheVariants.{Source, Target}
use Rattle.tin_base.specs.Soundness.{turn_in}
use Rattle.tin_base.proofs.TriangleLemmas.Empty.{one_sound}
use Rattle.tin_tests.proofs.made_tins.sound_of.Goals as goal

pub of-requires : goal.of-requires
of-requires c =
    let source : pos 0 <ℤ turn_in c.args.tin Source 0 = omega (arith, ints) in
    let target : pos 0 <ℤ turn_in c.args.tin Target 0 = omega (arith, ints) in
    one_sound c.args.tin c.requires source target
