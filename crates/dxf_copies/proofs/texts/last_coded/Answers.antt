-- Answers to the goals of `last_coded` in src/texts.rt.
use Rattle.std.proofs.Common.{◌≡◌, ◌∙◌, sym, refl, arith, FitsSigned, w32, rules, true, false, get_or, ◌-◌}
use Rattle.std.proofs.lemmas.Int.{to_z-of_z}
use Rattle.dxf_entities.specs.Entities.{is_coded}
use Rattle.dxf_copies.proofs.CopyLists.{last_at}
use Rattle.dxf_entities.proofs.NoPairs.{no_pair}
use Rattle.dxf_copies.proofs.texts.last_coded.Goals as goal

pub returns-then-has_code : goal.returns-then-has_code
returns-then-has_code c =
    let fits : FitsSigned w32 c.args.code = search rules in
    let so_far = simp to_z-of_z at c.loop-left.invariant.1 in
    let here = simp to_z-of_z at c.has_code.ensures in
    let yes : is_coded c.args.code (get_or c.args.pairs.now (c.loop-left.left - 1) no_pair) ≡ true = sym here
    ∙ c.if-has_code.true in
    sym (last_at c.args.code c.args.pairs.now c.loop-left.left c.loop-left-test.true c.loop-left.invariant.0
    ∙ rw yes refl) ∙ so_far

pub loop-left-preserved : goal.loop-left-preserved
loop-left-preserved c =
    let fits : FitsSigned w32 c.args.code = search rules in
    let so_far = simp to_z-of_z at c.loop-left.invariant.1 in
    let here = simp to_z-of_z at c.has_code.ensures in
    let not_here : is_coded c.args.code (get_or c.args.pairs.now (c.loop-left.left - 1) no_pair) ≡ false = sym here
    ∙ c.if-has_code.false in (
      omega (arith, c.loop-left.invariant.0),
      simp to_z-of_z (sym (last_at c.args.code c.args.pairs.now c.loop-left.left c.loop-left-test.true
          c.loop-left.invariant.0 ∙ rw not_here refl) ∙ so_far),
    )
