-- Answers to the goals of `field` in src/fields.rt.
use Rattle.std.proofs.Common.{◌∙◌, ◌++◌, List, get_or, ap, sym, arith, FitsSigned, w32, rules}
use Rattle.std.proofs.lemmas.Int.{to_z-of_z}
use Rattle.dxf_pairs.specs.declared.pairs.Pair.{Pair}
use Rattle.dxf_entities.proofs.NoPairs.{no_pair}
use Rattle.dxf_entities.proofs.Lists.{list_of, coded_on, other_on, first_found, second_found}
use Rattle.dxf_entities.proofs.fields.field.Goals.{then-has_code+else-is_some, else-has_code}
use Rattle.dxf_entities.proofs.fields.field.Goals as goal

pub returns-then-is_some : goal.returns-then-is_some
returns-then-is_some c =
    let pairs = c.args.entity.now.pairs.now in
    let fits : FitsSigned w32 c.args.code = search rules in
    let pair_fits : FitsSigned w32 (get_or pairs c.loop-at.at no_pair).code = search rules in
    let so_far = simp to_z-of_z at c.loop-at.invariant.fields in
    let small = simp to_z-of_z at c.if-pairs-at-lt1000.true in
    let here = sym (simp to_z-of_z at c.has_code.ensures) ∙ c.if-has_code.true in
    let next = coded_on c.args.code pairs c.loop-at.at no_pair c.loop-at-test.true small here in
    rw c.from.ensures (second_found c.loop-at.found _ _ _
    (ap (λ (left : List Pair). list_of c.loop-at.found ++ left) (sym next) ∙ so_far)
    (sym c.is_some.ensures ∙ c.if-is_some.true))

pub loop-at-preserved : goal.loop-at-preserved
loop-at-preserved c =
    let pairs = c.args.entity.now.pairs.now in
    let fits : FitsSigned w32 c.args.code = search rules in
    let pair_fits : FitsSigned w32 (get_or pairs c.loop-at.at no_pair).code = search rules in
    let so_far = simp to_z-of_z at c.loop-at.invariant.fields in
    let small = simp to_z-of_z at c.if-pairs-at-lt1000.true in
    let same = simp to_z-of_z at c.has_code.ensures in
    record {
      within = omega (arith, c.loop-at-test.true);
      fields = simp to_z-of_z (elim c.if-has_code.branch [
        | then-has_code+else-is_some w ↦
            let next = coded_on c.args.code pairs c.loop-at.at no_pair c.loop-at-test.true small
            (sym same ∙ w.if-has_code.true) in
            rw w.found-is (first_found c.loop-at.found (get_or pairs c.loop-at.at no_pair) _ _
            (ap (λ (left : List Pair). list_of c.loop-at.found ++ left) (sym next) ∙ so_far)
            (sym w.is_some.ensures ∙ w.if-is_some.false))
        | else-has_code w ↦
            let next = other_on c.args.code pairs c.loop-at.at no_pair c.loop-at-test.true small
            (sym same ∙ w.if-has_code.false) in
            rw w.found-is (ap (λ (left : List Pair). list_of c.loop-at.found ++ left) (sym next) ∙ so_far)
      ]);
    }
