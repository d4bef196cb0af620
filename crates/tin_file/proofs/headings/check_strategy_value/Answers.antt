-- Answers to the goals of `check_strategy_value` in src/headings.rt.
use Rattle.std.proofs.Common.{◌≡◌, ◌∙◌, true, false}
use Rattle.std.specs.Prelude.{codes}
use Rattle.tin_file.specs.Keys.{says}
use Rattle.tin_file.proofs.DocumentValues.Texts.{tells_so, is_side, is_centroid, is_no_strategy}
use Rattle.tin_file.proofs.headings.check_strategy_value.Goals as goal

pub returns-then-tells-2 : goal.returns-then-tells-2
returns-then-tells-2 c is there =
    let none : says is (codes "none") ≡ false =
    tells_so is c.as_slice.result.now (codes "none") c.tells.result false (c.tells.ensures is there)
    c.as_slice.ensures c.if-tells.false in
    let side : says is (codes "nearest_side") ≡ true =
    tells_so is c.as_slice-2.result.now (codes "nearest_side") c.tells-2.result true (c.tells-2.ensures is there)
    c.as_slice-2.ensures c.if-tells-2.true in
    c.accept_fallback.ensures ∙ is_side c.args.how is none side

pub returns-then-tells-3 : goal.returns-then-tells-3
returns-then-tells-3 c is there =
    let none : says is (codes "none") ≡ false =
    tells_so is c.as_slice.result.now (codes "none") c.tells.result false (c.tells.ensures is there)
    c.as_slice.ensures c.if-tells.false in
    let side : says is (codes "nearest_side") ≡ false =
    tells_so is c.as_slice-2.result.now (codes "nearest_side") c.tells-2.result false (c.tells-2.ensures is there)
    c.as_slice-2.ensures c.if-tells-2.false in
    let centroid : says is (codes "nearest_centroid") ≡ true =
    tells_so is c.as_slice-3.result.now (codes "nearest_centroid") c.tells-3.result true
    (c.tells-3.ensures is there) c.as_slice-3.ensures c.if-tells-3.true in
    c.accept_fallback-then-tells-3.ensures ∙ is_centroid c.args.how is none side centroid

pub returns : goal.returns
returns c is there =
    let none : says is (codes "none") ≡ false =
    tells_so is c.as_slice.result.now (codes "none") c.tells.result false (c.tells.ensures is there)
    c.as_slice.ensures c.if-tells.false in
    let side : says is (codes "nearest_side") ≡ false =
    tells_so is c.as_slice-2.result.now (codes "nearest_side") c.tells-2.result false (c.tells-2.ensures is there)
    c.as_slice-2.ensures c.if-tells-2.false in
    let centroid : says is (codes "nearest_centroid") ≡ false =
    tells_so is c.as_slice-3.result.now (codes "nearest_centroid") c.tells-3.result false
    (c.tells-3.ensures is there) c.as_slice-3.ensures c.if-tells-3.false in
    is_no_strategy c.args.how is none side centroid
