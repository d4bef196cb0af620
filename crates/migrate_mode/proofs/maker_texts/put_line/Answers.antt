-- Answers to the goals of `put_line` in src/maker_texts.rt.
use Rattle.std.proofs.Common.{◌+◌, ◌*◌, ◌%◌, codes, decimal}
use Rattle.migrate_mode.specs.MakerTexts.{layer_line}
use Rattle.migrate_mode.proofs.MakerRows.{four_parts}
use Rattle.migrate_mode.proofs.maker_texts.put_line.Goals as goal

pub returns-clause-text : goal.returns-clause-text
unfolding layer_line
returns-clause-text c =
    four_parts c.args.out.now.items _ _ _ _ (codes "LINESTRING (0 ") (decimal (10 * c.args.k + 2)) (codes ".5, ")
    (decimal (10 * c.args.n)) (codes " ")
    (decimal (10 * ((3 * c.args.k) % c.args.n) + 7)) (codes ".5)\n") c.in_ok-put.ensures.text
    c.in_ok-put_number.ensures.text c.in_ok-put_number-2.ensures.text c.in_ok-put_number-3.ensures.text
