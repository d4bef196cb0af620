-- Answers to the goals of `put_triangles` in src/maker_texts.rt.
use Rattle.std.proofs.Common.{◌≡◌, ◌++◌, ℕ, subst, arith}
use Rattle.std.specs.List.{flat_map}
use Rattle.migrate_mode.specs.MakerTexts.{below, cell_rows, ended_rows}
use Rattle.migrate_mode.proofs.MakerRows.{one_more_list}
use Rattle.migrate_mode.proofs.maker_texts.put_triangles.Goals as goal

pub loop-j-preserved : goal.loop-j-preserved
loop-j-preserved c =
    let here = c.loop-j.invariant in
    let put = c.in_ok-put_cell_line.ensures in
    record {
      text = one_more_list (λ j. flat_map (λ i. cell_rows c.args.n i j) (below c.args.n)) c.args.out.now.items _
          _ _ here.text put.text;
      short = omega (arith, here.short, put.short);
    }

pub returns-clause-text : goal.returns-clause-text
returns-clause-text c =
    let here = c.loop-j.invariant in
    let last : c.loop-j.j ≡ c.args.n = omega arith in
    subst (λ (k : ℕ). c.loop-j.out.items ≡ c.args.out.now.items
    ++ ended_rows (flat_map (λ j. flat_map (λ i. cell_rows c.args.n i j) (below c.args.n)) (below k))) last
    here.text
