-- Answers to the goals of `bounds_in` in src/level_partners.rt.
use Rattle.std.proofs.Common.{◌+◌, ◌-◌, ◌*◌, ◌≤◌, ◌<◌, ℕ, inl, inr, refl, ap, ap₂, ◌∙◌, subst, arith}
use Rattle.std.specs.Prelude.{min}
use Rattle.cell_grid.proofs.Windows.{bounds_of}
use Rattle.cell_grid.proofs.level_partners.bounds_in.Goals as goal

pub returns-then-start-first : goal.returns-then-start-first
returns-then-start-first c =
    let shift = c.args.level.now.shift in
    bounds_of shift c.args.stripe c.args.first c.args.last 0 c.min.result c.requires.from c.requires.to
    (c.min.ensures ∙ ap₂ (λ (m n : ℕ). min c.args.last (c.args.stripe * m + (n - 1))) c.width.ensures c.width-2.ensures)
    (inl (subst (λ (w : ℕ). c.args.stripe * w ≤ c.args.first) c.width.ensures c.if-start-first.true, refl))

pub returns : goal.returns
returns c =
    let shift = c.args.level.now.shift in
    bounds_of shift c.args.stripe c.args.first c.args.last (c.args.stripe * c.width.result) c.min-2.result
    c.requires.from c.requires.to
    (c.min-2.ensures ∙ ap₂ (λ (m n : ℕ). min c.args.last (c.args.stripe * m + (n - 1))) c.width.ensures
    c.width-2.ensures)
    (inr (
      subst (λ (w : ℕ). c.args.first < c.args.stripe * w) c.width.ensures (omega (arith, c.if-start-first.false)),
      ap (λ (w : ℕ). c.args.stripe * w) c.width.ensures,
    ))
