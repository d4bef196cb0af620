-- Answers to the goals of `find_among` in src/searches.rt.
use Rattle.std.proofs.Common.{◌≡◌, ◌+◌, ℕ, get_or, Contains, inl, inr, ⊎_elim, sym, ap, ◌∙◌, arith}
use Rattle.std.proofs.lemmas.Bool.{cases_lt}
use Rattle.std.proofs.lemmas.Grind.{get_or_default_zero}
use Rattle.std.proofs.lemmas.List.Elements.{Contains-get_or}
use Rattle.cell_grid.specs.InsideSearches.{IsOneOf}
use Rattle.cell_grid.proofs.Finds.{find_as, find_more}
use Rattle.cell_grid.proofs.searches.find_among.Goals as goal

pub find_one-requires-clause-number : goal.find_one-requires-clause-number
find_one-requires-clause-number c = c.requires.numbers (get_or c.args.numbers.now c.loop-number.number-index 0)
    (Contains-get_or c.args.numbers.now c.loop-number.number-index 0 c.loop-number-test.true)

pub loop-number-preserved : goal.loop-number-preserved
loop-number-preserved c =
    find_more c.args.boxes.now.boxes c.args.r.now (IsOneOf c.args.numbers.now c.loop-number.number-index)
    (λ n. n ≡ get_or c.args.numbers.now c.loop-number.number-index 0)
    (IsOneOf c.args.numbers.now (c.loop-number.number-index + 1))
    c.args.found.now.items c.loop-number.found.items c.find_one.new.found.items c.loop-number.invariant
    c.in_ok-find_one.ensures
    (λ n u _. ⊎_elim
    (λ earlier. inl (u.0, earlier, u.2))
    (λ late. let e : u.0 ≡ c.loop-number.number-index =
    omega (arith, u.1) in inr (sym u.2 ∙ ap (λ (k : ℕ). get_or c.args.numbers.now k 0) e))
    (cases_lt u.0 c.loop-number.number-index))

pub returns : goal.returns
returns c =
    find_as c.args.boxes.now.boxes c.args.r.now (IsOneOf c.args.numbers.now c.loop-number.number-index)
    (Contains c.args.numbers.now) c.args.found.now.items c.loop-number.found.items c.loop-number.invariant
    (λ n h _. (
      h.0,
      omega (arith, h.1, c.loop-number-test.false),
      sym (get_or_default_zero c.args.numbers.now h.0 n h.1)
          ∙ h.2,
    ))
