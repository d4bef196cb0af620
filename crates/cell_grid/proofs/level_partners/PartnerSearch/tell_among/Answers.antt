-- Answers to the goals of `Asked::tell_among` in src/level_partners.rt.
use Rattle.std.proofs.Common.{◌≡◌, ◌+◌, ◌-◌, ◌<◌, ℕ, length, get_or, subst, arith}
use Rattle.std.proofs.lemmas.List.Elements.{Contains-get_or}
use Rattle.cell_grid.specs.InsideLevelPartners.{DoesTell, IsToldFrom}
use Rattle.cell_grid.proofs.Tells.{from_more, from_first, from_none}
use Rattle.cell_grid.proofs.level_partners.PartnerSearch.tell_among.Goals as goal

pub loop-left-init : goal.loop-left-init
loop-left-init c = (
  omega arith,
  from_none c.args.self.now c.args.boxes.now.boxes c.args.window.index c.args.numbers.now
      c.args.found.now.items,
)

pub loop-left-preserved : goal.loop-left-preserved
loop-left-preserved c =
    let i = c.loop-left.left - 1 in
    let behind : c.loop-left.left ≡ i + 1 = omega (arith, c.loop-left-test.true) in
    let within : i < length c.args.numbers.now = omega (arith, c.loop-left-test.true, c.loop-left.invariant.0) in
    let before = subst (λ (n : ℕ). DoesTell (IsToldFrom c.args.self.now c.args.boxes.now.boxes c.args.window.index
    c.args.numbers.now n) c.args.found.now.items c.loop-left.found.items) behind c.loop-left.invariant.1 in (
      omega (arith, within),
      from_more c.args.self.now c.args.boxes.now.boxes c.args.window.index c.args.numbers.now i c.args.found.now.items
          c.loop-left.found.items c.tell_one.new.found.items within c.requires.ascending before
          c.in_ok-tell_one.ensures,
    )

pub returns-then-number-self : goal.returns-then-number-self
returns-then-number-self c =
    let i = c.loop-left.left - 1 in
    let behind : c.loop-left.left ≡ i + 1 = omega (arith, c.loop-left-test.true) in
    let within : i < length c.args.numbers.now = omega (arith, c.loop-left-test.true, c.loop-left.invariant.0) in
    let before = subst (λ (n : ℕ). DoesTell (IsToldFrom c.args.self.now c.args.boxes.now.boxes c.args.window.index
    c.args.numbers.now n) c.args.found.now.items c.loop-left.found.items) behind c.loop-left.invariant.1 in
    from_first c.args.self.now c.args.boxes.now.boxes c.args.window.index c.args.numbers.now i c.args.found.now.items
    c.loop-left.found.items within c.requires.ascending c.if-number-self.true before

pub tell_one-requires-clause-number : goal.tell_one-requires-clause-number
tell_one-requires-clause-number c =
    let i = c.loop-left.left - 1 in
    c.requires.numbers (get_or c.args.numbers.now i 0)
    (Contains-get_or c.args.numbers.now i 0 (omega (arith, c.loop-left-test.true, c.loop-left.invariant.0)))

pub returns : goal.returns
returns c =
    let none : c.loop-left.left ≡ 0 = omega (arith, c.loop-left-test.false) in
    subst (λ (n : ℕ). DoesTell (IsToldFrom c.args.self.now c.args.boxes.now.boxes c.args.window.index c.args.numbers.now
    n) c.args.found.now.items c.loop-left.found.items) none c.loop-left.invariant.1
