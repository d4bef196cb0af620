-- Answers to the goals of `entries_of` in src/entries.rt.
use Rattle.std.proofs.Common.{◌≡◌, ◌+◌, ◌++◌, map, List, ℕ, sym, subst, ap, ◌∙◌, length, rules}
use Rattle.number_groups.specs.declared.groups.Entry.{Entry}
use Rattle.cell_grid.specs.InsideEntries.{AreEntered, entry_of}
use Rattle.cell_grid.proofs.LevelEntries.{level_within, level_past, level_small}
use Rattle.cell_grid.proofs.Enters.{entered_more}
use Rattle.cell_grid.proofs.entries.entries_of.Goals as goal

pub collect-requires-clause-past : goal.collect-requires-clause-past
collect-requires-clause-past c =
    let within = level_within c.args.boxes.now c.args.levels.now c.loop-number.number c.level_of.result
    c.requires.of_levels c.loop-number-test.true c.level_of.ensures.level in
    level_past c.args.boxes.now c.args.levels.now c.loop-number.number c.level_of.result c.index-levels-level_of.result
    c.requires.past c.loop-number-test.true within c.index-levels-level_of.is

pub collect-requires-clause-size : goal.collect-requires-clause-size
collect-requires-clause-size c =
    let within = level_within c.args.boxes.now c.args.levels.now c.loop-number.number c.level_of.result
    c.requires.of_levels c.loop-number-test.true c.level_of.ensures.level in
    level_small c.args.boxes.now c.args.levels.now c.loop-number.number c.level_of.result c.index-levels-level_of.result
    c.requires.laid c.level_of.ensures.level within c.index-levels-level_of.is
    (level_past c.args.boxes.now c.args.levels.now c.loop-number.number c.level_of.result c.index-levels-level_of.result
    c.requires.past c.loop-number-test.true within c.index-levels-level_of.is)

pub loop-number-preserved : goal.loop-number-preserved
loop-number-preserved c =
    let within = level_within c.args.boxes.now c.args.levels.now c.loop-number.number c.level_of.result
    c.requires.of_levels c.loop-number-test.true c.level_of.ensures.level in
    let now : c.enter.new.entries.items ≡ c.loop-number.entries.items
    ++ map (entry_of c.loop-number.number) c.collect.new.places.items =
    c.in_ok-enter.ensures ∙ ap (λ (l : List ℕ). c.loop-number.entries.items ++ map (entry_of c.loop-number.number) l)
    c.deref.ensures.value in
    subst (λ (l : List Entry). AreEntered c.args.boxes.now (c.loop-number.number + 1) c.args.levels.now l) (sym now)
    (entered_more c.args.boxes.now c.loop-number.number c.level_of.result c.args.levels.now
    c.index-levels-level_of.result c.collect.new.places.items c.loop-number.entries.items c.loop-number.invariant
    c.requires.laid c.loop-number-test.true c.level_of.ensures.level within c.index-levels-level_of.is
    c.in_ok-collect.ensures)

pub returns : goal.returns
returns c =
    let same : c.loop-number.number ≡ length c.args.boxes.now = search rules in
    subst (λ (n : ℕ). AreEntered c.args.boxes.now n c.args.levels.now c.loop-number.entries.items) same
    c.loop-number.invariant
