-- The invariant of the loop of `push_behind` in src/image_lists.rt.
use Rattle.std.proofs.Common.{◌≡◌, ◌++◌, ◌-◌, take, drop}
use Rattle.sheet_base.specs.ImageFits.{positions_in}
use Rattle.sheet_base.specs.ImageLists.{texts_behind}
use Rattle.sheet_base.proofs.image_lists.push_behind.Given as goal

-- the texts so far and those that are left are all of them
abbrev pub invariant-loop-number : goal.invariant-loop-number
invariant-loop-number g l =
    l.out.items ++ texts_behind g.T.ImageText.separator g.T.ImageText.text
    (take (l.past - l.number) (drop l.number (positions_in l.images)))
    ≡ l.fn.out.items ++ texts_behind g.T.ImageText.separator g.T.ImageText.text
    (take (l.past - l.first) (drop l.first (positions_in l.images)))
