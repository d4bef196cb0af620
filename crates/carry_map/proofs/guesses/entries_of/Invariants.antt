-- The invariant of the loop of `entries_of` in src/guesses.rt.
use Rattle.std.proofs.Common.{◌≡◌, ◌<◌, All, length}
use Rattle.carry_map.specs.declared.guesses.TheConstants.{CELLS}
use Rattle.carry_map.proofs.guesses.entries_of.Given as goal

-- the paths so far are entered under numbers of cells
abbrev pub invariant-loop-number : goal.invariant-loop-number
invariant-loop-number l = All (λ entry. entry.key < CELLS) l.entries.items × (length l.entries.items ≡ l.number)
