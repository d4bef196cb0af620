-- The invariant and the measure of the loop of `length_before_blanks` in src/blanks.rt.
use Rattle.std.proofs.Common.{◌≡◌, ◌+◌, ◌≤◌, length, take}
use Rattle.std.specs.List.{suffix_len}
use Rattle.text_places.specs.Blanks.{is_blank_byte}
use Rattle.dxf_pairs.proofs.blanks.length_before_blanks.Given as goal

abbrev pub invariant-loop-count : goal.invariant-loop-count
invariant-loop-count l = (l.count ≤ length l.text)
    × (l.count + suffix_len is_blank_byte l.text ≡ length l.text + suffix_len is_blank_byte (take l.count l.text))

abbrev pub decreases-loop-count : goal.decreases-loop-count
decreases-loop-count l = l.count
