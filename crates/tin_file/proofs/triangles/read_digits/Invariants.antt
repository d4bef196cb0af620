-- The invariant of the loop of `read_digits` in src/triangles.rt.
use Rattle.std.proofs.Common.{◌≡◌, take, drop}
use Rattle.std.specs.Prelude.{min}
use Rattle.std.specs.Char.{is_ascii_digit}
use Rattle.std.specs.List.{list_all}
use Rattle.mm_decimal.proofs.Values.{number_after}
use Rattle.tin_base.specs.declared.limits.TheConstants.{MOST_CORNERS}
use Rattle.tin_file.proofs.triangles.read_digits.Given as goal

abbrev pub invariant-loop-byte : goal.invariant-loop-byte
invariant-loop-byte l =
    (list_all is_ascii_digit l.text ≡ list_all is_ascii_digit (drop l.byte-index l.text))
    × (l.number ≡ min (number_after 0 (take l.byte-index l.text)) MOST_CORNERS)
