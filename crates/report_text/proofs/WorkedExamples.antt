-- Worked examples: the text of a report, and bytes that are none.
use Rattle.std.specs.Prelude.{◌≡◌, ℕ, Bool, true, false, List, [], ◌∷◌, ◌++◌, codes, Some, None, refl}
use Rattle.std.proofs.Common.{arith}
use Rattle.std.proofs.lemmas.Fmt.{decimal_digit}
use Rattle.std.proofs.lemmas.Str.{IsUtf8-from_ascii}
use Rattle.std.proofs.lemmas.Str.Ascii.{IsAscii-nil}
use Rattle.text_places.specs.Places.{Begins}
use Rattle.tin_base.specs.declared.relations.Rel.TheVariants.{Apart, Touching}
use Rattle.ring_side.specs.declared.kinds.Side.TheVariants.{Border, Outside}
use Rattle.ring_side.specs.declared.kinds.Way.TheVariants.{Positive, Zero}
use Rattle.ring_side.specs.declared.kinds.SideChange.TheVariants.{Turn, Point}
use Rattle.report_text.specs.declared.lines.TheConstants.{LINE_FEED}
use Rattle.report_text.specs.Beginnings.{IsReportText, IsSomeText, IsLine, IsBadAt}
use Rattle.report_text.specs.ReportText.{title, tin_line, layer_line, count_line, change_line, end_line, report_text}
use Rattle.report_text.specs.ReportText.{are_told, turn_line, point_line, side_line, side_count_line}
use Rattle.report_text.specs.Reports.{ReportContents}

-- a line and a point that touched each other and are apart
abbrev square : ReportContents
square = record {
  corners = 4;
  triangles = 2;
  inexact = 0;
  name = codes "s.json";
  layers = record {
    paths = 2;
    segments = 2;
    pieces = 3;
    inexact = 0;
    dropped = 0;
    drawing = false;
    name =
        codes "nine.wkt";
  } ∷ [];
  changes = record {
    first = record { layer = 0; path = 0; segment = 0; piece = 0 };
    second = record { layer = 0; path = 1; segment = 0; piece = 0 };
    was = Touching;
    now = Apart;
  } ∷ [];
  sides = None;
}

square_text : report_text square
    ≡ codes
    "tinmove report 1\ntriangulation corners 4 triangles 2 inexact 0 name s.json\nlayer 0 paths 2 segments 2 pieces 3 inexact 0 dropped 0 name nine.wkt\nchanges 1\nchange 0/0/0/0 0/1/0/0 touching apart\nend\n"
unfolding title tin_line layer_line count_line change_line end_line
square_text = rw (
  decimal_digit 4 (omega arith),
  decimal_digit 3 (omega arith),
  decimal_digit 2 (omega arith),
  decimal_digit 1 (omega arith),
  decimal_digit 0 (omega arith),
) refl

-- a corner of a ring and a point on it, which is outside of it after rounding
abbrev ring : ReportContents
ring = record {
  corners = 4;
  triangles = 2;
  inexact = 0;
  name = codes "s.json";
  layers = record {
    paths = 2;
    segments = 4;
    pieces = 5;
    inexact = 0;
    dropped = 0;
    drawing = false;
    name =
        codes "r.wkt";
  } ∷ [];
  changes = record {
    first = record { layer = 0; path = 0; segment = 2; piece = 1 };
    second = record { layer = 0; path = 1; segment = 0; piece = 0 };
    was = Touching;
    now = Apart;
  } ∷ [];
  sides = Some (Point 0 0 (record { layer = 0; path = 1; vertex = 0 }) Border Outside ∷ []);
}

ring_text : report_text ring
    ≡ codes
    "tinmove report 2\ntriangulation corners 4 triangles 2 inexact 0 name s.json\nlayer 0 paths 2 segments 4 pieces 5 inexact 0 dropped 0 name r.wkt\nchanges 1\nchange 0/0/2/1 0/1/0/0 touching apart\nsides 1\nside 0/0 0/1/0 border outside\nend\n"
unfolding title tin_line layer_line count_line change_line point_line side_count_line end_line
ring_text = rw (
  decimal_digit 5 (omega arith),
  decimal_digit 4 (omega arith),
  decimal_digit 2 (omega arith),
  decimal_digit 1 (omega arith),
  decimal_digit 0 (omega arith),
) refl

-- a ring that turns flat
flat_ring_text : side_line (Turn 0 0 Positive Zero) ≡ codes "turn 0/0 positive zero"
unfolding turn_line
flat_ring_text = rw (decimal_digit 0 (omega arith)) refl

-- a report of nothing
abbrev nothing : ReportContents
nothing = record { corners = 0; triangles = 0; inexact = 0; name = []; layers = []; changes = []; sides = None }

nothing_is_report : IsReportText (report_text nothing) nothing
nothing_is_report = record {
  kept = record { name = tt; layers = tt; changes = tt; sides = tt };
  held = record {
    corners = omega arith;
    triangles = omega arith;
    inexact = omega arith;
    name = IsUtf8-from_ascii [] IsAscii-nil;
    layers = tt;
    changes = tt;
    numbered = omega arith;
    counted = omega arith;
    sides = tt;
  };
  spelled = refl;
}

no_title : (told : Bool) (more : List ℕ) → [] ≡ (title told ++ LINE_FEED ∷ []) ++ more → ⊥
unfolding title
no_title false more is = cc
no_title true more is = cc

no_bytes_are_no_text : IsSomeText [] → ⊥
no_bytes_are_no_text (report, text) = no_title (are_told report.sides) _ text.spelled

-- where no byte is the first line is bad: the next byte would be in it
no_bytes : IsBadAt [] 1
no_bytes = record {
  before = [];
  rest = [];
  whole = refl;
  are_lines = tt;
  counted = refl;
  begun = (report_text nothing, (nothing, nothing_is_report));
  stops = λ line more is_line is begins. none line more is;
  no_text = no_bytes_are_no_text;
}
  where
    none : (line more : List ℕ) → [] ≡ line ++ LINE_FEED ∷ more → ⊥
    none [] more is = cc
    none (byte ∷ line) more is = cc

other_title : (told : Bool) (more behind : List ℕ) → LINE_FEED ∷ more ≡ (title told ++ LINE_FEED ∷ []) ++ behind → ⊥
unfolding title
other_title false more behind is = cc
other_title true more behind is = cc

no_report_begins_so : (more : List ℕ) → IsSomeText (LINE_FEED ∷ more) → ⊥
no_report_begins_so more (report, text) = other_title (are_told report.sides) more _ text.spelled

-- an empty first line begins no report
empty_line : IsBadAt (LINE_FEED ∷ []) 1
empty_line = record {
  before = [];
  rest = LINE_FEED ∷ [];
  whole = refl;
  are_lines = tt;
  counted = refl;
  begun = (report_text nothing, (nothing, nothing_is_report));
  stops = λ line more is_line is begins. first line more is_line is begins;
  no_text = no_report_begins_so [];
}
  where
    first : (line more : List ℕ) → IsLine line → LINE_FEED ∷ [] ≡ line ++ LINE_FEED ∷ more
        → Begins IsSomeText (line ++ LINE_FEED ∷ []) → ⊥
    first [] more is_line is begins = no_report_begins_so begins.0 begins.1
    first (byte ∷ line) more is_line is begins = let head : byte ≡ LINE_FEED = cc in is_line.0 head
