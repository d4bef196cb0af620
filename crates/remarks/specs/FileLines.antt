-- What standard error says of a file: why it could not be read or written, what was left out of it, and what its
-- numbers look like. Names, and kinds of entities, are shown as `shown_text` has it.
use Rattle.std.specs.Prelude.{ℕ, List, [], ◌∷◌, ◌++◌, Option, None, Some, codes, decimal, string_bytes, nat_lt}
use Rattle.std.specs.Prelude.{if◌then◌else◌}
use Rattle.std.specs.List.{flat_map}
use Rattle.shown_text.specs.Texts.{shown_of}
use Rattle.remarks.specs.declared.file_lines.KindCount.{KindCount}
use Rattle.remarks.specs.declared.file_lines.Meeting.{Meeting}
use Rattle.remarks.specs.declared.file_lines.Meeting.TheVariants.{Triangulation, EarlierOutput, NoTarget}
use Rattle.remarks.specs.declared.file_lines.Meeting.TheVariants.{TooLong}
use Rattle.runs.specs.declared.loads.TheConstants.{MOST_BYTES}

-- why the system did not let it be read
abbrev pub unread_line_of : List ℕ → List ℕ → List ℕ
unread_line_of name reason = codes "tinmove: " ++ shown_of name ++ codes ": the system says: " ++ reason ++ codes "\n"

abbrev pub reason_words : Option (List ℕ) → List ℕ
reason_words None = []
reason_words (Some reason) = codes ": " ++ reason

-- that it could not be written, why where that is known, and what helps
abbrev pub unwritten_lines_of : List ℕ → Option (List ℕ) → List ℕ
unwritten_lines_of name reason = codes "tinmove: " ++ shown_of name ++ codes ": could not be written" ++ reason_words reason
    ++ codes "\n" ++ codes "tinmove: look at the disk's room, at who may write in the folder, and at ulimit -f\n"

-- ---- entities that were left out
abbrev pub kind_words : KindCount → List ℕ
kind_words kind = shown_of (string_bytes kind.name) ++ codes " " ++ decimal kind.count

abbrev pub further_kind : KindCount → List ℕ
further_kind kind = codes ", " ++ kind_words kind

-- how many more kinds there are, where there are some
abbrev pub more_words : ℕ → List ℕ
more_words more = if nat_lt 0 more then codes ", and " ++ decimal more ++ codes " more" else []

-- the kinds that are named in brackets, with a comma between each two, and how many more there are
abbrev pub kinds_words : List KindCount → ℕ → List ℕ
kinds_words [] more = []
kinds_words (first ∷ rest) more =
    codes " (" ++ kind_words first ++ flat_map further_kind rest ++ more_words more ++ codes ")"

abbrev pub left_out_line_of : List ℕ → ℕ → List KindCount → ℕ → List ℕ
left_out_line_of name count kinds more = codes "tinmove: " ++ shown_of name ++ codes ": " ++ decimal count
    ++ codes " entities left out" ++ kinds_words kinds more ++ codes ": the written drawing is not whole\n"

-- ---- what is not carried with a layer
-- how many metres what is in a block is from the block's place at most, where that is found out
abbrev pub reach_words : Option ℕ → List ℕ
reach_words None = []
reach_words (Some metres) = codes ", up to " ++ decimal metres ++ codes " metres from there"

-- what is in a block keeps its shape
abbrev pub blocks_line_of : List ℕ → ℕ → Option ℕ → List ℕ
blocks_line_of name count reach = codes "tinmove: " ++ shown_of name ++ codes ": " ++ decimal count
    ++ codes " inserts: a block is moved to its new place, and what is in it keeps its shape" ++ reach_words reach
    ++ codes ": explode blocks that are wide\n"

-- ---- entities that are refused
-- all kinds of a drawing that are not carried
abbrev pub other_kinds_line_of : List ℕ → List KindCount → ℕ → List ℕ
other_kinds_line_of name kinds more =
    codes "tinmove: " ++ shown_of name ++ codes ": all kinds that are not carried" ++ kinds_words kinds more ++ codes "\n"

-- ---- layers that are too large together
-- what helps one that is too large alone
abbrev pub alone_words : ℕ → List ℕ
alone_words size = if nat_lt MOST_BYTES size
    then codes "tinmove: it is too large alone: recipes/geopackage.py carries a layer in strips\n" else []

-- which layer passes the limit, and how large it is and those before it
abbrev pub long_layer_lines_of : List ℕ → ℕ → ℕ → List ℕ
long_layer_lines_of name size before = codes "tinmove: " ++ shown_of name ++ codes ": " ++ decimal size
    ++ codes " bytes, behind " ++ decimal before ++ codes " of the layers before it\n" ++ alone_words size

-- ---- outputs that replace files
-- a file that did not keep its owner or its group
abbrev pub owner_line_of : List ℕ → List ℕ
owner_line_of name = codes "tinmove: the output " ++ shown_of name
    ++ codes " has another owner or group than before: the system did not let them be kept\n"

-- a member or an object by which the layer names its frame
abbrev pub frame_line_of : List ℕ → List ℕ → List ℕ
frame_line_of name mark = codes "tinmove: " ++ shown_of name ++ codes ": " ++ mark
    ++ codes " stays as it was, and may name the frame that the layer is carried from\n"

-- ---- numbers
abbrev pub rounded_line_of : List ℕ → ℕ → List ℕ
rounded_line_of name count = codes "tinmove: " ++ shown_of name ++ codes ": " ++ decimal count
    ++ codes " numbers were rounded to the millimetre: ogr2ogr -lco COORDINATE_PRECISION=3 writes no more digits\n"

abbrev pub degrees_line_of : List ℕ → List ℕ
degrees_line_of name = codes "tinmove: " ++ shown_of name
    ++ codes ": all source corners are within 360: these look like degrees, and are read as metres: three digits of a degree are steps of up to 111 metres\n"

-- ---- outputs that are another file, too, or cannot be made under their names
abbrev pub meeting_words : Meeting → List ℕ
meeting_words Triangulation = codes " is the file of the triangulation\n"
meeting_words EarlierOutput = codes " is also that of an earlier output\n"
meeting_words NoTarget = codes " is a link that leads nowhere: the link itself is replaced\n"
meeting_words TooLong = codes " has a name of more than 255 bytes: most file systems take no longer one\n"

abbrev pub meeting_line_of : List ℕ → Meeting → List ℕ
meeting_line_of name meeting = codes "tinmove: the output " ++ shown_of name ++ meeting_words meeting
