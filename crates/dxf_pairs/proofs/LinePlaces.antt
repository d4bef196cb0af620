-- Pairs at the places of their lines.
use Rattle.std.proofs.Common.{◌≡◌, ℕ, ◌+◌, ◌-◌, ◌≤◌, List, length, take, drop, arith, sym, refl, All, append-nil, ◌⊎◌}
use Rattle.std.proofs.Common.{inl, inr, ◌==◌, ◌<◌, ℤ, [], ◌∷◌, ◌++◌, Bool, true, false, ◌∙◌, ap, min, Option, Some}
use Rattle.std.proofs.Common.{None, Result, Ok, Err}
use Rattle.std.proofs.lemmas.List.{length-take-le, length-drop, drop-take, take-take, drop-drop, length-append}
use Rattle.std.proofs.lemmas.List.{length-take}
use Rattle.std.specs.List.{prefix_len, suffix_len, slice_split, join_with_byte, starts_with}
use Rattle.std.proofs.Math.Seq.{take-append_seam, drop-append_seam}
use Rattle.std.proofs.lemmas.List.Sums.{prefix_len-le-length}
use Rattle.std.proofs.lemmas.Option.{none-some}
use Rattle.std.proofs.lemmas.List.Elements.{All-cons}
use Rattle.std.specs.Prelude.{nat_eq, map, if◌then◌else◌}
use Rattle.std.proofs.lemmas.List.Splits.{join_with_byte-slice_split}
use Rattle.text_places.specs.Blanks.{is_blank_byte}
use Rattle.dxf_pairs.specs.Lines.{between, lines_of, without_empty_last, lines_of_texts, Line}
use Rattle.dxf_pairs.specs.Values.{value_of, without_blanks_before}
use Rattle.dxf_pairs.specs.Groups.{group_in, value_in, groups_of_lines, group_of_two}
use Rattle.dxf_pairs.specs.declared.faults.PairFault.TheVariants.{Binary}
use Rattle.dxf_pairs.specs.declared.pair_lists.TheConstants.{BINARY}
use Rattle.dxf_pairs.specs.declared.line_ends.TheConstants.{LINE_FEED}
use Rattle.dxf_pairs.specs.declared.pairs.Pair.{Pair}
use Rattle.dxf_pairs.specs.declared.faults.PairFault.{PairFault}
use Rattle.dxf_pairs.specs.Codes.{code_of}
use Rattle.dxf_pairs.specs.Pairs.{reading, drawing, pair_of, first_pair, ends_drawing, of_two, of_one}
use Rattle.dxf_pairs.specs.Laws.{AreTiles, IsWithin, PairsTile, PairsAreWithin, PairsAreTheGroups}

-- ---- parts of a part
pub length-between : (start end : ℕ) (bytes : List ℕ) → start ≤ end → end ≤ length bytes
    → length (between start end bytes) ≡ end - start
length-between start end bytes order within =
    length-take-le (end - start) (drop start bytes) (let size = length-drop start bytes in omega arith)

-- this many bytes after this many of a part are in the whole
pub part_between : (bytes : List ℕ) (start end before count : ℕ) → start ≤ end → before + count ≤ end - start
    → between (start + before) (start + before + count) bytes ≡ take count (drop before (between start end bytes))
part_between bytes start end before count order inside =
    let more : end - start ≡ before + (end - start - before) = omega arith in
    let length_is : start + before + count - (start + before) ≡ count = omega arith in
    grind (arith, drop-take, take-take, drop-drop)

-- what is between the blanks at the ends of a text, by their number and what is left
pub value_cut : (text : List ℕ) (count : ℕ)
    → count + suffix_len is_blank_byte (without_blanks_before text) ≡ length (without_blanks_before text)
    → (take count (drop (prefix_len is_blank_byte text) text) ≡ value_of text) × (count ≡ length (value_of text))
value_cut text count split = grind (arith, length-take-le)

-- ---- lines where they are in the bytes
-- texts that are in the bytes from a place on, with a byte or the end after each
abbrev pub Stand : List ℕ → ℕ → List (List ℕ) → Type 0
Stand bytes start [] = start ≤ length bytes
Stand bytes start (text ∷ texts) =
    (start + length text ≤ length bytes) × (between start (start + length text) bytes ≡ text)
    × Stand bytes (min (start + length text + 1) (length bytes)) texts

-- a text in front of others in what is from a place on
pub in_front : (bytes : List ℕ) (start : ℕ) (text more : List ℕ) → start ≤ length bytes
    → text ++ more ≡ drop start bytes
    → (start + length text ≤ length bytes) × (between start (start + length text) bytes ≡ text)
    × (more ≡ drop (start + length text) bytes)
in_front bytes start text more within is =
    let size = length-drop start bytes in
    let sizes = length-append text more in
    let same : length (text ++ more) ≡ length (drop start bytes) = ap length is in
    let count : start + length text - start ≡ length text = omega arith in (
      omega arith,
      rw (count, ← is) (take-append_seam text more),
      rw (← drop-drop (length text) start bytes, ← is) (sym (drop-append_seam text more)),
    )

-- what is joined from parts has the parts in it
joined_stand : (bytes : List ℕ) (start : ℕ) (parts : List (List ℕ)) → start ≤ length bytes
    → join_with_byte LINE_FEED parts ≡ drop start bytes → Stand bytes start parts
joined_stand bytes start [] within is = within
joined_stand bytes start (part ∷ []) within is =
    let here = in_front bytes start part [] within (append-nil part ∙ is) in grind arith
joined_stand bytes start (part ∷ next ∷ parts) within is =
    let here = in_front bytes start part (LINE_FEED ∷ join_with_byte LINE_FEED (next ∷ parts)) within is in
    let inside = here.0 in
    let behind_feed = in_front bytes (start + length part) (LINE_FEED ∷ []) (join_with_byte LINE_FEED (next ∷ parts))
    (here.0) here.2 in
    let feed_inside = behind_feed.0 in
    let past : min (start + length part + 1) (length bytes) ≡ start + length part + 1 = omega arith in
    (here.0, here.1, rw past (joined_stand bytes (start + length part + 1) (next ∷ parts) (omega arith) behind_feed.2))

-- the lines are among the parts
lines_stand : (bytes : List ℕ) (start : ℕ) (parts : List (List ℕ)) → Stand bytes start parts
    → Stand bytes start (without_empty_last parts)
lines_stand bytes start [] stand = stand
lines_stand bytes start ([] ∷ []) stand = let inside = stand.0 in omega arith
lines_stand bytes start ((byte ∷ part) ∷ []) stand = stand
lines_stand bytes start (part ∷ next ∷ parts) stand =
    (stand.0, stand.1, lines_stand bytes (min (start + length part + 1) (length bytes)) (next ∷ parts) stand.2)

pub all_stand : (bytes : List ℕ) → Stand bytes 0 (lines_of bytes)
all_stand bytes = lines_stand bytes 0 (slice_split (λ byte. byte == LINE_FEED) bytes)
    (joined_stand bytes 0 (slice_split (λ byte. byte == LINE_FEED) bytes) (omega arith)
    (join_with_byte-slice_split LINE_FEED bytes))

-- the value of a line lies in it
value_inside : (text : List ℕ) → prefix_len is_blank_byte text + length (value_of text) ≤ length text
value_inside text = grind (arith, prefix_len-le-length, length-drop, length-take)

value_front : (text : List ℕ) → take (length (value_of text)) (without_blanks_before text) ≡ value_of text
value_front text = grind (arith, length-take-le)

-- a line with a group code is not empty
some_text : (text : List ℕ) (code : ℤ) → code_of text ≡ Some code → 0 < length text
some_text [] code has = absurd (none-some code has)
some_text (byte ∷ text) code has = omega arith

-- what is read of two lines and more
pub record AreRead (first second : Line) (code : ℤ) (more : List Pair) (has : Option ℤ)
    (rest : Result (List Pair) PairFault) (pairs : List Pair) : Type 0 where
  pub code_is : has ≡ Some code
  pub pairs_are : pairs ≡ pair_of code first second ∷ more
  pub rest_is : ((ends_drawing code (value_of second.text) ≡ true) × (more ≡ []))
      ⊎ ((ends_drawing code (value_of second.text) ≡ false) × (rest ≡ Ok more))

pub two_ok : (first second : Line) (has : Option ℤ) (rest : Result (List Pair) PairFault) (pairs : List Pair)
    → of_two first second has rest ≡ Ok pairs
    → (code : ℤ) × (more : List Pair) × AreRead first second code more has rest pairs
two_ok first second None rest pairs is = absurd (cc)
two_ok first second (Some code) rest pairs is = by (ends_drawing code (value_of second.text)) refl rest is
  where
    by : (last : Bool) → ends_drawing code (value_of second.text) ≡ last → (r : Result (List Pair) PairFault)
        → first_pair (pair_of code first second) last r ≡ Ok pairs
        → (number : ℤ) × (more : List Pair) × AreRead first second number more (Some code) r pairs
    by true ends r is = (code, [], record { code_is = refl; pairs_are = cc; rest_is = inl (ends, refl) })
    by false ends (Ok more) is = (code, more, record { code_is = refl; pairs_are = cc; rest_is = inr (ends, refl) })
    by false ends (Err fault) is = absurd (cc)

pub no_one : (line : Line) (has : Option ℤ) (pairs : List Pair) → of_one line has ≡ Ok pairs → ⊥
no_one line None pairs is = cc
no_one line (Some code) pairs is = cc

-- the pairs of a drawing are read of its lines
pub read_of_lines : (bytes : List ℕ) (pairs : List Pair) → drawing bytes ≡ Ok pairs
    → reading (lines_of_texts (length bytes) 0 1 (lines_of bytes)) ≡ Ok pairs
read_of_lines bytes pairs is = by (starts_with nat_eq bytes BINARY.now) is
  where
    by : (binary : Bool) → (if binary then Err Binary else reading (lines_of_texts (length bytes) 0 1 (lines_of bytes)))
        ≡ Ok pairs → reading (lines_of_texts (length bytes) 0 1 (lines_of bytes)) ≡ Ok pairs
    by true is = absurd (cc)
    by false is = is

-- a line's places
abbrev pub past_of : ℕ → ℕ → List ℕ → ℕ
past_of size start text = min (start + length text + 1) size

abbrev pub line_of : ℕ → ℕ → ℕ → List ℕ → Line
line_of size start number text = record { text = text; number = number; start = start; end = past_of size start text }

-- what is read of the lines after two lines
abbrev pub reading_behind : List ℕ → ℕ → ℕ → List ℕ → List ℕ → List (List ℕ) → Result (List Pair) PairFault
reading_behind bytes start line first second texts =
    reading (lines_of_texts (length bytes) (past_of (length bytes) (past_of (length bytes) start first) second) (line + 1 + 1)
    texts)

-- the pair of two lines
abbrev pub pair_here : List ℕ → ℕ → ℕ → List ℕ → List ℕ → ℤ → Pair
pair_here bytes start line first second code = pair_of code (line_of (length bytes) start line first)
    (line_of (length bytes) (past_of (length bytes) start first) (line + 1) second)

-- the pair of two lines in front of those that come after it
tile_first : (bytes : List ℕ) (start line : ℕ) (first second : List ℕ) (code : ℤ) → code_of first ≡ Some code
    → start + length first ≤ length bytes
    → past_of (length bytes) start first + length second ≤ length bytes → (more : List Pair) (past : ℕ)
    → AreTiles (past_of (length bytes) (past_of (length bytes) start first) second) (line + 2) more past
    → AreTiles start line (pair_here bytes start line first second code ∷ more) past
tile_first bytes start line first second code has inside second_inside more past behind_it =
    grind (arith, some_text, value_inside)

tiles_from : (bytes : List ℕ) (start line : ℕ) (texts : List (List ℕ)) (pairs : List Pair) → Stand bytes start texts
    → reading (lines_of_texts (length bytes) start line texts) ≡ Ok pairs
    → (past : ℕ) × (past ≤ length bytes) × AreTiles start line pairs past
tiles_from bytes start line [] pairs stand is = absurd (cc)
tiles_from bytes start line (first ∷ []) pairs stand is =
    absurd (no_one (line_of (length bytes) start line first) (code_of first) pairs is)
tiles_from bytes start line (first ∷ second ∷ texts) pairs stand is =
    let (code, more, read) = two_ok (line_of (length bytes) start line first)
    (line_of (length bytes) (past_of (length bytes) start first) (line + 1) second) (code_of first)
    (reading_behind bytes start line first second texts) pairs is in
    joined code more read.code_is read.pairs_are read.rest_is
    (λ others rest. tiles_from bytes (past_of (length bytes) (past_of (length bytes) start first) second) (line + 1 + 1)
    texts others stand.2.2 rest)
  where
    joined : (code : ℤ) (more : List Pair) → code_of first ≡ Some code
        → pairs ≡ pair_here bytes start line first second code ∷ more
        → ((ends_drawing code (value_of second) ≡ true) × (more ≡ []))
        ⊎ ((ends_drawing code (value_of second) ≡ false)
        × (reading_behind bytes start line first second texts ≡ Ok more))
        → ((others : List Pair) → reading_behind bytes start line first second texts ≡ Ok others
        → (past : ℕ) × (past ≤ length bytes) × AreTiles
        (past_of (length bytes) (past_of (length bytes) start first) second) (line + 1 + 1) others past)
        → (past : ℕ) × (past ≤ length bytes) × AreTiles start line pairs past
    joined code more has are (inl alone) behind_it = rw (are, alone.1) (
      past_of (length bytes) (past_of (length bytes) start first) second,
      omega arith,
      tile_first bytes start line first second code has stand.0 stand.2.0 [] _ refl,
    )
    joined code more has are (inr others) behind_it =
        let (past, inside, tail) = behind_it more others.1 in
        let two_on : line + 1 + 1 ≡ line + 2 = omega arith in rw are (
          past,
          inside,
          tile_first bytes start line first second code has stand.0 stand.2.0 more past (rw two_on at tail),
        )

-- the bytes of a pair's value are the value of its line
pub value_stands : (bytes : List ℕ) (start line : ℕ) (first second : List ℕ) (code : ℤ)
    → between (past_of (length bytes) start first) (past_of (length bytes) start first + length second) bytes ≡ second
    → value_in bytes (pair_here bytes start line first second code) ≡ value_of second
value_stands bytes start line first second code is = grind (arith, value_inside, part_between, value_front)

groups_from : (bytes : List ℕ) (start line : ℕ) (texts : List (List ℕ)) (pairs : List Pair) → Stand bytes start texts
    → reading (lines_of_texts (length bytes) start line texts) ≡ Ok pairs
    → map (group_in bytes) pairs ≡ groups_of_lines texts
groups_from bytes start line [] pairs stand is = absurd (cc)
groups_from bytes start line (first ∷ []) pairs stand is =
    absurd (no_one (line_of (length bytes) start line first) (code_of first) pairs is)
groups_from bytes start line (first ∷ second ∷ texts) pairs stand is =
    let (code, more, read) = two_ok (line_of (length bytes) start line first)
    (line_of (length bytes) (past_of (length bytes) start first) (line + 1) second) (code_of first)
    (reading_behind bytes start line first second texts) pairs is in
    joined code more read.code_is read.pairs_are read.rest_is
    (λ others rest. groups_from bytes (past_of (length bytes) (past_of (length bytes) start first) second)
    (line + 1 + 1) texts others stand.2.2 rest)
  where
    joined : (code : ℤ) (more : List Pair) → code_of first ≡ Some code
        → pairs ≡ pair_here bytes start line first second code ∷ more
        → ((ends_drawing code (value_of second) ≡ true) × (more ≡ []))
        ⊎ ((ends_drawing code (value_of second) ≡ false)
        × (reading_behind bytes start line first second texts ≡ Ok more))
        → ((others : List Pair) → reading_behind bytes start line first second texts ≡ Ok others
        → map (group_in bytes) others ≡ groups_of_lines texts)
        → map (group_in bytes) pairs ≡ group_of_two (code_of first) (value_of second) (groups_of_lines texts)
    joined code more has are (inl alone) behind_it =
        let value = value_stands bytes start line first second code stand.2.1 in cc
    joined code more has are (inr others) behind_it =
        let value = value_stands bytes start line first second code stand.2.1 in grind arith

pub tiles : PairsTile
tiles bytes pairs is = tiles_from bytes 0 1 (lines_of bytes) pairs (all_stand bytes) (read_of_lines bytes pairs is)

pub the_groups : PairsAreTheGroups
the_groups bytes pairs is = groups_from bytes 0 1 (lines_of bytes) pairs (all_stand bytes)
    (read_of_lines bytes pairs is)

-- a pair of tiles lies before their end
tile_at : (size start line past : ℕ) (pairs : List Pair) → past ≤ size → AreTiles start line pairs past
    → (start ≤ past) × All (IsWithin size) pairs
tile_at size start line past [] inside is = (omega arith, λ i d within. absurd (omega arith))
tile_at size start line past (pair ∷ pairs) inside (start_is, line_is, code, value, end, rest) =
    grind (arith, value_inside, All-cons, (tile_at size pair.end (line + 2) past pairs inside rest))

pub within : PairsAreWithin
within bytes pairs is =
    let (past, inside, are) = tiles bytes pairs is in (tile_at (length bytes) 0 1 past pairs inside are).1
