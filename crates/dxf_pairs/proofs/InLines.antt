-- The two lines of each pair in the bytes.
use Rattle.std.proofs.Common.{◌⊎◌, inl, inr, ◌≡◌, ◌==◌, ◌≤◌, ◌+◌, ◌-◌, ℕ, ℤ, List, [], ◌∷◌, ◌++◌, length, take, drop}
use Rattle.std.proofs.Common.{get_or, true, false, refl, ◌∙◌, ap, arith, sym, Some, Ok}
use Rattle.std.specs.List.{AllPass, prefix_len, suffix_len}
use Rattle.std.proofs.lemmas.List.{append_assoc, length-append, length-take-le, get_or-append-add, get_or_append_left}
use Rattle.std.proofs.lemmas.List.Elements.{All-append}
use Rattle.std.proofs.lemmas.List.Sums.{prefix_len-le-length}
use Rattle.dxf_pairs.specs.declared.line_ends.TheConstants.{LINE_FEED}
use Rattle.dxf_pairs.specs.declared.pairs.Pair.{Pair}
use Rattle.dxf_pairs.specs.Lines.{lines_of, between, lines_of_texts}
use Rattle.text_places.specs.Blanks.{is_blank_byte}
use Rattle.dxf_pairs.specs.Values.{value_of, without_blanks_before}
use Rattle.dxf_pairs.specs.Codes.{code_of}
use Rattle.dxf_pairs.specs.CodeLines.{IsBetweenBlanks}
use Rattle.dxf_pairs.specs.Pairs.{reading, ends_drawing}
use Rattle.dxf_pairs.specs.Groups.{value_in, groups_of, groups_of_lines, group_of_two}
use Rattle.dxf_pairs.specs.InLines.{IsOneLine, IsValue, StandsInLines, AreInLines, PairsAreInLines, GroupsFollow}
use Rattle.dxf_pairs.proofs.Between.{between_blanks, parts}
use Rattle.dxf_pairs.proofs.LineLists.{line_before_text, first_line}
use Rattle.dxf_pairs.proofs.LinePlaces.{Stand, all_stand, in_front, AreRead, two_ok, no_one, read_of_lines, past_of}
use Rattle.dxf_pairs.proofs.LinePlaces.{line_of, reading_behind, pair_here, value_stands}

-- the groups of two lines in front of a text
two_lines : (first second more : List ℕ) → IsOneLine first → IsOneLine second
    → groups_of (first ++ LINE_FEED ∷ (second ++ LINE_FEED ∷ more))
    ≡ group_of_two (code_of first) (value_of second) (groups_of more)
two_lines first second more one two = ap groups_of_lines (line_before_text first (second ++ LINE_FEED ∷ more) one
    ∙ ap (λ (lines : List (List ℕ)). first ∷ lines) (line_before_text second more two))

blank_no_feed : (byte : ℕ) → is_blank_byte byte ≡ true → (byte == LINE_FEED) ≡ false
blank_no_feed byte blank = grind arith

pub blanks_one_line : (blanks : List ℕ) → AllPass is_blank_byte blanks → IsOneLine blanks
blanks_one_line blanks all = λ i d within. blank_no_feed (get_or blanks i d) (all i d within)

pub groups_follow : GroupsFollow
groups_follow bytes pair value more (first, before, behind, is) val =
    let line = before ++ (value ++ behind) in
    let assoc : (first ++ LINE_FEED ∷ before) ++ (value ++ ((behind ++ LINE_FEED ∷ []) ++ more)) ≡ first ++ LINE_FEED
    ∷ ((before ++ (value ++ behind)) ++ LINE_FEED ∷ more) = simp append_assoc in
    let whole : between pair.start pair.value bytes ++ (value ++ (between pair.value_end pair.end bytes ++ more))
    ≡ first ++ LINE_FEED ∷ ((before ++ (value ++ behind)) ++ LINE_FEED ∷ more) =
    rw (is.to_value, is.from_value) assoc in
    let one : IsOneLine (before ++ (value ++ behind)) =
    All-append (λ byte. (byte == LINE_FEED) ≡ false) before (value ++ behind) (blanks_one_line before is.blanks_before)
    (All-append (λ byte. (byte == LINE_FEED) ≡ false) value behind val.one_line
    (blanks_one_line behind is.blanks_behind)) in
    let value_is : value_of (before ++ (value ++ behind)) ≡ value =
    (between_blanks (before ++ (value ++ behind)) value).1 (
      before,
      behind,
      record {
        whole = refl;
        blanks_before = is.blanks_before;
        blanks_behind = is.blanks_behind;
        first = val.first;
        last = val.last;
      },
    ) in grind (arith, two_lines)

-- the parts of a line's text have no line feed
part_one_line : (line value before behind : List ℕ) → IsBetweenBlanks line value before behind → IsOneLine line
    → IsOneLine value
part_one_line line value before behind is one = grind (arith, length-append, get_or-append-add, get_or_append_left)

-- two lines in their parts, where they are in the bytes
record ArePlaced (bytes : List ℕ) (start : ℕ) (first before value behind rest : List ℕ) : Type 0 where
  to_value : between start (start + length first + 1 + length before) bytes ≡ first ++ LINE_FEED ∷ before
  from_value : between (start + length first + 1 + length before + length value)
      (start + length first + 1 + length before + length value + length behind + 1) bytes ≡ behind ++ LINE_FEED ∷ []
  inside : start + length first + 1 + length before + length value + length behind + 1 ≤ length bytes
  at_rest : rest ≡ drop (start + length first + 1 + length before + length value + length behind + 1) bytes

in_five : (first before value behind rest : List ℕ)
    → (first ++ LINE_FEED ∷ before) ++ (value ++ (behind ++ LINE_FEED ∷ rest)) ≡ first ++ LINE_FEED
    ∷ ((before ++ (value ++ behind)) ++ LINE_FEED ∷ rest)
in_five first before value behind rest = simp append_assoc

feed_behind : (behind rest : List ℕ) → (behind ++ LINE_FEED ∷ []) ++ rest ≡ behind ++ LINE_FEED ∷ rest
feed_behind behind rest = simp append_assoc

placed_parts : (bytes : List ℕ) (start : ℕ) (first before value behind rest : List ℕ) → start ≤ length bytes
    → first ++ LINE_FEED ∷ ((before ++ (value ++ behind)) ++ LINE_FEED ∷ rest) ≡ drop start bytes
    → ArePlaced bytes start first before value behind rest
placed_parts bytes start first before value behind rest inside is =
    let one = in_front bytes start (first ++ LINE_FEED ∷ before) (value ++ (behind ++ LINE_FEED ∷ rest)) inside
    (in_five first before value behind rest ∙ is) in
    let two = in_front bytes (start + length (first ++ LINE_FEED ∷ before)) value (behind ++ LINE_FEED ∷ rest) one.0
    one.2 in
    let three = in_front bytes (start + length (first ++ LINE_FEED ∷ before) + length value) (behind ++ LINE_FEED ∷ [])
    rest two.0 (feed_behind behind rest ∙ two.2) in
    let size : length (first ++ LINE_FEED ∷ before) ≡ length first + length (LINE_FEED ∷ before) =
    length-append first (LINE_FEED ∷ before) in
    let last_size : length (behind ++ LINE_FEED ∷ []) ≡ length behind + length (LINE_FEED ∷ []) =
    length-append behind (LINE_FEED ∷ []) in
    let value_at : start + length (first ++ LINE_FEED ∷ before) ≡ start + length first + 1 + length before =
    omega arith in
    let end_at : start + length (first ++ LINE_FEED ∷ before) + length value + length (behind ++ LINE_FEED ∷ []) ≡ start
    + length first + 1 + length before + length value + length behind + 1 = omega arith in
    let bound = three.0 in grind arith

-- a pair by its two lines, in front of others
stands : (bytes : List ℕ) (start line : ℕ) (first second rest : List ℕ) (code : ℤ) → start ≤ length bytes
    → first ++ LINE_FEED ∷ (second ++ LINE_FEED ∷ rest) ≡ drop start bytes
    → IsOneLine first → IsOneLine second → code_of first ≡ Some code → ends_drawing code (value_of second) ≡ false
    → value_in bytes (pair_here bytes start line first second code) ≡ value_of second
    → StandsInLines bytes (pair_here bytes start line first second code)
    × (rest ≡ drop (past_of (length bytes) (past_of (length bytes) start first) second) bytes)
stands bytes start line first second rest code inside is one two has goes_on value_is =
    let count = length (without_blanks_before second) - suffix_len is_blank_byte (without_blanks_before second) in
    let before = take (prefix_len is_blank_byte second) second in
    let behind = drop count (without_blanks_before second) in
    let cut : IsBetweenBlanks second (value_of second) before behind =
    parts second (without_blanks_before second) count refl refl in
    let placed_in : ArePlaced bytes start first before (value_of second) behind rest =
    placed_parts bytes start first before (value_of second) behind rest inside
    (ap (λ (s : List ℕ). first ++ LINE_FEED ∷ (s ++ LINE_FEED ∷ rest)) (sym cut.whole) ∙ is) in
    let before_size : length before ≡ prefix_len is_blank_byte second =
    length-take-le (prefix_len is_blank_byte second) second (prefix_len-le-length is_blank_byte second) in
    let whole_size : length second ≡ length before + length (value_of second ++ behind) = ap length cut.whole
    ∙ length-append before (value_of second ++ behind) in
    let rest_size : length (value_of second ++ behind) ≡ length (value_of second) + length behind =
    length-append (value_of second) behind in
    let bound = placed_in.inside in
    let value_at : start + length first + 1 + length before ≡ past_of (length bytes) start first
    + prefix_len is_blank_byte second = omega arith in
    let end_at : start + length first + 1 + length before + length (value_of second) + length behind + 1
    ≡ past_of (length bytes) (past_of (length bytes) start first) second = omega arith in
    let to_value : between start (past_of (length bytes) start first + prefix_len is_blank_byte second) bytes ≡ first
    ++ LINE_FEED ∷ before = ap (λ (n : ℕ). between start n bytes) (sym value_at) ∙ placed_in.to_value in
    let from_value : between (past_of (length bytes) start first + prefix_len is_blank_byte second
    + length (value_of second)) (past_of (length bytes) (past_of (length bytes) start first) second) bytes ≡ behind
    ++ LINE_FEED ∷ [] = ap (λ (n : ℕ). between (n + length (value_of second))
    (past_of (length bytes) (past_of (length bytes) start first) second) bytes) (sym value_at)
    ∙ (ap (λ (n : ℕ). between (start + length first + 1 + length before + length (value_of second)) n bytes)
    (sym end_at) ∙ placed_in.from_value) in
    let value : IsValue (value_of second) = record {
      one_line = part_one_line second (value_of second) before behind cut two;
      first = cut.first;
      last = cut.last;
    } in grind arith

joined : (bytes : List ℕ) (pair : Pair) (more : List Pair) → StandsInLines bytes pair → AreInLines bytes more
    → AreInLines bytes (pair ∷ more)
joined bytes pair [] here rest = absurd rest
joined bytes pair (next ∷ more) here rest = (here, rest)

in_lines_from : (bytes : List ℕ) (start line : ℕ) (texts : List (List ℕ)) (pairs : List Pair)
    → lines_of (drop start bytes) ≡ texts → Stand bytes start texts
    → reading (lines_of_texts (length bytes) start line texts) ≡ Ok pairs → AreInLines bytes pairs
in_lines_from bytes start line [] pairs are stand is = absurd (cc)
in_lines_from bytes start line (first ∷ []) pairs are stand is =
    absurd (no_one (line_of (length bytes) start line first) (code_of first) pairs is)
in_lines_from bytes start line (first ∷ second ∷ texts) pairs are stand is =
    let (code, more, read) = two_ok (line_of (length bytes) start line first)
    (line_of (length bytes) (past_of (length bytes) start first) (line + 1) second) (code_of first)
    (reading_behind bytes start line first second texts) pairs is in
    let value : value_in bytes (pair_here bytes start line first second code) ≡ value_of second =
    value_stands bytes start line first second code stand.2.1 in ends code more read value
    (λ others lines rest. in_lines_from bytes (past_of (length bytes) (past_of (length bytes) start first) second)
    (line + 1 + 1) texts others lines stand.2.2 rest)
  where
    ends : (code : ℤ) (more : List Pair) → AreRead (line_of (length bytes) start line first)
        (line_of (length bytes) (past_of (length bytes) start first) (line + 1) second) code more (code_of first)
        (reading_behind bytes start line first second texts) pairs
        → value_in bytes (pair_here bytes start line first second code) ≡ value_of second
        → ((others : List Pair) → lines_of (drop (past_of (length bytes) (past_of (length bytes) start first) second)
        bytes) ≡ texts → reading_behind bytes start line first second texts ≡ Ok others → AreInLines bytes others)
        → AreInLines bytes pairs
    ends code more read value behind_it = by_rest read.rest_is where
      by_rest : ((ends_drawing code (value_of second) ≡ true) × (more ≡ []))
          ⊎ ((ends_drawing code (value_of second) ≡ false)
          × (reading_behind bytes start line first second texts ≡ Ok more))
          → AreInLines bytes pairs
      by_rest (inl alone) = grind (arith, pair_here)
      by_rest (inr others) = by_texts texts are stand.2.2 others.1 behind_it where
        by_texts : (left : List (List ℕ)) → lines_of (drop start bytes) ≡ first ∷ second ∷ left
            → Stand bytes (past_of (length bytes) (past_of (length bytes) start first) second) left
            → reading_behind bytes start line first second left ≡ Ok more → ((others : List Pair) → lines_of (drop
            (past_of (length bytes) (past_of (length bytes) start first) second) bytes) ≡ left
            → reading_behind bytes start line first second left ≡ Ok others → AreInLines bytes others)
            → AreInLines bytes pairs
        by_texts [] lines_are stand_left rest_is behind_left = absurd (cc)
        by_texts (third ∷ left) lines_are stand_left rest_is behind_left =
            let one = first_line (drop start bytes) first second (third ∷ left) lines_are in
            let two = first_line one.rest second third left one.behind in
            let inside : start ≤ length bytes = omega (arith, stand.0) in
            let both : first ++ LINE_FEED ∷ (second ++ LINE_FEED ∷ two.rest) ≡ drop start bytes =
            sym (one.whole ∙ ap (λ (t : List ℕ). first ++ LINE_FEED ∷ t) two.whole) in
            let here = stands bytes start line first second two.rest code inside both one.one two.one read.code_is
            others.0 value in
            let rest_lines : lines_of (drop (past_of (length bytes) (past_of (length bytes) start first) second) bytes)
            ≡ third ∷ left = ap lines_of (sym here.1) ∙ two.behind in grind (arith, joined, pair_here)

pub in_lines : PairsAreInLines
in_lines bytes pairs is = in_lines_from bytes 0 1 (lines_of bytes) pairs refl (all_stand bytes)
    (read_of_lines bytes pairs is)
