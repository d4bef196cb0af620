-- The lines of a text, its first line, and the lines after a line feed.
use Rattle.std.proofs.Common.{◌≡◌, ◌==◌, ◌<◌, ◌+◌, ℕ, List, [], ◌∷◌, length, take, drop, refl, ◌∙◌, ap, arith}
use Rattle.std.proofs.Common.{min, ◌++◌, Bool, true, false, ◌-◌, zero, suc, sym, Option, None, Some}
use Rattle.std.specs.Prelude.{slice_index, if◌then◌else◌}
use Rattle.std.proofs.lemmas.List.Splits.{length-slice_split, slice_split_at}
use Rattle.std.proofs.lemmas.List.{take_rest, length-drop, length-take-le, drop-drop}
use Rattle.std.proofs.Math.Seq.{drop-length}
use Rattle.std.specs.List.{slice_split, onto_first}
use Rattle.std.proofs.lemmas.List.Elements.{All-cons}
use Rattle.text_places.proofs.LineParts.{part_alone, part_before}
use Rattle.memchr.specs.Find.{is_byte, Nowhere, NoneBefore, Passes, places_from, places, TakesFirst, IsFirstByte}
use Rattle.dxf_pairs.specs.declared.line_ends.TheConstants.{LINE_FEED}
use Rattle.dxf_pairs.specs.Lines.{lines_of, without_empty_last, lines_from, lines_of_texts, between}
use Rattle.dxf_pairs.specs.InLines.{IsOneLine}
use Rattle.dxf_pairs.specs.Laws.{LinesFollow}

-- ---- the first line of a text, and those after it
-- a text has some part
some_part : (text : List ℕ) → 0 < length (slice_split (λ byte. byte == LINE_FEED) text)
some_part text = let count = length-slice_split (λ byte. byte == LINE_FEED) text in omega arith

-- a line in front of parts; there is always one part
in_front : (line text : List ℕ) → without_empty_last (line ∷ slice_split (λ byte. byte == LINE_FEED) text) ≡ line
    ∷ lines_of text
in_front line text = by (slice_split (λ byte. byte == LINE_FEED) text) (some_part text)
  where
    by : (parts : List (List ℕ)) → 0 < length parts
        → without_empty_last (line ∷ parts) ≡ line ∷ without_empty_last parts
    by [] some = absurd (omega arith)
    by (part ∷ parts) some = refl

-- a text without a line feed is one line
one_line : (text : List ℕ) → 0 < length text → Nowhere (Passes (is_byte LINE_FEED) text) 0 (length text)
    → lines_of text ≡ text ∷ []
one_line text some nowhere =
    let parts : slice_split (λ byte. byte == LINE_FEED) text ≡ text ∷ [] =
    part_alone LINE_FEED text (λ k within. nowhere k (omega arith) within) in rw parts (alone text some)
  where
    alone : (line : List ℕ) → 0 < length line → without_empty_last (line ∷ []) ≡ line ∷ []
    alone [] some = absurd (omega arith)
    alone (byte ∷ line) some = refl

-- the first of the places from one on that pass, and none of them
module _ (test : ℕ → Bool) (hay : List ℕ) where
  first_place : (i n end k : ℕ) (rest : List ℕ) → i + n ≡ end → places_from test hay i n ≡ k ∷ rest
      → NoneBefore (Passes test hay) i end k × Passes test hay k
  unfolding places_from
  first_place i zero end k rest size is = absurd (cc)
  first_place i (suc n) end k rest size is =
      by (test (slice_index hay i)) refl is (first_place (i + 1) n end k rest (omega (arith, size))) where
        by : (here : Bool) → test (slice_index hay i) ≡ here
            → (if here then i ∷ places_from test hay (i + 1) n else places_from test hay (i + 1) n) ≡ k ∷ rest
            → (places_from test hay (i + 1) n ≡ k ∷ rest
            → NoneBefore (Passes test hay) (i + 1) end k × Passes test hay k)
            → NoneBefore (Passes test hay) i end k × Passes test hay k
        by true here is later = grind arith
        by false here is later = let next = later is in grind arith

  no_place : (i n end : ℕ) → i + n ≡ end → places_from test hay i n ≡ [] → Nowhere (Passes test hay) i end
  unfolding places_from
  no_place i zero end size is = λ q low below. absurd (omega (arith, size))
  no_place i (suc n) end size is =
      by (test (slice_index hay i)) refl is (no_place (i + 1) n end (omega (arith, size))) where
        by : (here : Bool) → test (slice_index hay i) ≡ here
            → (if here then i ∷ places_from test hay (i + 1) n else places_from test hay (i + 1) n) ≡ []
            → (places_from test hay (i + 1) n ≡ [] → Nowhere (Passes test hay) (i + 1) end)
            → Nowhere (Passes test hay) i end
        by true here is later = absurd (cc)
        by false here is later = let next = later is in grind arith

-- what an iterator over the places gives first
pub first_taken : (test : ℕ → Bool) (hay now left : List ℕ) (found : Option ℕ) → now ≡ places test hay
    → TakesFirst now found left → IsFirstByte test hay found
first_taken test hay now left None are taken =
    no_place test hay 0 (length hay - 0) (length hay) (omega arith) (sym are ∙ taken.0)
first_taken test hay now left (Some k) are taken =
    first_place test hay 0 (length hay - 0) (length hay) k left (omega arith) (sym are ∙ taken)

-- the first line ends before the first line feed
line_before : (text : List ℕ) (end : ℕ) → NoneBefore (Passes (is_byte LINE_FEED) text) 0 (length text) end
    → Passes (is_byte LINE_FEED) text end → lines_of text ≡ take end text ∷ lines_of (drop (end + 1) text)
line_before text end first here =
    let split : slice_split (λ byte. byte == LINE_FEED) text ≡ take end text
    ∷ slice_split (λ byte. byte == LINE_FEED) (drop (end + 1) text) =
    part_before LINE_FEED text end first.high (λ k. first.before k (omega arith)) here in grind (arith, in_front)

-- the first line with its places
placed_first : (bytes : List ℕ) (start end past number : ℕ) (text : List ℕ) (texts : List (List ℕ))
    → lines_of (drop start bytes) ≡ text ∷ texts
    → text ≡ between start end bytes → min (start + length text + 1) (length bytes) ≡ past
    → lines_from bytes start number
    ≡ (record { text = between start end bytes; number = number; start = start; end = past })
    ∷ lines_of_texts (length bytes) past (number + 1) texts
placed_first bytes start end past number text texts are text_is past_is = grind arith

-- the first of the lines from a place on, where it ends at a line feed and where it ends with the bytes
pub first_ended : (bytes : List ℕ) (start count number : ℕ) → start < length bytes
    → NoneBefore (Passes (is_byte LINE_FEED) (drop start bytes)) 0 (length (drop start bytes)) count
    → Passes (is_byte LINE_FEED) (drop start bytes) count → lines_from bytes start number
    ≡ (record { text = between start (start + count) bytes; number = number; start = start; end = start + count + 1 })
    ∷ lines_from bytes (start + count + 1) (number + 1)
first_ended bytes start count number within first here =
    grind (arith, length-drop, drop-drop, line_before, length-take-le, placed_first)

pub first_alone : (bytes : List ℕ) (start number : ℕ) → start < length bytes
    → Nowhere (Passes (is_byte LINE_FEED) (drop start bytes)) 0 (length (drop start bytes))
    → lines_from bytes start number
    ≡ (record { text = between start (length bytes) bytes; number = number; start = start; end = length bytes })
    ∷ lines_from bytes (length bytes) (number + 1)
first_alone bytes start number within nowhere =
    grind (arith, length-drop, drop-length, one_line, placed_first, take_rest)

-- ---- the first line of a text, by the lines of the text
-- a line in front of a text
pub line_before_text : (line more : List ℕ) → IsOneLine line
    → lines_of (line ++ LINE_FEED ∷ more) ≡ line ∷ lines_of more
line_before_text line more one = grind (arith, slice_split_at, in_front)

-- a text that is a line and others after it
pub record IsFront (text line : List ℕ) (lines : List (List ℕ)) : Type 0 where
  pub rest : List ℕ
  pub whole : text ≡ line ++ LINE_FEED ∷ rest
  pub behind : lines_of rest ≡ lines
  pub one : IsOneLine line

pub first_line : (text line next : List ℕ) (lines : List (List ℕ)) → lines_of text ≡ line ∷ next ∷ lines
    → IsFront text line (next ∷ lines)
first_line [] line next lines is = absurd (cc)
first_line (byte ∷ text) line next lines is =
    by_feed (byte == LINE_FEED) refl (λ front are. first_line text front next lines are) where
      more_parts : (byte == LINE_FEED) ≡ false → (parts : List (List ℕ)) → 0 < length parts
          → slice_split (λ b. b == LINE_FEED) text ≡ parts
          → without_empty_last (onto_first byte parts) ≡ line ∷ next ∷ lines
          → ((front : List ℕ) → lines_of text ≡ front ∷ next ∷ lines → IsFront text front (next ∷ lines))
          → IsFront (byte ∷ text) line (next ∷ lines)
      more_parts other [] some are split rest = absurd (omega arith)
      more_parts other (part ∷ []) some are split rest = let e : (byte ∷ part) ∷ [] ≡ line ∷ next ∷ lines =
          split in absurd (cc)
      more_parts other (part ∷ second ∷ parts) some are split rest =
          let e : (byte ∷ part) ∷ without_empty_last (second ∷ parts) ≡ line ∷ next ∷ lines = split in
          let line_is : byte ∷ part ≡ line = cc in
          let others : without_empty_last (second ∷ parts) ≡ next ∷ lines = cc in
          let lines_are : lines_of text ≡ part ∷ next ∷ lines = ap without_empty_last are
          ∙ ap (λ ls. part ∷ ls) others in
          let front = rest part lines_are in grind (arith, All-cons)

      by_feed : (feed : Bool) → (byte == LINE_FEED) ≡ feed
          → ((front : List ℕ) → lines_of text ≡ front ∷ next ∷ lines → IsFront text front (next ∷ lines))
          → IsFront (byte ∷ text) line (next ∷ lines)
      by_feed true feed rest = grind (arith, in_front)
      by_feed false feed rest = grind (arith, more_parts, some_part)

-- ---- lines after a line feed
-- a text with a line feed has two parts or more
two_parts : (front more : List ℕ) → 1 < length (slice_split (λ byte. byte == LINE_FEED) (front ++ LINE_FEED ∷ more))
two_parts [] more = let some = some_part more in omega arith
two_parts (byte ∷ front) more = grind (arith, (two_parts front more))

-- a byte more in the first of two parts or more is a byte more in the first line
more_in_first : (byte : ℕ) (parts : List (List ℕ)) → 1 < length parts
    → without_empty_last (onto_first byte parts) ≡ onto_first byte (without_empty_last parts)
more_in_first byte [] two = absurd (omega arith)
more_in_first byte (part ∷ []) two = absurd (omega arith)
more_in_first byte (part ∷ next ∷ parts) two = refl

some_lines : (parts : List (List ℕ)) → 1 < length parts → 0 < length (without_empty_last parts)
some_lines [] two = absurd (omega arith)
some_lines (part ∷ []) two = absurd (omega arith)
some_lines (part ∷ next ∷ parts) two = omega arith

onto_first-append : (byte : ℕ) (lines others : List (List ℕ)) → 0 < length lines
    → onto_first byte (lines ++ others) ≡ onto_first byte lines ++ others
onto_first-append byte [] others some = absurd (omega arith)
onto_first-append byte (line ∷ lines) others some = refl

pub follow : LinesFollow
follow [] more = in_front [] more
follow (byte ∷ front) more =
    grind (arith, in_front, two_parts, more_in_first, onto_first-append, some_lines, (follow front more))
