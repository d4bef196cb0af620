-- How lines turn into those that are written.
use Rattle.std.proofs.Common.{◌≡◌, ◌==◌, ℕ, zero, suc, ◌+◌, ◌-◌, Bool, true, false, List, [], ◌∷◌, ◌++◌, length, take}
use Rattle.std.proofs.Common.{drop, refl, sym, ap, ◌∙◌, subst, append-nil, arith, All}
use Rattle.std.specs.Prelude.{not, map, sum_by}
use Rattle.std.specs.List.{list_all, AllByRecursion, join_with_byte, onto_first}
use Rattle.std.proofs.lemmas.Bool.{and_parts}
use Rattle.std.proofs.lemmas.List.{map-append}
use Rattle.std.proofs.lemmas.List.Sums.{sum_by-append}
use Rattle.std.proofs.lemmas.List.Splits.{slice_split_none, slice_split_at, join_with_byte-slice_split}
use Rattle.sheet_base.specs.PointHeights.{Position}
use Rattle.sheet_base.specs.declared.edits.Edit.{Edit}
use Rattle.wkt_layer.specs.Tokens.{Placed, tokens_of}
use Rattle.wkt_layer.specs.Geometries.{Geometry, point}
use Rattle.wkt_layer.specs.Geometries.{IsGeometry, geometry_tokens}
use Rattle.wkt_layer.specs.Paths.{Path, geometry_paths, lost_on, edits_from}
use Rattle.wkt_layer.specs.Lines.{IsLineOf, tokens_in}
use Rattle.wkt_layer.specs.Layers.{geometry_lines, AreLinesOf}
use Rattle.wkt_layer.specs.declared.limits.TheConstants.{DEEPEST, LINE_FEED}
use Rattle.sheet_base.specs.Splices.{AreInOrder, splice_of}
use Rattle.sheet_base.proofs.Swaps.{Swapped, spliced_on, on_from, swapped_all, kept_swapped, both_swapped}
use Rattle.sheet_base.proofs.DrawnPaths.{suit_parts, redrawn_append}
use Rattle.wkt_layer.proofs.SheetLaws.EditOrder.{split_some}
use Rattle.wkt_layer.proofs.CodeReads.TokenReads.{blank_tokens, black_tokens}
use Rattle.wkt_layer.proofs.WrittenLayers.TokenCuts.{lexed, clear_end}
use Rattle.wkt_layer.proofs.WrittenLayers.Turns.{drawn, redrawn, edits_append, AllSuit, IsRead, Turned}
use Rattle.wkt_layer.proofs.WrittenLayers.PointTurns.{DoesSay}
use Rattle.wkt_layer.proofs.WrittenLayers.GeometryTurns.{geometry_turned}

-- ---- one line
no_tokens : (one : Geometry) → geometry_tokens one ≡ [] → ⊥
no_tokens (point raised points) e = cc
no_tokens one e = cc

line_is : (exact : Bool) (line : List Placed) (one : Geometry) → IsGeometry exact DEEPEST one
    → tokens_in line ≡ geometry_tokens one → IsLineOf exact line (geometry_paths one)
line_is exact [] one good e = absurd (no_tokens one (sym e))
line_is exact (first ∷ more) one good e = (one, good, e, refl)

-- blanks alone are blanks anywhere
blank_anywhere : (at from : ℕ) (line : List ℕ) → tokens_of at line ≡ [] → tokens_of from line ≡ []
blank_anywhere at from line e = grind (arith, blank_tokens, black_tokens)

none_lexed : (line : List Placed) → tokens_in line ≡ [] → line ≡ []
none_lexed [] e = refl
none_lexed (one ∷ more) e = cc

-- some lines are written in place of lines of these paths, and are read as the same paths with images in place of their
-- points
pub record IsWritten (exact : Bool) (images : ℕ → List Position) (nth : ℕ) (paths : List Path)
    (AreOf : List Path → Type 0) : Type 0 where
  pub others : List Path
  pub are_of : AreOf others
  pub drawn_are : map drawn others ≡ redrawn images nth paths
  pub exact_all : sum_by lost_on others ≡ 0

pub record LineTurned (exact : Bool) (text : Edit → List ℕ) (images : ℕ → List Position) (at : ℕ) (line : List ℕ)
    (nth : ℕ)
    (paths : List Path) : Type 0 where
  pub now : List ℕ
  pub swap : Swapped text at line (edits_from nth paths) now
  pub reads : (from : ℕ) → IsWritten exact images nth paths (IsLineOf exact (tokens_of from now))

module _ (exact : Bool) (text : Edit → List ℕ) (images : ℕ → List Position) (says : DoesSay text images) where
  line_turned : (at : ℕ) (line : List ℕ) (nth : ℕ) (paths : List Path) → AllSuit images nth paths
      → IsLineOf exact (tokens_of at line) paths → LineTurned exact text images at line nth paths
  line_turned at line nth paths suit is = by_tokens (tokens_of at line) refl is
    where
      blank : tokens_of at line ≡ [] → paths ≡ [] → LineTurned exact text images at line nth paths
      blank none no_paths = record {
        now = line;
        swap = subst (λ ps. Swapped text at line (edits_from nth ps) line) (sym no_paths) (kept_swapped text at line);
        reads = λ from. record {
          others = [];
          are_of = subst (λ ts. IsLineOf exact ts []) (sym (blank_anywhere at from line none)) refl;
          drawn_are = sym (ap (redrawn images nth) no_paths);
          exact_all = refl;
        };
      }

      black : (one : Geometry) → IsGeometry exact DEEPEST one → tokens_in (tokens_of at line) ≡ geometry_tokens one
          → paths ≡ geometry_paths one → LineTurned exact text images at line nth paths
      black one good same are =
          go (geometry_turned exact text images says DEEPEST one good nth at line []
          (subst (AllSuit images nth) are suit) (same ∙ sym (append-nil (geometry_tokens one))))
        where
          go : Turned geometry_tokens geometry_paths (IsGeometry exact DEEPEST) text images one nth at line []
              → LineTurned exact text images at line nth paths
          go t = record {
            now = t.now ++ t.rest;
            swap = subst (λ l. Swapped text at l (edits_from nth paths) (t.now ++ t.rest)) (sym t.split)
                (subst (λ es. Swapped text at (t.taken ++ t.rest) es (t.now ++ t.rest))
                (append-nil (edits_from nth (geometry_paths one)) ∙ ap (edits_from nth) (sym are))
                (both_swapped text at t.taken t.rest (edits_from nth (geometry_paths one)) [] t.now t.rest t.swap
                (kept_swapped text (at + length t.taken) t.rest)));
            reads = λ from. on from (t.reads from t.rest (clear_end (at + length t.taken) t.rest t.left));
          }
            where
              on : (from : ℕ) → IsRead geometry_tokens geometry_paths (IsGeometry exact DEEPEST)
                  (redrawn images nth (geometry_paths one)) (lexed from (t.now ++ t.rest))
                  (lexed (from + length t.now) t.rest)
                  → IsWritten exact images nth paths (IsLineOf exact (tokens_of from (t.now ++ t.rest)))
              on from r =
                  let none : lexed (from + length t.now) t.rest ≡ [] =
                  ap tokens_in (blank_anywhere (at + length t.taken) (from + length t.now) t.rest
                  (none_lexed (tokens_of (at + length t.taken) t.rest) t.left)) in
                  record {
                    others = geometry_paths r.part;
                    are_of = line_is exact (tokens_of from (t.now ++ t.rest)) r.part r.good
                        (r.is ∙ ap (λ ts. geometry_tokens r.part ++ ts) none ∙ append-nil (geometry_tokens r.part));
                    drawn_are = r.drawn_are ∙ ap (redrawn images nth) (sym are);
                    exact_all = r.exact;
                  }

      by_tokens : (ts : List Placed) → tokens_of at line ≡ ts → IsLineOf exact ts paths
          → LineTurned exact text images at line nth paths
      by_tokens [] none no_paths = blank none no_paths
      by_tokens (first ∷ more) e (one, good, same, are) = black one good (ap tokens_in e ∙ same) are

-- ---- no line feed is written
abbrev pub is_no_feed : ℕ → Bool
is_no_feed byte = not (byte == LINE_FEED)

abbrev pub HasNoFeed : List ℕ → Type 0
HasNoFeed bytes = list_all is_no_feed bytes ≡ true

pub no_feed_append : (xs ys : List ℕ) → HasNoFeed xs → HasNoFeed ys → HasNoFeed (xs ++ ys)
no_feed_append [] ys a b = b
no_feed_append (x ∷ xs) ys a b = let parts =
    and_parts (is_no_feed x) (list_all is_no_feed xs) a in rw parts.0 (no_feed_append xs ys parts.1 b)

no_feed_parts : (n : ℕ) (xs : List ℕ) → HasNoFeed xs → HasNoFeed (take n xs) × HasNoFeed (drop n xs)
no_feed_parts zero xs a = (refl, a)
no_feed_parts (suc n) [] a = (refl, refl)
no_feed_parts (suc n) (x ∷ xs) a = grind (arith, and_parts, (no_feed_parts n xs))

spliced_no_feed : (text : Edit → List ℕ) → ((edit : Edit) → HasNoFeed (text edit))
    → (at : ℕ) (bytes : List ℕ) (edits : List Edit) → HasNoFeed bytes → HasNoFeed (spliced_on text at bytes edits)
spliced_no_feed text free at bytes [] a = a
spliced_no_feed text free at bytes (edit ∷ edits) a =
    let front = no_feed_parts (edit.start - at) bytes a in
    let back = no_feed_parts (edit.end - at) bytes a in
    no_feed_append (take (edit.start - at) bytes)
    (text edit ++ spliced_on text edit.end (drop (edit.end - at) bytes) edits) front.0
    (no_feed_append (text edit) (spliced_on text edit.end (drop (edit.end - at) bytes) edits) (free edit)
    (spliced_no_feed text free edit.end (drop (edit.end - at) bytes) edits back.1))

swapped_no_feed : (text : Edit → List ℕ) → ((edit : Edit) → HasNoFeed (text edit))
    → (at : ℕ) (taken : List ℕ) (edits : List Edit) (now : List ℕ) → Swapped text at taken edits now → HasNoFeed taken
    → HasNoFeed now
swapped_no_feed text free at taken edits now swap a =
    subst HasNoFeed (swapped_all text at taken edits now swap) (spliced_no_feed text free at taken edits a)

-- ---- many lines
abbrev pub HaveNoFeed : List (List ℕ) → Type 0
HaveNoFeed lines = AllByRecursion HasNoFeed lines

abbrev pub joined_lines : List (List ℕ) → List ℕ
joined_lines lines = join_with_byte LINE_FEED lines

no_feed_all : (xs : List ℕ) → HasNoFeed xs → All (λ x. (x == LINE_FEED) ≡ false) xs
no_feed_all [] a k d h = absurd (omega (arith, h))
no_feed_all (x ∷ xs) a zero d h = grind (arith, and_parts)
no_feed_all (x ∷ xs) a (suc k) d h = no_feed_all xs (and_parts (is_no_feed x) (list_all is_no_feed xs) a).1 k d
    (omega (arith, h))

lines_joined : (line : List ℕ) (lines : List (List ℕ)) → HaveNoFeed (line ∷ lines)
    → geometry_lines (joined_lines (line ∷ lines)) ≡ line ∷ lines
lines_joined line [] free = slice_split_none (λ byte. byte == LINE_FEED) line (no_feed_all line free.0)
lines_joined line (next ∷ lines) free = grind (arith, slice_split_at, no_feed_all, (lines_joined next lines free.1))

onto_no_feed : (byte : ℕ) (lines : List (List ℕ)) → is_no_feed byte ≡ true → HaveNoFeed lines
    → HaveNoFeed (onto_first byte lines)
onto_no_feed byte [] is free = (rw is refl, tt)
onto_no_feed byte (line ∷ lines) is free = (rw is free.0, free.1)

lines_no_feed : (bytes : List ℕ) → HaveNoFeed (geometry_lines bytes)
lines_no_feed [] = (refl, tt)
lines_no_feed (byte ∷ bytes) = grind (arith, onto_no_feed, (lines_no_feed bytes))

pub record LinesTurned (exact : Bool) (text : Edit → List ℕ) (images : ℕ → List Position) (at : ℕ)
    (lines : List (List ℕ))
    (nth : ℕ) (paths : List Path) : Type 0 where
  pub first : List ℕ
  pub more : List (List ℕ)
  pub swap : Swapped text at (joined_lines lines) (edits_from nth paths) (joined_lines (first ∷ more))
  pub free : HaveNoFeed (first ∷ more)
  pub reads : (from : ℕ) → IsWritten exact images nth paths (AreLinesOf exact from (first ∷ more))

module _ (exact : Bool) (text : Edit → List ℕ) (images : ℕ → List Position) (says : DoesSay text images)
    (free : (edit : Edit) → HasNoFeed (text edit)) where
  last_turned : (at : ℕ) (line : List ℕ) (nth : ℕ) (paths : List Path) → AllSuit images nth paths
      → IsLineOf exact (tokens_of at line) paths → HasNoFeed line
      → LinesTurned exact text images at (line ∷ []) nth paths
  last_turned at line nth paths suit is line_no_feed = go (line_turned exact text images says at line nth paths suit is)
    where
      go : LineTurned exact text images at line nth paths → LinesTurned exact text images at (line ∷ []) nth paths
      go l = record {
        first = l.now;
        more = [];
        swap = l.swap;
        free = (swapped_no_feed text free at line (edits_from nth paths) l.now l.swap line_no_feed, tt);
        reads = λ from. on from (l.reads from);
      }
        where
          on : (from : ℕ) → IsWritten exact images nth paths (IsLineOf exact (tokens_of from l.now))
              → IsWritten exact images nth paths (AreLinesOf exact from (l.now ∷ []))
          on from w = record {
            others = w.others;
            are_of = (w.others, [], w.are_of, refl, sym (append-nil w.others));
            drawn_are = w.drawn_are;
            exact_all = w.exact_all;
          }

  next_turned : (at : ℕ) (line next : List ℕ) (lines : List (List ℕ)) (nth : ℕ) (here others : List Path)
      → HasNoFeed line
      → LineTurned exact text images at line nth here
      → LinesTurned exact text images (at + length line + 1) (next ∷ lines) (nth + length here) others
      → LinesTurned exact text images at (line ∷ next ∷ lines) nth (here ++ others)
  next_turned at line next lines nth here others line_no_feed l r =
      let later = joined_lines (r.first ∷ r.more) in
      record {
        first = l.now;
        more = r.first ∷ r.more;
        swap = subst (λ es. Swapped text at (joined_lines (line ∷ next ∷ lines)) es
            (joined_lines (l.now ∷ r.first ∷ r.more))) (sym (edits_append nth here others))
            (both_swapped text at line (LINE_FEED ∷ joined_lines (next ∷ lines)) (edits_from nth here)
            (edits_from (nth + length here) others) l.now (LINE_FEED ∷ later) l.swap
            (both_swapped text (at + length line) (LINE_FEED ∷ []) (joined_lines (next ∷ lines)) []
            (edits_from (nth + length here) others) (LINE_FEED ∷ []) later
            (kept_swapped text (at + length line) (LINE_FEED ∷ [])) r.swap));
        free = (swapped_no_feed text free at line (edits_from nth here) l.now l.swap line_no_feed, r.free);
        reads = λ from. on from (l.reads from) (r.reads (from + length l.now + 1));
      }
    where
      on : (from : ℕ) → IsWritten exact images nth here (IsLineOf exact (tokens_of from l.now))
          → IsWritten exact images (nth + length here) others
          (AreLinesOf exact (from + length l.now + 1) (r.first ∷ r.more))
          → IsWritten exact images nth (here ++ others) (AreLinesOf exact from (l.now ∷ r.first ∷ r.more))
      on from v w = record {
        others = v.others ++ w.others;
        are_of = (v.others, w.others, v.are_of, w.are_of, refl);
        drawn_are = map-append drawn v.others w.others ∙ ap (λ ds. ds ++ map drawn w.others) v.drawn_are
            ∙ ap (λ ds. redrawn images nth here ++ ds) w.drawn_are ∙ sym (redrawn_append drawn images nth here others);
        exact_all = sum_by-append lost_on v.others w.others ∙ omega (arith, v.exact_all, w.exact_all);
      }

  lines_turned : (at : ℕ) (line : List ℕ) (lines : List (List ℕ)) (nth : ℕ) (paths : List Path)
      → AllSuit images nth paths → AreLinesOf exact at (line ∷ lines) paths → HaveNoFeed (line ∷ lines)
      → LinesTurned exact text images at (line ∷ lines) nth paths
  lines_turned at line [] nth paths suit (here, others, is, none, same) line_no_feed =
      grind (arith, append-nil, last_turned, AllSuit)
  lines_turned at line (next ∷ lines) nth paths suit (here, others, is, are, same) line_no_feed =
      let suits = suit_parts drawn images nth here others (subst (AllSuit images nth) same suit) in
      subst (LinesTurned exact text images at (line ∷ next ∷ lines) nth) (sym same)
      (next_turned at line next lines nth here others line_no_feed.0
      (line_turned exact text images says at line nth here suits.0 is)
      (lines_turned (at + length line + 1) next lines (nth + length here) others suits.1 are line_no_feed.1))

  -- ---- the whole text
  pub text_turned : (bytes : List ℕ) (paths : List Path) → AllSuit images 0 paths
      → AreLinesOf exact 0 (geometry_lines bytes) paths → AreInOrder 0 (edits_from 0 paths) (length bytes)
      → IsWritten exact images 0 paths (AreLinesOf exact 0 (geometry_lines (splice_of bytes text (edits_from 0 paths))))
  text_turned bytes paths suit are order = by_lines (split_some (λ byte. byte == LINE_FEED) bytes)
    where
      by_lines : (line : List ℕ) × (lines : List (List ℕ)) × (geometry_lines bytes ≡ line ∷ lines)
          → IsWritten exact images 0 paths (AreLinesOf exact 0
          (geometry_lines (splice_of bytes text (edits_from 0 paths))))
      by_lines (line, lines, split) =
          go (lines_turned 0 line lines 0 paths suit (subst (λ ls. AreLinesOf exact 0 ls paths) split are)
          (subst HaveNoFeed split (lines_no_feed bytes)))
        where
          go : LinesTurned exact text images 0 (line ∷ lines) 0 paths
              → IsWritten exact images 0 paths (AreLinesOf exact 0
              (geometry_lines (splice_of bytes text (edits_from 0 paths))))
          go t =
              let whole : bytes ≡ joined_lines (line ∷ lines) = sym (join_with_byte-slice_split LINE_FEED bytes)
              ∙ ap joined_lines split in
              let now : splice_of bytes text (edits_from 0 paths) ≡ joined_lines (t.first ∷ t.more) =
              on_from bytes text 0 (edits_from 0 paths) (length bytes) order
              ∙ ap (λ xs. spliced_on text 0 xs (edits_from 0 paths)) whole
              ∙ swapped_all text 0 (joined_lines (line ∷ lines)) (edits_from 0 paths) (joined_lines (t.first ∷ t.more))
              t.swap in
              let same : geometry_lines (splice_of bytes text (edits_from 0 paths)) ≡ t.first ∷ t.more =
              ap geometry_lines now
              ∙ lines_joined t.first t.more t.free in
              subst (λ ls. IsWritten exact images 0 paths (AreLinesOf exact 0 ls)) (sym same) (t.reads 0)
