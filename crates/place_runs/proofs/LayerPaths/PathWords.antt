-- The paths of layers in words: from the spots that are kept of them, for all layers, and what is copied into them.
use Rattle.std.proofs.Common.{◌≡◌, ℕ, zero, suc, ◌+◌, Bool, true, false, List, [], ◌∷◌, ◌++◌, length, map, get_or}
use Rattle.std.proofs.Common.{Option, None, Some, refl, sym, ◌∙◌, ap, ap₂, arith, append_assoc}
use Rattle.std.specs.Prelude.{find}
use Rattle.std.specs.Option.{option_map, option_or}
use Rattle.std.specs.List.{AllByRecursion}
use Rattle.shelf_io.specs.Files.{Files}
use Rattle.sheet_base.specs.declared.flags.How.{How}
use Rattle.sheet_base.specs.declared.edits.Edit.{Edit}
use Rattle.sheet_base.specs.declared.edits.What.{What}
use Rattle.sheet_base.specs.declared.paths.PathRow.{PathRow}
use Rattle.sheet_base.specs.Sheets.{Contents}
use Rattle.tin_base.specs.declared.pieces.Place.{Place}
use Rattle.tin_base.specs.declared.pieces.Piece.{Piece}
use Rattle.tin_base.specs.declared.pieces.Change.{Change}
use Rattle.job_words.specs.declared.formats.Format.{Format}
use Rattle.job_words.specs.declared.formats.Format.TheVariants.{Wkt, GeoJson, Drawing}
use Rattle.layer_features.specs.declared.features.Feature.{Feature}
use Rattle.layer_features.specs.declared.features.TextPart.{TextPart}
use Rattle.layer_features.specs.declared.features.Label.{Label}
use Rattle.layer_features.specs.declared.features.Label.TheVariants.{Number, Handle}
use Rattle.layer_features.specs.Laws.{part_text, IsValuePart, HasValueParts, IsHexadecimalLabel}
use Rattle.layer_features.proofs.CopiedParts.{copies_values}
use Rattle.layer_features.proofs.DrawingLines.{handles_hexadecimal}
use Rattle.change_places.specs.declared.spots.PathSpot.{PathSpot}
use Rattle.sheet_base.specs.EditStarts.{first_start, start_in}
use Rattle.change_places.specs.PathPlaces.{edit_in_lines, line_of}
use Rattle.change_places.specs.PathPlaces.{places_from, path_places}
use Rattle.change_places.specs.Words.{PathText, SideText, ChangeText, label_words, path_words, layer_words}
use Rattle.change_places.specs.Laws.{IsLabelCopied, IsTextCopied, IsPathCopied, IsChangeCopied}
use Rattle.place_runs.specs.Places.{words_in, words_there, words_by_line, ArePathWords}
use Rattle.place_runs.specs.WrittenPaths.{no_words, words_at}
use Rattle.place_runs.specs.Places.{HaveAllPlaces, words_among, IsSideOf, AreSpotsOf}
use Rattle.place_runs.specs.InsidePieces.{no_spot}
use Rattle.place_runs.specs.InsideLayers.{line_spot, line_spots, spot_in, spot_there}

-- ---- paths that belong to features
in_words : (bytes : List ℕ) (at : Option ℕ) (found : Option Feature)
    → path_words bytes (spot_in at found) ≡ words_in bytes at found
in_words bytes at None = refl
in_words bytes at (Some feature) = refl

pub there_words : (bytes : List ℕ) (features : List Feature) (places : List (Option ℕ))
    → map (path_words bytes) (map (spot_there features) places) ≡ map (words_there bytes features) places
there_words bytes features [] = refl
there_words bytes features (at ∷ places) = grind (arith, in_words, (there_words bytes features places))

-- ---- paths that belong to lines
-- the line of each place
abbrev line_at : List ℕ → Option ℕ → Option ℕ
line_at bytes at = option_map (line_of bytes) at

by_line_words : (bytes : List ℕ) (at : Option ℕ) → path_words bytes (line_spot at (line_at bytes at)) ≡ words_by_line bytes at
by_line_words bytes None = refl
by_line_words bytes (Some start) = refl

get_behind : (front : List (Option ℕ)) (at : Option ℕ) (more : List (Option ℕ)) (n : ℕ) → length front ≡ n
    → get_or (front ++ at ∷ more) n None ≡ at
get_behind [] at more zero is = refl
get_behind [] at more (suc n) is = absurd (omega (arith, is))
get_behind (one ∷ front) at more zero is = absurd (omega (arith, is))
get_behind (one ∷ front) at more (suc n) is = get_behind front at more n (omega (arith, is))

lines_from : (bytes : List ℕ) (n : ℕ) (front places : List (Option ℕ)) → length front ≡ n
    → map (path_words bytes) (line_spots n places (front ++ map (line_at bytes) places)) ≡ map (words_by_line bytes) places
lines_from bytes n front [] is = refl
lines_from bytes n front (at ∷ places) is =
    let more = map (line_at bytes) places in
    let here : path_words bytes (line_spot at (get_or (front ++ line_at bytes at ∷ more) n None)) ≡ words_by_line bytes at =
    ap (λ (line : Option ℕ). path_words bytes (line_spot at line)) (get_behind front (line_at bytes at) more n is)
    ∙ by_line_words bytes at in
    let longer : (front ++ line_at bytes at ∷ []) ++ more ≡ front ++ line_at bytes at ∷ more =
    append_assoc front (line_at bytes at ∷ []) more in
    ap₂ (λ (w : PathText) (ws : List PathText). w ∷ ws) here
    (ap (λ (lines : List (Option ℕ)). map (path_words bytes) (line_spots (n + 1) places lines)) (sym longer)
    ∙ lines_from bytes (n + 1) (front ++ line_at bytes at ∷ []) places (pushed front (line_at bytes at) n is))
  where
    pushed : (front : List (Option ℕ)) (at : Option ℕ) (n : ℕ) → length front ≡ n → length (front ++ at ∷ []) ≡ n + 1
    pushed [] at n is = omega (arith, is)
    pushed (one ∷ front) at zero is = absurd (omega (arith, is))
    pushed (one ∷ front) at (suc n) is = let later = pushed front at n (omega (arith, is)) in omega (arith, later)

pub line_words : (bytes : List ℕ) (places lines : List (Option ℕ)) → lines ≡ map (line_at bytes) places
    → map (path_words bytes) (line_spots 0 places lines) ≡ map (words_by_line bytes) places
line_words bytes places lines is =
    ap (λ (ls : List (Option ℕ)). map (path_words bytes) (line_spots 0 places ls)) is ∙ lines_from bytes 0 [] places refl

-- the lines of paths are those of the bytes at which they begin
module _ (bytes : List ℕ) where
  first_in_lines : (of : What → Option ℕ) (number : ℕ) (edits : List Edit)
      → first_start of number (map (edit_in_lines bytes) edits) ≡ line_at bytes (first_start of number edits)
  first_in_lines of number [] = refl
  first_in_lines of number (edit ∷ edits) = grind (arith, (first_in_lines of number edits))

  either_line : (one other : Option ℕ) → option_or (line_at bytes one) (line_at bytes other) ≡ line_at bytes (option_or one other)
  either_line None other = refl
  either_line (Some start) other = refl

  start_in_lines : (edits : List Edit) (path point : ℕ)
      → start_in (map (edit_in_lines bytes) edits) path point ≡ line_at bytes (start_in edits path point)
  start_in_lines edits path point = grind (arith, first_in_lines, either_line)

  places_in_lines : (edits : List Edit) (number : ℕ) (rows : List PathRow)
      → places_from (map (edit_in_lines bytes) edits) number rows ≡ map (line_at bytes) (places_from edits number rows)
  places_in_lines edits number [] = refl
  places_in_lines edits number (row ∷ rows) = grind (arith, start_in_lines, (places_in_lines edits (number + 1) rows))

pub lines_of_places : (bytes : List ℕ) (sheet : Contents)
    → path_places true bytes sheet ≡ map (line_at bytes) (path_places false bytes sheet)
lines_of_places bytes sheet = places_in_lines bytes sheet.edits 0 sheet.paths

-- ---- the layers
pub words_append : (texts : List (List ℕ)) (places : List (List PathSpot)) (text : List ℕ) (own : List PathSpot)
    → length texts ≡ length places
    → layer_words (texts ++ text ∷ []) (places ++ own ∷ []) ≡ layer_words texts places ++ map (path_words text) own ∷ []
words_append [] [] text own is = refl
words_append [] (first ∷ places) text own is = absurd (omega (arith, is))
words_append (one ∷ texts) [] text own is = absurd (omega (arith, is))
words_append (one ∷ texts) (first ∷ places) text own is =
    grind (arith, (words_append texts places text own (omega (arith, is))))

get_mapped : (text : List ℕ) (own : List PathSpot) (path : ℕ)
    → get_or (map (path_words text) own) path no_words ≡ path_words text (get_or own path no_spot)
get_mapped text [] path = refl
get_mapped text (spot ∷ own) zero = refl
get_mapped text (spot ∷ own) (suc path) = get_mapped text own path

-- the words of the path of a number are those of its spot
pub among_by : (texts : List (List ℕ)) (places : List (List PathSpot)) (layer path : ℕ)
    → get_or (get_or (layer_words texts places) layer []) path no_words
    ≡ path_words (get_or texts layer []) (get_or (get_or places layer []) path no_spot)
among_by texts [] layer path = refl
among_by [] (own ∷ places) zero path = get_mapped [] own path
among_by [] (own ∷ places) (suc layer) path = among_by [] places layer path
among_by (text ∷ texts) (own ∷ places) zero path = get_mapped text own path
among_by (text ∷ texts) (own ∷ places) (suc layer) path = among_by texts places layer path

-- the words of a path among those of all layers are those of its spot
pub words_of_spot : (texts : List (List ℕ)) (places : List (List PathSpot)) (from : Place)
    → words_among (layer_words texts places) from
    ≡ path_words (get_or texts from.layer []) (get_or (get_or places from.layer []) from.path no_spot)
words_of_spot texts places from = among_by texts places from.layer from.path

-- ---- what is copied
find_all : (P : Feature → Type 0) (test : Feature → Bool) (features : List Feature) (one : Feature)
    → AllByRecursion P features → find test features ≡ Some one → P one
find_all P test [] one are is = cc
find_all P test (feature ∷ features) one are is = grind (arith, (find_all P test features one are.1))

label_copied : (bytes : List ℕ) (label : Label) → IsHexadecimalLabel bytes label
    → IsLabelCopied (Some (label_words bytes label))
label_copied bytes (Number number) is = tt
label_copied bytes (Handle part) is = is

part_copied : (bytes : List ℕ) (part : Option TextPart) → IsValuePart bytes part
    → IsTextCopied (option_map (part_text bytes) part)
part_copied bytes None is = tt
part_copied bytes (Some part) is = is

in_copied : (bytes : List ℕ) (at : Option ℕ) (found : Option Feature)
    → ((one : Feature) → found ≡ Some one → HasValueParts bytes one) → IsPathCopied (words_in bytes at found)
in_copied bytes at None has = record { feature = tt; id = tt; name = tt }
in_copied bytes at (Some feature) has =
    let own = has feature refl in
    record {
      feature = label_copied bytes feature.label own.label;
      id = part_copied bytes feature.id own.id;
      name = part_copied bytes feature.name own.name;
    }

there_copied : (bytes : List ℕ) (features : List Feature) (at : Option ℕ)
    → AllByRecursion (HasValueParts bytes) features → IsPathCopied (words_there bytes features at)
there_copied bytes features None have = in_copied bytes None None (λ one is. cc)
there_copied bytes features (Some at) have = grind (arith, in_copied, find_all)

all_there_copied : (bytes : List ℕ) (features : List Feature) (places : List (Option ℕ))
    → AllByRecursion (HasValueParts bytes) features
    → AllByRecursion IsPathCopied (map (words_there bytes features) places)
all_there_copied bytes features [] have = tt
all_there_copied bytes features (at ∷ places) have =
    (there_copied bytes features at have, all_there_copied bytes features places have)

by_line_copied : (bytes : List ℕ) (at : Option ℕ) → IsPathCopied (words_by_line bytes at)
by_line_copied bytes None = record { feature = tt; id = tt; name = tt }
by_line_copied bytes (Some start) = record { feature = tt; id = tt; name = tt }

all_lines_copied : (bytes : List ℕ) (places : List (Option ℕ))
    → AllByRecursion IsPathCopied (map (words_by_line bytes) places)
all_lines_copied bytes [] = tt
all_lines_copied bytes (at ∷ places) = (by_line_copied bytes at, all_lines_copied bytes places)

words_copied : (asked : Option (List ℕ)) (format : Format) (bytes : List ℕ) (sheet : Contents)
    (words : List PathText) → ArePathWords asked format bytes sheet words → AllByRecursion IsPathCopied words
words_copied asked Wkt bytes sheet words are = rw are (all_lines_copied bytes (path_places false bytes sheet))
words_copied asked GeoJson bytes sheet words (features, list, are) =
    rw are (all_there_copied bytes features (path_places false bytes sheet) (copies_values asked bytes features list))
words_copied asked Drawing bytes sheet words (features, list, are) =
    rw are (all_there_copied bytes features (path_places true bytes sheet) (handles_hexadecimal bytes features list))

-- what is copied into the paths of all layers are values and handles
pub all_words_copied : (told : Option Files) (how : How) (asked : Option (List ℕ)) (names : List (List ℕ))
    (words : List (List PathText)) → HaveAllPlaces told how asked names words
    → AllByRecursion (AllByRecursion IsPathCopied) words
all_words_copied told how asked [] [] have = tt
all_words_copied told how asked [] (own ∷ words) have = absurd have
all_words_copied told how asked (name ∷ names) [] have = absurd have
all_words_copied told how asked (name ∷ names) (own ∷ words) (has, have) =
    grind (arith, words_copied, (all_words_copied told how asked names words have))

get_all : {A : Type 0} (P : A → Type 0) (xs : List A) (i : ℕ) (d : A) → AllByRecursion P xs → P d → P (get_or xs i d)
get_all P [] i d are is = is
get_all P (x ∷ xs) zero d are is = are.0
get_all P (x ∷ xs) (suc i) d are is = get_all P xs i d are.1 is

pub at_copied : (words : List (List PathText)) (layer path : ℕ)
    → AllByRecursion (AllByRecursion IsPathCopied) words → IsPathCopied (words_at words layer path)
at_copied words layer path are = grind (arith, get_all, get_or)

among_copied : (words : List (List PathText)) (from : Place)
    → AllByRecursion (AllByRecursion IsPathCopied) words → IsPathCopied (words_among words from)
among_copied words from are = at_copied words from.layer from.path are

side_copied : (pieces : List Piece) (words : List (List PathText)) (from : Place) (side : SideText)
    → AllByRecursion (AllByRecursion IsPathCopied) words → IsSideOf pieces words from side → IsPathCopied side.path
side_copied pieces words from side are is = rw is.path_is (among_copied words from are)

pub spots_copied : (pieces : List Piece) (words : List (List PathText)) (changes : List Change)
    (spots : List ChangeText) → AllByRecursion (AllByRecursion IsPathCopied) words
    → AreSpotsOf pieces words changes spots → AllByRecursion IsChangeCopied spots
spots_copied pieces words [] [] copied are = tt
spots_copied pieces words [] (spot ∷ spots) copied are = absurd are
spots_copied pieces words (change ∷ changes) [] copied are = absurd are
spots_copied pieces words (change ∷ changes) (spot ∷ spots) copied (is, are) = (
  record {
    first = side_copied pieces words change.first spot.first copied is.first;
    second = side_copied pieces words change.second spot.second copied is.second;
  },
  spots_copied pieces words changes spots copied are,
)
