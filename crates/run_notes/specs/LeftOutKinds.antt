-- The kinds of the entities that are left out of drawings.
use Rattle.std.specs.Prelude.{◌≡◌, ◌⊎◌, ℕ, Bool, true, false, not, List, [], ◌∷◌, Option, Some, None, map, drop}
use Rattle.std.specs.Prelude.{count_by, if◌then◌else◌, string_bytes, ◌-◌, length, take, nat_le, nat_lt}
use Rattle.std.specs.List.{after_first, before_first, filter}
use Rattle.std.specs.Str.{bytes_eq, is_utf8, trim}
use Rattle.sheet_base.specs.declared.edits.Edit.{Edit}
use Rattle.sheet_base.specs.declared.edits.What.{What}
use Rattle.sheet_base.specs.declared.edits.What.TheVariants.{Drop}
use Rattle.sheet_base.specs.declared.flags.How.{How}
use Rattle.sheet_base.specs.Sheets.{Contents}
use Rattle.job_words.specs.declared.formats.Format.TheVariants.{Drawing}
use Rattle.job_words.specs.declared.jobs.Job.{Job}
use Rattle.job_words.specs.declared.jobs.Job.TheVariants.{Migrate, Check, Make, Verify, Heights}
use Rattle.job_words.specs.Formats.{format_by_name}
use Rattle.remarks.specs.declared.file_lines.KindCount.{KindCount}
use Rattle.remarks.specs.declared.file_lines.KindCounts.{KindCounts}
use Rattle.run_notes.specs.declared.entity_kinds.TheConstants.{MOST_KINDS}
use Rattle.remarks.specs.LineColumns.{is_feed}
use Rattle.run_notes.specs.LayersAgain.{IsLayerIn}

-- ---- the kinds of entities
-- the second line of a text, without its line feed; it is empty where there is none
abbrev pub second_line : List ℕ → List ℕ
second_line text = before_first is_feed (after_first is_feed text)

-- the line without white space at its ends, or nothing where it is no UTF-8
abbrev pub kind_in_line : List ℕ → List ℕ
kind_in_line line = if is_utf8 line then trim line else []

-- the kind of the entity that begins at a place: what is on its second line, after its group code
abbrev pub kind_at : List ℕ → ℕ → List ℕ
kind_at bytes start = kind_in_line (second_line (drop start bytes))

-- the bytes in this place are left out
abbrev pub leaves_out : What → Bool
leaves_out Drop = true
leaves_out _ = false

-- the kinds of the entities that edits leave out, in order of the edits
abbrev pub dropped_kinds : List ℕ → List Edit → List (List ℕ)
dropped_kinds bytes edits =
    map (λ (edit : Edit). kind_at bytes edit.start) (filter (λ (edit : Edit). leaves_out edit.what) edits)

-- each of the texts once, in order of its first place, and how many of them are the same
abbrev pub with_counts : List (List ℕ) → List (List ℕ × ℕ)
with_counts [] = []
with_counts (text ∷ texts) = (text, count_by (bytes_eq text) (text ∷ texts))
    ∷ filter (λ (other : List ℕ × ℕ). not (bytes_eq text other.0)) (with_counts texts)

-- the kinds of the entities that edits leave out, each once with how many entities there are, in order of the first
abbrev pub kinds_left_out : List ℕ → List Edit → List (List ℕ × ℕ)
kinds_left_out bytes edits = with_counts (dropped_kinds bytes edits)

-- a count among others that are in order: after those that are as large or larger
abbrev pub placed_last : List ℕ × ℕ → List (List ℕ × ℕ) → List (List ℕ × ℕ)
placed_last counted [] = counted ∷ []
placed_last counted (other ∷ more) =
    if nat_le counted.1 other.1 then other ∷ placed_last counted more else counted ∷ other ∷ more

-- a count among later ones that are in order: before those that are as large or smaller
abbrev pub placed_first : List ℕ × ℕ → List (List ℕ × ℕ) → List (List ℕ × ℕ)
placed_first counted [] = counted ∷ []
placed_first counted (other ∷ more) =
    if nat_lt counted.1 other.1 then other ∷ placed_first counted more else counted ∷ other ∷ more

-- the counts in order, the largest first, and equal ones as they were
abbrev pub by_count : List (List ℕ × ℕ) → List (List ℕ × ℕ)
by_count [] = []
by_count (counted ∷ more) = placed_first counted (by_count more)

-- the largest counts, and how many more there are
abbrev pub most_frequent : List (List ℕ × ℕ) → List (List ℕ × ℕ) × ℕ
most_frequent counts = (take MOST_KINDS (by_count counts), length counts - MOST_KINDS)

-- a kind and how many entities there are
abbrev pub kind_and_count : KindCount → List ℕ × ℕ
kind_and_count kind = (string_bytes kind.name, kind.count)

-- the kinds that are named, and how many more there are
abbrev pub kinds_found : KindCounts → List (List ℕ × ℕ) × ℕ
kinds_found kinds = (map kind_and_count kinds.named.items, kinds.more)

-- ---- of the layers of a job
-- These kinds are the most frequent that are left out of the layer of this name, and this is how many more there are.
-- It is a drawing, and some bytes of one leave out just these.
pub record AreLeftOutOf (how : How) (name : List ℕ) (found : List (List ℕ × ℕ) × ℕ) : Type 0 where
  pub drawing : format_by_name name ≡ Some Drawing
  pub bytes : List ℕ
  pub sheet : Contents
  pub layer : IsLayerIn (format_by_name name) how bytes sheet
  pub left_out : found ≡ most_frequent (kinds_left_out bytes sheet.edits)

-- what is found of a layer: kinds that are left out of it, or nothing where it is no drawing or cannot be read twice
abbrev pub IsFoundInLayer : How → List ℕ → Option (List (List ℕ × ℕ) × ℕ) → Type 0
IsFoundInLayer how name None = Unit {0}
IsFoundInLayer how name (Some found) = AreLeftOutOf how name found

-- one for each layer, in order
abbrev pub AreFoundInLayers : How → List (List ℕ) → List (Option (List (List ℕ × ℕ) × ℕ)) → Type 0
AreFoundInLayers how [] [] = Unit {0}
AreFoundInLayers how [] (found ∷ more) = ⊥
AreFoundInLayers how (name ∷ names) [] = ⊥
AreFoundInLayers how (name ∷ names) (found ∷ more) = IsFoundInLayer how name found × AreFoundInLayers how names more

-- where entities may be left out, what is found of each layer, in order, and else nothing at all
abbrev pub AreFoundWhere : Bool → How → List (List ℕ) → List (Option (List (List ℕ × ℕ) × ℕ)) → Type 0
AreFoundWhere false how layers found = found ≡ []
AreFoundWhere true how layers found = AreFoundInLayers how layers found

-- what is found of the layers of a migration with `--drop-other`, and nothing of other jobs
abbrev pub AreFoundIn : Job → List (Option (List (List ℕ × ℕ) × ℕ)) → Type 0
AreFoundIn (Migrate tin out how inverse cert sides layers) found = AreFoundWhere how.drop_other how layers found
AreFoundIn (Check tin how) found = found ≡ []
AreFoundIn (Make n) found = found ≡ []
AreFoundIn (Verify tin source written cert how inverse) found = found ≡ []
AreFoundIn (Heights tin out how points) found = found ≡ []

-- what is found later is what was found, or it is found of the layers of the job
abbrev pub AreFoundOrSame : Option Job → Option (List (Option (List (List ℕ × ℕ) × ℕ)))
    → Option (List (Option (List (List ℕ × ℕ) × ℕ))) → Type 0
AreFoundOrSame job before None = before ≡ None
AreFoundOrSame None before (Some found) = before ≡ Some found
AreFoundOrSame (Some job) before (Some found) = (before ≡ Some found) ⊎ AreFoundIn job found
