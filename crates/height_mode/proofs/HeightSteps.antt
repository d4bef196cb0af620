-- What is so of moving a list of points after each of its steps.
use Rattle.std.proofs.Common.{◌≡◌, ◌≢◌, ◌⊎◌, inl, inr, ℕ, ◌+◌, length, List, [], ◌∷◌, Option, None, Some, IfSome}
use Rattle.std.proofs.lemmas.List.Elements.{Contains-append_left, Contains-append_right}
use Rattle.std.proofs.Common.{lit<, refl, sym, ◌∙◌, ap, ap₂, subst, map, ◌++◌}
use Rattle.std.specs.Prelude.{codes, string_bytes}
use Rattle.shelf_io.specs.Files.{Files}
use Rattle.shelf_io.specs.Load.{LacksName}
use Rattle.sheet_base.specs.declared.flags.How.{How}
use Rattle.sheet_base.specs.declared.faults.LayerFault.{LayerFault}
use Rattle.tin_base.specs.Triangulation.{Triangulation}
use Rattle.tin_file.specs.declared.tall_files.Tall.{Tall}
use Rattle.runs.specs.declared.loads.TheConstants.{MOST_BYTES}
use Rattle.runs.specs.declared.status.Status.{Status}
use Rattle.runs.specs.declared.status.Status.TheVariants.{Same, Words as WordsStatus, Layer as LayerStatus}
use Rattle.runs.specs.declared.status.Status.TheVariants.{Read as ReadStatus, Limit as LimitStatus, Memory}
use Rattle.runs.specs.declared.status.Status.TheVariants.{Outside as OutsideStatus}
use Rattle.runs.specs.declared.refusal.Refusal.{Refusal}
use Rattle.runs.specs.declared.refusal.Refusal.TheVariants.{TinUnread, TinLong, Tin, Check, LayerUnread}
use Rattle.runs.specs.declared.refusal.Refusal.TheVariants.{LayersLong, Layer, Outside}
use Rattle.runs.specs.declared.refusal.Refusal.TheVariants.{WrittenLong, CertLong}
use Rattle.runs.specs.declared.refusal.Refusal.TheVariants.{NoMemory}
use Rattle.runs.specs.Refusals.{status_of}
use Rattle.runs.specs.Status.{end_of}
use Rattle.job_words.specs.Names.{part_behind_slashes}
use Rattle.runs.specs.declared.output.LayerFile.{LayerFile}
use Rattle.runs.specs.Output.{file_of, files_of, name_in, HasSlash, AreWritable, HasForm}
use Rattle.runs.specs.declared.output.RunOutput.{RunOutput}
use Rattle.runs.specs.Triangulations.{HasFileOver}
use Rattle.runs.specs.Counts.{ShelfCounts, HasFailed, HasGivenMore}
use Rattle.runs.specs.Causes.{by_the_files, unread, no_room, HasCauses}
use Rattle.runs.specs.Loads.{IsUnloaded, missing, read_failed, too_long, no_memory}
use Rattle.runs.proofs.Faults.{unread_layer, layer_without_room, of_layer}
use Rattle.runs.proofs.Faults.{IsOfTin, refused_tin, limited_tin, tin_without_room}
use Rattle.runs.proofs.TinCauses.{fault_causes, check_causes}
use Rattle.height_mode.specs.declared.heights.HeightJob.{HeightJob}
use Rattle.height_mode.specs.Talls.{HasTallOver, IsTallRefusedOver, IsTallTextRefused, IsTallUnready, not_loaded, no_tall}
use Rattle.height_mode.specs.Heights.{IsUnmoved, IsHeightsRefusedOver, IsListReachedByOver}
use Rattle.height_mode.specs.Heights.{MayRefuseHeightsOver, LacksListed, IsEndOfHeights, IsMoved, AreMoved, heights_text}
use Rattle.height_mode.specs.Heights.{moved_files, IsHeightsWritten}
use Rattle.height_mode.proofs.TallRefusals.{without_file, without_read, without_room, unready}

-- ---- the causes that are known of a refusal
-- of the files that moving wants, too many bytes pass this
abbrev passed_of : ShelfCounts → Refusal → Type 0
passed_of counts WrittenLong = ⊥
passed_of counts CertLong = ⊥
passed_of counts refusal = HasGivenMore MOST_BYTES counts

module _ (lacks : Type 0) (counts : ShelfCounts) (refusal : Refusal) where
  read_causes : status_of refusal ≡ ReadStatus → HasFailed counts ⊎ lacks
      → HasCauses lacks IsEndOfHeights counts refusal
  read_causes is why = record {
    understood = λ e. let f = sym is ∙ e in cc;
    read = λ e. why;
    tin_long = λ e. let f = sym is ∙ ap status_of e in cc;
    layers_long = λ e. let f = sym is ∙ ap status_of e in cc;
    written_long = λ e. let f = sym is ∙ ap status_of e in cc;
    cert_long = λ e. let f = sym is ∙ ap status_of e in cc;
    may_end = subst IsEndOfHeights (sym is) tt;
  }

  limit_causes : status_of refusal ≡ LimitStatus → passed_of counts refusal
      → HasCauses lacks IsEndOfHeights counts refusal
  limit_causes is many = record {
    understood = λ e. let f = sym is ∙ e in cc;
    read = λ e. let f = sym is ∙ e in cc;
    tin_long = λ e. subst (λ (r : Refusal). passed_of counts r) e many;
    layers_long = λ e. subst (λ (r : Refusal). passed_of counts r) e many;
    written_long = λ e. absurd (subst (λ (r : Refusal). passed_of counts r) e many);
    cert_long = λ e. absurd (subst (λ (r : Refusal). passed_of counts r) e many);
    may_end = subst IsEndOfHeights (sym is) tt;
  }

  -- of the other statuses
  other_causes : (status : Status) → status_of refusal ≡ status → status ≢ WordsStatus → status ≢ ReadStatus
      → status ≢ LimitStatus → IsEndOfHeights status
      → HasCauses lacks IsEndOfHeights counts refusal
  other_causes status is words read limit may_end = record {
    understood = λ e. words (sym is ∙ e);
    read = λ e. absurd (read (sym is ∙ e));
    tin_long = λ e. absurd (limit (sym is ∙ ap status_of e));
    layers_long = λ e. absurd (limit (sym is ∙ ap status_of e));
    written_long = λ e. absurd (limit (sym is ∙ ap status_of e));
    cert_long = λ e. absurd (limit (sym is ∙ ap status_of e));
    may_end = subst IsEndOfHeights (sym is) may_end;
  }

  memory_causes : status_of refusal ≡ Memory → HasCauses lacks IsEndOfHeights counts refusal
  memory_causes is = other_causes Memory is (λ e. cc) (λ e. cc) (λ e. cc) tt

  unloaded_causes : (told : Option Files) (name : List ℕ) (most : ℕ) (absent long : Refusal)
      → status_of absent ≡ ReadStatus → status_of long ≡ LimitStatus → (LacksName told name → lacks)
      → IsUnloaded told name most absent long (HasFailed counts) (passed_of counts long) refusal
      → HasCauses lacks IsEndOfHeights counts refusal
  unloaded_causes told name most absent long reads limits wants (missing is none) =
      read_causes (ap status_of is ∙ reads) (inr (wants none))
  unloaded_causes told name most absent long reads limits wants (read_failed is rises) =
      read_causes (ap status_of is ∙ reads) (inl rises)
  unloaded_causes told name most absent long reads limits wants (too_long is over many) =
      limit_causes (ap status_of is ∙ limits) (subst (λ (r : Refusal). passed_of counts r) (sym is) many)
  unloaded_causes told name most absent long reads limits wants (no_memory is) = memory_causes (ap status_of is)

-- of the list's file, where that many bytes here are enough
pub list_causes : (told : Option Files) (heights : HeightJob) (counts : ShelfCounts) (passed_here : Type 0)
    (refusal : Refusal) → (passed_here → HasGivenMore MOST_BYTES counts)
    → IsUnloaded told heights.points MOST_BYTES (LayerUnread 0) LayersLong (HasFailed counts) passed_here refusal
    → HasCauses (LacksListed heights told) IsEndOfHeights counts refusal
list_causes told heights counts passed_here refusal more (missing is none) =
    read_causes (LacksListed heights told) counts refusal (ap status_of is) (inr (inr none))
list_causes told heights counts passed_here refusal more (read_failed is rises) =
    read_causes (LacksListed heights told) counts refusal (ap status_of is) (inl rises)
list_causes told heights counts passed_here refusal more (too_long is over many) =
    limit_causes (LacksListed heights told) counts refusal (ap status_of is)
    (subst (λ (r : Refusal). passed_of counts r) (sym is) (more many))
list_causes told heights counts passed_here refusal more (no_memory is) =
    memory_causes (LacksListed heights told) counts refusal (ap status_of is)

-- of the triangulation
tin_end : (status : Status) → IsOfTin status → IsEndOfHeights status
tin_end status (refused_tin is) = rw is tt
tin_end status (limited_tin is) = rw is tt
tin_end status (tin_without_room is) = rw is tt

text_causes : (lacks : Type 0) (counts : ShelfCounts) (how : How) (text : List ℕ) (refusal : Refusal)
    → IsTallTextRefused how text refusal → HasCauses lacks IsEndOfHeights counts refusal
text_causes lacks counts how text (Tin fault) why = fault_causes lacks IsEndOfHeights counts tin_end fault
text_causes lacks counts how text (Check fault) why = check_causes lacks IsEndOfHeights counts tin_end fault
text_causes lacks counts how text NoMemory why = memory_causes lacks counts NoMemory refl
text_causes lacks counts how text refusal why = absurd why

pub tall_causes : (told : Option Files) (heights : HeightJob) (counts : ShelfCounts) (refusal : Refusal)
    → IsTallUnready told heights.how heights.tin (HasFailed counts) (HasGivenMore MOST_BYTES counts) refusal
    → HasCauses (LacksListed heights told) IsEndOfHeights counts refusal
tall_causes told heights counts refusal (not_loaded is) =
    unloaded_causes (LacksListed heights told) counts refusal told heights.tin MOST_BYTES TinUnread
    TinLong refl refl (λ none. inl none) is
tall_causes told heights counts refusal (no_tall text file why) =
    text_causes (LacksListed heights told) counts heights.how text refusal why

-- of the points
layer_causes : (lacks : Type 0) (counts : ShelfCounts) (layer : ℕ) (fault : LayerFault)
    → HasCauses lacks IsEndOfHeights counts (Layer layer fault)
layer_causes lacks counts layer fault =
    elim (of_layer fault) [
      | unread_layer is ↦ other_causes lacks counts (Layer layer fault) LayerStatus is (λ e. cc) (λ e. cc)
          (λ e. cc) tt
      | layer_without_room is ↦ memory_causes lacks counts (Layer layer fault) is
    ]

pub unmoved_causes : (how : How) (tall : Tall) (bytes : List ℕ) (lacks : Type 0) (counts : ShelfCounts)
    (refusal : Refusal) → IsUnmoved how tall bytes refusal
    → HasCauses lacks IsEndOfHeights counts refusal
unmoved_causes how tall bytes lacks counts (Layer layer fault) why =
    layer_causes lacks counts layer fault
unmoved_causes how tall bytes lacks counts (Outside layer path segment) why =
    other_causes lacks counts (Outside layer path segment) OutsideStatus refl (λ e. cc) (λ e. cc) (λ e. cc)
    tt
unmoved_causes how tall bytes lacks counts NoMemory why =
    memory_causes lacks counts NoMemory refl
unmoved_causes how tall bytes lacks counts refusal why = absurd why

-- ---- what refuses it
-- its triangulation
of_tall : (told : Option Files) (heights : HeightJob) (refusal : Refusal)
    → IsTallRefusedOver told heights.how heights.tin refusal → IsHeightsRefusedOver told heights refusal
of_tall told heights TinUnread why = why
of_tall told heights TinLong why = why
of_tall told heights (Tin fault) why = why
of_tall told heights (Check fault) why = why
of_tall told heights refusal why = absurd why

pub tall_refused : (told : Option Files) (heights : HeightJob) (rose passed : Type 0) (refusal : Refusal)
    → IsTallUnready told heights.how heights.tin rose passed refusal
    → MayRefuseHeightsOver told heights rose refusal
tall_refused told heights rose passed refusal why =
    elim (unready told heights.how heights.tin rose passed refusal why) [
      | without_file is ↦ by_the_files (of_tall told heights refusal is)
      | without_read rises is ↦ unread rises (rw is tt)
      | without_room is ↦ no_room is
    ]

-- the list's file
pub list_refused : (told : Option Files) (heights : HeightJob) (tall : Tall) (rose passed : Type 0) (refusal : Refusal)
    → HasTallOver told heights.how heights.tin tall
    → IsUnloaded told heights.points MOST_BYTES (LayerUnread 0) LayersLong rose passed refusal
    → MayRefuseHeightsOver told heights rose refusal
list_refused told heights tall rose passed refusal has (missing is lacks) =
    subst (λ (r : Refusal). MayRefuseHeightsOver told heights rose r) (sym is) (by_the_files (refl, (tall, has), lacks))
list_refused told heights tall rose passed refusal has (read_failed is rises) =
    unread rises (subst (λ (r : Refusal). IsListReachedByOver told heights r) (sym is) (refl, (tall, has)))
list_refused told heights tall rose passed refusal has (too_long is over given) =
    subst (λ (r : Refusal). MayRefuseHeightsOver told heights rose r) (sym is) (by_the_files ((tall, has), over))
list_refused told heights tall rose passed refusal has (no_memory is) = no_room (ap status_of is)

-- its points
pub unmoved_refused : (told : Option Files) (heights : HeightJob) (tall : Tall) (bytes : List ℕ) (rose : Type 0)
    (refusal : Refusal) → HasTallOver told heights.how heights.tin tall → HasFileOver told heights.points bytes
    → IsUnmoved heights.how tall bytes refusal → MayRefuseHeightsOver told heights rose refusal
unmoved_refused told heights tall bytes rose (Layer layer fault) has found why =
    by_the_files
    (record { tall = tall; bytes = bytes; at_hand = record { tall_is = has; bytes_are = found }; cause = why })
unmoved_refused told heights tall bytes rose (Outside layer path segment) has found why =
    by_the_files
    (record { tall = tall; bytes = bytes; at_hand = record { tall_is = has; bytes_are = found }; cause = why })
unmoved_refused told heights tall bytes rose NoMemory has found why = no_room refl
unmoved_refused told heights tall bytes rose refusal has found why = absurd why

-- ---- what is written
pub all_moved : (told : Option Files) (heights : HeightJob) (tall : Tall) (bytes text : List ℕ) (count inexact : ℕ)
    (output : RunOutput) → HasTallOver told heights.how heights.tin tall → HasFileOver told heights.points bytes
    → IsMoved heights.how tall bytes text count inexact → end_of output.changed ≡ Same
    → files_of output ≡ moved_files heights tall.tin text count inexact
    → IfSome told (λ files. AreMoved files heights (end_of output.changed) (files_of output))
all_moved None heights tall bytes text count inexact output has found is same made = tt
all_moved (Some files) heights tall bytes text count inexact output has found is same made =
    record {
      tall = tall;
      bytes = bytes;
      text = text;
      count = count;
      inexact = inexact;
      at_hand = record { tall_is = has; bytes_are = found };
      moved = is;
      status_is = same;
      made_is = made;
    }

-- an output of one file and a line
pub output_files : (heights : HeightJob) (tin : Triangulation) (output : RunOutput) (file : LayerFile) (count inexact : ℕ)
    → output.layers.items ≡ file ∷ [] → string_bytes file.name ≡ name_in heights.out heights.points
    → output.said ≡ heights_text (length tin.corners) (length tin.triangles) count (tin.inexact + inexact)
    → files_of output ≡ moved_files heights tin file.text count inexact
output_files heights tin output file count inexact one name said =
    ap₂ (λ (layers : List LayerFile) (words : List ℕ). map file_of layers ++ (codes "-", words) ∷ []) one said
    ∙ ap (λ (n : List ℕ). (n, file.text) ∷ (
      codes "-",
      heights_text (length tin.corners) (length tin.triangles) count
          (tin.inexact + inexact),
    ) ∷ []) name

slash_in : (folder layer : List ℕ) → HasSlash (name_in folder layer)
slash_in folder layer = Contains-append_left (folder ++ codes "/") (part_behind_slashes layer) 47
    (Contains-append_right folder (codes "/") 47 (0, lit< tt, refl))

pub output_form : (heights : HeightJob) (tin : Triangulation) (output : RunOutput) (file : LayerFile) (count inexact : ℕ)
    → output.layers.items ≡ file ∷ [] → string_bytes file.name ≡ name_in heights.out heights.points
    → output.said ≡ heights_text (length tin.corners) (length tin.triangles) count (tin.inexact + inexact)
    → end_of output.changed ≡ Same → HasForm (IsHeightsWritten heights) output
output_form heights tin output file count inexact one name said same =
    record {
      writable = subst (λ (fs : List LayerFile). AreWritable (map file_of fs)) (sym one)
          (subst HasSlash (sym name) (slash_in heights.out heights.points), tt, tt);
      is_of = record {
        text = file.text;
        layers_are = ap (λ (fs : List LayerFile). map file_of fs) one ∙ ap (λ (n : List ℕ). (n, file.text) ∷ []) name;
        said_is = (length tin.corners, length tin.triangles, count, tin.inexact + inexact, said);
        status_is = same;
      };
    }
