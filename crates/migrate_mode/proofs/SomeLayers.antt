-- The layers of a run are carried, or one of them is the first that is refused.
use Rattle.std.proofs.Common.{◌≡◌, ◌⊎◌, inl, inr, ℕ, ◌+◌, ◌<◌, ◌≤◌, ◌^◌, true, List, [], ◌∷◌, ◌++◌, Option, Some}
use Rattle.std.proofs.Common.{None, drop, length, refl, sym, subst, arith, append-nil, append_assoc}
use Rattle.std.specs.Prelude.{is_some}
use Rattle.std.specs.List.{AllByRecursion}
use Rattle.std.proofs.lemmas.Bool.{cases_lt}
use Rattle.shelf_io.specs.Files.{Files, bytes_of}
use Rattle.sheet_base.specs.declared.flags.How.{How}
use Rattle.sheet_base.specs.Outcomes.{HasOutcome}
use Rattle.tin_base.specs.declared.pieces.Piece.{Piece}
use Rattle.tin_base.specs.Triangulation.{Triangulation}
use Rattle.tin_base.specs.Limits.{IsWithinLimits}
use Rattle.tin_base.specs.Soundness.{IsSound}
use Rattle.carry_map.specs.declared.limits.TheConstants.{MOST_PIECES}
use Rattle.carry_map.specs.LayerEnds.{HasLayer, LacksLayer, LayerEndExists}
use Rattle.job_words.specs.declared.formats.Format.{Format}
use Rattle.job_words.specs.declared.formats.Format.TheVariants.{Wkt, GeoJson, Drawing}
use Rattle.job_words.specs.Formats.{format_by_name}
use Rattle.job_words.specs.JobFields.{HasFormat}
use Rattle.runs.specs.declared.loads.TheConstants.{MOST_BYTES}
use Rattle.runs.specs.declared.refusal.Refusal.{Refusal}
use Rattle.runs.specs.declared.refusal.Refusal.TheVariants.{LayerUnread, LayersLong, Layer, Outside, TooManyPieces}
use Rattle.layer_formats.specs.LayerTexts.{reads_of, text_of, reads_back_of}
use Rattle.layer_formats.specs.LayerOutcomes.{IsLayerText, LacksLayerText, LayerOutcomesExist}
use Rattle.migrate_mode.specs.LayerRuns.{setting_of, Done, IsLayerFile, IsNextCarried, AreCarried, IsNextRefused}
use Rattle.migrate_mode.specs.LayerRuns.{IsRefusedLayer}
use Rattle.migrate_mode.proofs.LayerLists.{one_more}

-- what is read in each format is carried, or not
abbrev pub LayerEndsExist : Type 0
LayerEndsExist = (format : Format) → LayerEndExists (reads_of format) (text_of format) (reads_back_of format)

pub ends_exist : LayerEndExists (reads_of Wkt) (text_of Wkt) (reads_back_of Wkt)
    → LayerEndExists (reads_of GeoJson) (text_of GeoJson) (reads_back_of GeoJson)
    → LayerEndExists (reads_of Drawing) (text_of Drawing) (reads_back_of Drawing) → LayerEndsExist
ends_exist wkt geojson drawings Wkt = wkt
ends_exist wkt geojson drawings GeoJson = geojson
ends_exist wkt geojson drawings Drawing = drawings

module _ (texts : LayerOutcomesExist) (ends : LayerEndsExist) (files : Files) (how : How) (tin : Triangulation)
    (sound : IsSound tin) (limits : IsWithinLimits tin) where
  -- ---- one layer
  record IsMore (number used : ℕ) (before : List Piece) (name : List ℕ) : Type 0 where
    bytes : List ℕ
    after : List Piece
    done : Done
    next : IsNextCarried (setting_of (Some files) how tin) number used before name bytes after done
    few : length after ≤ MOST_PIECES

  abbrev IsRefused : ℕ → ℕ → List Piece → List ℕ → Type 0
  IsRefused number used before name = (refusal : Refusal)
      × IsNextRefused (setting_of (Some files) how tin) number used (length before) name refusal

  small : (used n : ℕ) → used + n ≤ MOST_BYTES → n ≤ 2 ^ 26
  small used n within = omega (arith, within)

  file_end : (number used : ℕ) (before : List Piece) (name : List ℕ) (format : Format) (bytes : List ℕ)
      → length before ≤ MOST_PIECES → IsLayerFile (Some files) name used format bytes
      → IsMore number used before name ⊎ IsRefused number used before name
  file_end number used before name format bytes room file = by_outcome (texts how format bytes)
    where
      by_end : HasLayer (reads_of format how) (text_of format bytes how) (reads_back_of format how bytes) tin bytes
          number
          MOST_PIECES before ⊎ LacksLayer (reads_of format how bytes) tin number (length before) MOST_PIECES
          → IsMore number used before name ⊎ IsRefused number used before name
      by_end (inl has) = inl (record {
        bytes = bytes;
        after = has.after;
        done = record {
          name = name;
          format = format;
          carried = has.carried;
          pieces = drop (length before) has.after;
        };
        next = record {
          named = refl;
          file = file;
          carried = record { layer = has.is_carried; few = has.few; back = has.back };
          own = refl;
        };
        few = has.few;
      })
      by_end (inr (inl (path, segment, outside))) =
          inr (Outside number path segment, (refl, format, bytes, file, outside))
      by_end (inr (inr many)) = inr (TooManyPieces, (format, bytes, file, many))

      by_outcome : HasOutcome (IsLayerText how format bytes) (LacksLayerText how format bytes)
          → IsMore number used before name ⊎ IsRefused number used before name
      by_outcome (inl (sheet, read)) =
          let within = file.within in
          by_end (ends format tin sound limits how bytes (small used (length bytes) within) sheet read number
          MOST_PIECES before room (omega arith))
      by_outcome (inr (fault, lacks)) = inr (Layer number fault, (refl, format, bytes, file, lacks))

  next_end : (number used : ℕ) (before : List Piece) (name : List ℕ) → HasFormat name → length before ≤ MOST_PIECES
      → IsMore number used before name ⊎ IsRefused number used before name
  next_end number used before name has room = by_format (format_by_name name) refl has
    where
      by_room : (format : Format) (bytes : List ℕ) → format_by_name name ≡ Some format
          → bytes_of files name ≡ Some bytes
          → (MOST_BYTES < used + length bytes) ⊎ (used + length bytes ≤ MOST_BYTES)
          → IsMore number used before name ⊎ IsRefused number used before name
      by_room format bytes suffix found (inl many) = inr (LayersLong, (bytes, found, many))
      by_room format bytes suffix found (inr within) =
          file_end number used before name format bytes room
          (record { suffix = suffix; found = found; within = within })

      by_bytes : (format : Format) → format_by_name name ≡ Some format → (found : Option (List ℕ))
          → bytes_of files name ≡ found → IsMore number used before name ⊎ IsRefused number used before name
      by_bytes format suffix None none = inr (LayerUnread number, (refl, none))
      by_bytes format suffix (Some bytes) found =
          by_room format bytes suffix found (cases_lt MOST_BYTES (used + length bytes))

      by_format : (format : Option Format) → format_by_name name ≡ format → is_some format ≡ true
          → IsMore number used before name ⊎ IsRefused number used before name
      by_format None suffix is = absurd (cc)
      by_format (Some format) suffix is = by_bytes format suffix (bytes_of files name) refl

  -- ---- one after the other
  pub record AreMore (names : List (List ℕ)) : Type 0 where
    pub pieces : List Piece
    pub done : List Done
    pub used : ℕ
    pub carried : AreCarried (setting_of (Some files) how tin) 0 0 [] names pieces done used
    pub few : length pieces ≤ MOST_PIECES

  -- these layers are carried, or the first of them that is not has a refusal
  abbrev pub HaveEnd : List (List ℕ) → Type 0
  HaveEnd names = AreMore names
      ⊎ ((refusal : Refusal) × IsRefusedLayer (setting_of (Some files) how tin) names refusal)

  layers_from : (front rest : List (List ℕ)) → AllByRecursion HasFormat rest → AreMore front → HaveEnd (front ++ rest)
  layers_from front [] formats so_far = inl (subst AreMore (sym (append-nil front)) so_far)
  layers_from front (name ∷ rest) formats so_far =
      by (λ more. layers_from (front ++ name ∷ []) rest formats.1 more)
      (next_end (length front) so_far.used so_far.pieces name formats.0 so_far.few)
    where
      by : (AreMore (front ++ name ∷ []) → HaveEnd ((front ++ name ∷ []) ++ rest))
          → IsMore (length front) so_far.used so_far.pieces name
          ⊎ IsRefused (length front) so_far.used so_far.pieces name → HaveEnd (front ++ name ∷ rest)
      by onward (inl more) =
          subst HaveEnd (append_assoc front (name ∷ []) rest) (onward (record {
            pieces = more.after;
            done = so_far.done ++ more.done ∷ [];
            used = so_far.used + length more.bytes;
            carried = one_more (setting_of (Some files) how tin) 0 0 [] front so_far.pieces so_far.done so_far.used name
                more.bytes more.after more.done (length front) (so_far.done ++ more.done ∷ [])
                (so_far.used + length more.bytes) so_far.carried (omega arith) more.next refl refl;
            few = more.few;
          }))
      by onward (inr (refusal, is)) = inr (
        refusal,
        record {
          number = length front;
          name = name;
          reached = record {
            front = front;
            back = rest;
            stands = refl;
            number_is = refl;
            pieces = so_far.pieces;
            done = so_far.done;
            used = so_far.used;
            carried = so_far.carried;
          };
          refused = is;
        },
      )

  -- all layers, whose names have formats
  pub layers_end : (names : List (List ℕ)) → AllByRecursion HasFormat names → HaveEnd names
  layers_end names formats = layers_from [] names formats (record {
    pieces = [];
    done = [];
    used = 0;
    carried = (refl, refl, refl);
    few = omega arith;
  })
