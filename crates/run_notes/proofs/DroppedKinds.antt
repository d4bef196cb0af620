-- The kinds of the entities that the edits up to one leave out.
use Rattle.std.proofs.Common.{◌≡◌, ◌+◌, ◌-◌, ◌<◌, ◌^◌, ℕ, Bool, true, false, cond, List, [], ◌∷◌, ◌++◌, length, get_or}
use Rattle.std.proofs.Common.{map, take, refl, sym, ◌∙◌, ap, arith}
use Rattle.std.proofs.lemmas.List.{append-nil, length-map, length-take, map-append, take_more}
use Rattle.std.proofs.lemmas.List.Elements.{filter-append}
use Rattle.std.proofs.lemmas.List.Sums.{count_by-le-length, length-filter}
use Rattle.sheet_base.specs.declared.edits.Edit.{Edit}
use Rattle.run_notes.specs.InsideCounts.{one_more, HaveRoom}
use Rattle.run_notes.specs.LeftOutKinds.{dropped_kinds, kind_at, kinds_left_out, leaves_out, with_counts}
use Rattle.run_notes.proofs.TextCounts.{counts-below, with_counts-push}

-- the edit leaves its bytes out
abbrev drops : Edit → Bool
drops edit = leaves_out edit.what

-- the kinds with those of one more edit
dropped-more : (bytes : List ℕ) (edits : List Edit) (i : ℕ) (d : Edit) → i < length edits
    → dropped_kinds bytes (take (i + 1) edits) ≡ dropped_kinds bytes (take i edits)
    ++ cond (drops (get_or edits i d)) (kind_at bytes (get_or edits i d).start ∷ []) []
dropped-more bytes edits i d within = rw (
  take_more edits i d within,
  filter-append drops (take i edits) (get_or edits i d ∷ []),
  map-append,
) (ap (λ more. dropped_kinds bytes (take i edits) ++ more) (by-test (get_or edits i d) (drops (get_or edits i d))))
  where
    by-test : (edit : Edit) (test : Bool) → map (λ (e : Edit). kind_at bytes e.start) (cond test (edit ∷ []) [])
        ≡ cond test (kind_at bytes edit.start ∷ []) []
    by-test edit true = refl
    by-test edit false = refl

-- where the next edit leaves bytes out
pub left_out-more : (bytes : List ℕ) (edits : List Edit) (i : ℕ) (d : Edit) (kind : List ℕ)
    (before after : List (List ℕ × ℕ)) → i < length edits → true ≡ leaves_out (get_or edits i d).what
    → kind ≡ kind_at bytes (get_or edits i d).start → before ≡ kinds_left_out bytes (take i edits)
    → after ≡ one_more kind before → after ≡ kinds_left_out bytes (take (i + 1) edits)
left_out-more bytes edits i d kind before after within drops_it is so_far step =
    let behind : dropped_kinds bytes (take (i + 1) edits)
    ≡ dropped_kinds bytes (take i edits) ++ kind_at bytes (get_or edits i d).start ∷ [] =
    rw (dropped-more bytes edits i d within, ← drops_it) refl in
    let counted : kinds_left_out bytes (take (i + 1) edits)
    ≡ one_more (kind_at bytes (get_or edits i d).start) (kinds_left_out bytes (take i edits)) =
    rw behind (with_counts-push (dropped_kinds bytes (take i edits)) (kind_at bytes (get_or edits i d).start)) in
    step ∙ ap (λ k. one_more k before) is
    ∙ ap (λ b. one_more (kind_at bytes (get_or edits i d).start) b) so_far ∙ sym counted

-- where it does not
pub left_out-same : (bytes : List ℕ) (edits : List Edit) (i : ℕ) (d : Edit) (before : List (List ℕ × ℕ))
    → i < length edits → false ≡ leaves_out (get_or edits i d).what → before ≡ kinds_left_out bytes (take i edits)
    → before ≡ kinds_left_out bytes (take (i + 1) edits)
left_out-same bytes edits i d before within keeps so_far =
    let behind : dropped_kinds bytes (take (i + 1) edits) ≡ dropped_kinds bytes (take i edits) ++ [] =
    rw (dropped-more bytes edits i d within, ← keeps) refl in
    so_far ∙ ap (λ texts. with_counts texts) (sym (behind ∙ append-nil (dropped_kinds bytes (take i edits))))

-- one more entity can be counted in 64 bits
pub left_out-room : (bytes : List ℕ) (edits : List Edit) (i : ℕ) → i < 2 ^ 64 - 1
    → HaveRoom (kinds_left_out bytes (take i edits))
left_out-room bytes edits i few = counts-below (2 ^ 64 - 1) (dropped_kinds bytes (take i edits)) (rw (
  length-map,
  length-filter drops (take i edits),
) (omega (arith, count_by-le-length drops (take i edits), length-take i edits)))
