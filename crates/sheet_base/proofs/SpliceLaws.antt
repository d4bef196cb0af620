-- Laws of spliced bytes.
use Rattle.std.proofs.Common.{◌≡◌, refl, subst, ℕ, ◌+◌, ◌≤◌, ◌<◌, List, [], ◌∷◌, ◌++◌, drop, length, slice_index_or}
use Rattle.std.proofs.Common.{arith}
use Rattle.std.specs.Prelude.{Result, Ok, Err, IfOk}
use Rattle.std.proofs.lemmas.List.{drop_more, append_assoc}
use Rattle.sheet_base.specs.declared.edits.Edit.{Edit}
use Rattle.sheet_base.specs.declared.edits.What.TheVariants.{WktList}
use Rattle.sheet_base.specs.Splices.{AreInOrder, between, splice_of, spliced_from, DoKeep, SplicesKeep}

kept_from : (bytes : List ℕ) (text : Edit → List ℕ) (from : ℕ) (edits : List Edit)
    → DoKeep bytes from edits (spliced_from bytes text from edits)
kept_from bytes text from [] = refl
kept_from bytes text from (edit ∷ edits) =
    (text edit, spliced_from bytes text edit.end edits, refl, kept_from bytes text edit.end edits)

pub splices_keep : SplicesKeep
splices_keep bytes text edits = kept_from bytes text 0 edits

-- what was written, with what the edits that are left make of the rest, is all
pub record IsSpliced (bytes : List ℕ) (text : Edit → List ℕ) (edits left : List Edit) (from : ℕ) (out : List ℕ) : Type 0
  where
    pub order : AreInOrder from left (length bytes)
    pub all : out ++ spliced_from bytes text from left ≡ splice_of bytes text edits

-- edits in order end by the last place
pub by_the_end : (from : ℕ) (edits : List Edit) (past : ℕ) → AreInOrder from edits past → from ≤ past
by_the_end from [] past order = order
by_the_end from (edit ∷ edits) past order = omega (arith, order.0, order.1, by_the_end edit.end edits past order.2)

-- edits in order from a place are in order from each earlier one
pub order_earlier : (before from : ℕ) (edits : List Edit) (past : ℕ) → before ≤ from → AreInOrder from edits past
    → AreInOrder before edits past
order_earlier before from [] past earlier are = omega (arith, earlier, are)
order_earlier before from (edit ∷ edits) past earlier (first, second, rest) =
    (omega (arith, earlier, first), second, rest)

-- what is at a place that is none of the list's
abbrev pub no_edit : Edit
no_edit = record { start = 0; end = 0; what = WktList 0 }

-- the next of the edits that are left
pub record IsNext (bytes : List ℕ) (edits : List Edit) (i from : ℕ) (edit : Edit) : Type 0 where
  pub begins : from ≤ edit.start
  pub ends : edit.start ≤ edit.end
  pub within : edit.end ≤ length bytes
  pub order : AreInOrder edit.end (drop (i + 1) edits) (length bytes)

pub next_edit : (bytes : List ℕ) (edits : List Edit) (i from : ℕ) → i < length edits
    → AreInOrder from (drop i edits) (length bytes) → IsNext bytes edits i from (slice_index_or edits i no_edit)
next_edit bytes edits i from more order =
    let split = subst (λ left. AreInOrder from left (length bytes)) (drop_more edits i no_edit more) order in
    record {
      begins = split.0;
      ends = split.1;
      within =
          by_the_end _ (drop (i + 1) edits) (length bytes) split.2;
      order = split.2;
    }

-- one edit more is written
pub one_more : (bytes : List ℕ) (text : Edit → List ℕ) (edits : List Edit) (i from : ℕ) (out kept : List ℕ)
    → i < length edits → IsSpliced bytes text edits (drop i edits) from out
    → kept ≡ out ++ between bytes from (slice_index_or edits i no_edit).start
    → (now : List ℕ) → now ≡ kept ++ text (slice_index_or edits i no_edit)
    → IsSpliced bytes text edits (drop (i + 1) edits) (slice_index_or edits i no_edit).end now
one_more bytes text edits i from out kept more so_far kept_is now now_is =
    let edit = slice_index_or edits i no_edit in
    let rest = spliced_from bytes text edit.end (drop (i + 1) edits) in
    let all = subst (λ left. out ++ spliced_from bytes text from left ≡ splice_of bytes text edits)
    (drop_more edits i no_edit more) so_far.all in
    record {
      order = (next_edit bytes edits i from more so_far.order).order;
      all = rw (
        now_is,
        kept_is,
        append_assoc (out ++ between bytes from edit.start) (text edit) rest,
        append_assoc out
            (between bytes from edit.start) (text edit ++ rest),
      ) all;
    }

-- what holds of a value holds of another fact's
pub if_ok_more : {X E : Type 0} (r : Result X E) (P Q : X → Type 0) → ((x : X) → P x → Q x) → IfOk r P → IfOk r Q
if_ok_more (Ok x) P Q on is = on x is
if_ok_more (Err e) P Q on is = is
