-- Bytes with their edits' texts, put together from front to back.
use Rattle.std.proofs.Common.{◌≡◌, ℕ, suc, ◌+◌, ◌-◌, ◌≤◌, List, [], ◌∷◌, ◌++◌, length, take, drop, append-nil, refl}
use Rattle.std.proofs.Common.{sym, ap, ◌∙◌, subst, append_assoc, arith, length-append}
use Rattle.sheet_base.specs.declared.edits.Edit.{Edit}
use Rattle.sheet_base.specs.Splices.{AreInOrder, spliced_from}
use Rattle.sheet_base.proofs.ListParts.{drop_twice, drop_front}

-- the bytes that begin at this place, with the texts of edits in place of their spans
abbrev pub spliced_on : (Edit → List ℕ) → ℕ → List ℕ → List Edit → List ℕ
spliced_on text at bytes [] = bytes
spliced_on text at bytes (edit ∷ edits) = take (edit.start - at) bytes
    ++ (text edit ++ spliced_on text edit.end (drop (edit.end - at) bytes) edits)

-- the first edit's span begins at this place or after it
abbrev pub BeginFrom : ℕ → List Edit → Type 0
BeginFrom at [] = Unit {0}
BeginFrom at (edit ∷ edits) = (at ≤ edit.start) × (at ≤ edit.end)

pub on_from : (bytes : List ℕ) (text : Edit → List ℕ) (from : ℕ) (edits : List Edit) (past : ℕ)
    → AreInOrder from edits past → spliced_from bytes text from edits ≡ spliced_on text from (drop from bytes) edits
on_from bytes text from [] past order = refl
on_from bytes text from (edit ∷ edits) past order =
    let e : from + (edit.end - from) ≡ edit.end = omega (arith, order.0, order.1) in
    let same : drop (edit.end - from) (drop from bytes) ≡ drop edit.end bytes = drop_twice from (edit.end - from) bytes
    ∙ ap (λ n. drop n bytes) e in
    ap (λ rest. take (edit.start - from) (drop from bytes) ++ (text edit ++ rest))
    (on_from bytes text edit.end edits past order.2 ∙ ap (λ rest. spliced_on text edit.end rest edits) (sym same))

-- These bytes, which begin at this place, become others where the edits' texts take the place of their spans, whatever
-- comes after.
pub record Swapped (text : Edit → List ℕ) (at : ℕ) (taken : List ℕ) (edits : List Edit) (now : List ℕ) : Type 0 where
  pub splice : (behind : List ℕ) (later : List Edit) → BeginFrom (at + length taken) later
      → spliced_on text at (taken ++ behind) (edits ++ later) ≡ now ++ spliced_on text (at + length taken) behind later
  pub begin : (later : List Edit) → BeginFrom (at + length taken) later → BeginFrom at (edits ++ later)

take_past : (xs ys : List ℕ) (n : ℕ) → take (length xs + n) (xs ++ ys) ≡ xs ++ take n ys
take_past [] ys n = let e : 0 + n ≡ n = omega arith in ap (λ k. take k ys) e
take_past (x ∷ xs) ys n = let e : suc (length xs) + n ≡ suc (length xs + n) =
    omega arith in ap (λ k. take k (x ∷ (xs ++ ys))) e ∙ ap (λ zs. x ∷ zs) (take_past xs ys n)

drop_past : (xs ys : List ℕ) (n : ℕ) → drop (length xs + n) (xs ++ ys) ≡ drop n ys
drop_past [] ys n = let e : 0 + n ≡ n = omega arith in ap (λ k. drop k ys) e
drop_past (x ∷ xs) ys n = let e : suc (length xs) + n ≡ suc (length xs + n) =
    omega arith in ap (λ k. drop k (x ∷ (xs ++ ys))) e ∙ drop_past xs ys n

-- bytes that no edit touches
pub kept_swapped : (text : Edit → List ℕ) (at : ℕ) (taken : List ℕ) → Swapped text at taken [] taken
kept_swapped text at taken = record { splice = splice; begin = begin }
  where
    splice : (behind : List ℕ) (later : List Edit) → BeginFrom (at + length taken) later
        → spliced_on text at (taken ++ behind) later ≡ taken ++ spliced_on text (at + length taken) behind later
    splice behind [] le = refl
    splice behind (edit ∷ edits) le =
        let start : edit.start - at ≡ length taken + (edit.start - (at + length taken)) = omega (arith, le.0) in
        let end : edit.end - at ≡ length taken + (edit.end - (at + length taken)) = omega (arith, le.1) in
        let front = ap (λ n. take n (taken ++ behind)) start
        ∙ take_past taken behind (edit.start - (at + length taken)) in
        let rest = ap (λ n. drop n (taken ++ behind)) end ∙ drop_past taken behind (edit.end - (at + length taken)) in
        ap (λ xs. xs ++ (text edit ++ spliced_on text edit.end (drop (edit.end - at) (taken ++ behind)) edits)) front
        ∙ ap (λ xs. (taken ++ take (edit.start - (at + length taken)) behind)
        ++ (text edit ++ spliced_on text edit.end xs edits)) rest
        ∙ append_assoc taken (take (edit.start - (at + length taken)) behind)
        (text edit ++ spliced_on text edit.end (drop (edit.end - (at + length taken)) behind) edits)

    begin : (later : List Edit) → BeginFrom (at + length taken) later → BeginFrom at later
    begin [] le = tt
    begin (edit ∷ edits) le = (omega (arith, le.0), omega (arith, le.1))

-- the span of an edit
pub edit_swapped : (text : Edit → List ℕ) (at : ℕ) (taken : List ℕ) (edit : Edit) → edit.start ≡ at
    → edit.end ≡ at + length taken → Swapped text at taken (edit ∷ []) (text edit)
edit_swapped text at taken edit start end = record {
  splice = λ behind later le.
      let s : edit.start - at ≡ 0 = omega (arith, start) in
      let e : edit.end - at ≡ length taken = omega (arith, end) in
      ap (λ n. take n (taken ++ behind) ++ (text edit
      ++ spliced_on text edit.end (drop (edit.end - at) (taken ++ behind)) later)) s
      ∙ ap (λ xs. text edit ++ spliced_on text edit.end xs later)
      (ap (λ n. drop n (taken ++ behind)) e ∙ drop_front taken behind)
      ∙ ap (λ n. text edit ++ spliced_on text n behind later) end;
  begin = λ later le. (omega (arith, start), omega (arith, end));
}

-- one after the other
pub both_swapped : (text : Edit → List ℕ) (at : ℕ) (front back : List ℕ) (edits more : List Edit) (now then : List ℕ)
    → Swapped text at front edits now → Swapped text (at + length front) back more then
    → Swapped text at (front ++ back) (edits ++ more) (now ++ then)
both_swapped text at front back edits more now then first second =
    let size : at + length (front ++ back) ≡ at + length front + length back = let e =
    length-append front back in omega (arith, e) in
    record {
      splice = λ behind later le.
          let within = subst (λ n. BeginFrom n later) size le in
          ap (λ bytes. spliced_on text at bytes ((edits ++ more) ++ later)) (append_assoc front back behind)
          ∙ ap (spliced_on text at (front ++ (back ++ behind))) (append_assoc edits more later)
          ∙ first.splice (back ++ behind) (more ++ later) (second.begin later within)
          ∙ ap (λ bytes. now ++ bytes) (second.splice behind later within)
          ∙ ap (λ n. now ++ (then ++ spliced_on text n behind later)) (sym size)
          ∙ sym (append_assoc now then (spliced_on text (at + length (front ++ back)) behind later));
      begin = λ later le.
          subst (BeginFrom at) (sym (append_assoc edits more later))
          (first.begin (more ++ later) (second.begin later (subst (λ n. BeginFrom n later) size le)));
    }

-- bytes that no edit touches in front of others, and after them
pub front_swapped : (text : Edit → List ℕ) (at place : ℕ) (front back : List ℕ) (edits : List Edit) (now : List ℕ)
    → place ≡ at + length front → Swapped text place back edits now
    → Swapped text at (front ++ back) edits (front ++ now)
front_swapped text at place front back edits now is swap =
    both_swapped text at front back [] edits front now (kept_swapped text at front)
    (subst (λ n. Swapped text n back edits now) is swap)

pub behind_swapped : (text : Edit → List ℕ) (at : ℕ) (front back : List ℕ) (edits : List Edit) (now : List ℕ)
    → Swapped text at front edits now → Swapped text at (front ++ back) edits (now ++ back)
behind_swapped text at front back edits now swap =
    subst (λ es. Swapped text at (front ++ back) es (now ++ back)) (append-nil edits)
    (both_swapped text at front back edits [] now back swap (kept_swapped text (at + length front) back))

-- all bytes
pub swapped_all : (text : Edit → List ℕ) (at : ℕ) (taken : List ℕ) (edits : List Edit) (now : List ℕ)
    → Swapped text at taken edits now → spliced_on text at taken edits ≡ now
swapped_all text at taken edits now swap =
    let e = swap.splice [] [] tt in
    ap (λ xs. spliced_on text at xs edits) (sym (append-nil taken))
    ∙ ap (spliced_on text at (taken ++ [])) (sym (append-nil edits)) ∙ e ∙ append-nil now
