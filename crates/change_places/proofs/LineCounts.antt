-- The lines of edits in order.
use Rattle.std.proofs.Common.{◌≡◌, ℕ, ◌+◌, ◌-◌, ◌<◌, ◌≤◌, ◌==◌, Bool, List, [], ◌∷◌, ◌++◌, map, length, take, drop}
use Rattle.std.proofs.Common.{get_or, sym, ◌∙◌, ap, subst, arith}
use Rattle.std.specs.Prelude.{count_by}
use Rattle.std.proofs.Math.Seq.{take-add}
use Rattle.std.proofs.lemmas.List.{take_more, drop_more, map-append}
use Rattle.std.proofs.lemmas.List.Sums.{sum_by-append}
use Rattle.sheet_base.specs.declared.edits.Edit.{Edit}
use Rattle.sheet_base.specs.Splices.{AreInOrder}
use Rattle.change_places.specs.PathPlaces.{line_of, edit_in_lines}
use Rattle.change_places.proofs.Elements.{element}
use Rattle.sheet_base.proofs.SpliceLaws.{by_the_end, order_earlier}

-- the first of the edits that are left
pub record IsNextInOrder (at start : ℕ) (edits : List Edit) (next past : ℕ) : Type 0 where
  pub from : at ≤ start
  pub within : start ≤ past
  pub rest : AreInOrder start (drop next edits) past

next_in_order : (at : ℕ) (edits : List Edit) (i : ℕ) (edit : Edit) (past : ℕ) → i < length edits
    → edit ≡ get_or edits i edit → AreInOrder at (drop i edits) past → IsNextInOrder at edit.start edits (i + 1) past
next_in_order at edits i edit past within is are =
    let (first, second, rest) = subst (λ (es : List Edit). AreInOrder at es past)
    (drop_more edits i edit within ∙ ap (λ (e : Edit). e ∷ drop (i + 1) edits) (sym is)) are in
    let later = by_the_end edit.end (drop (i + 1) edits) past rest in
    record {
      from = first;
      within = omega (arith, second, later);
      rest =
          order_earlier edit.start edit.end (drop (i + 1) edits) past second rest;
    }

count_join : (p : ℕ → Bool) (xs ys : List ℕ) → count_by p (xs ++ ys) ≡ count_by p xs + count_by p ys
count_join p xs ys = sum_by-append _ xs ys

count_more : (p : ℕ → Bool) (bytes : List ℕ) (at start : ℕ) → at ≤ start
    → count_by p (take at bytes) + count_by p (take (start - at) (drop at bytes)) ≡ count_by p (take start bytes)
count_more p bytes at start small =
    let whole : at + (start - at) ≡ start = omega (arith, small) in
    sym (count_join p (take at bytes) (take (start - at) (drop at bytes)))
    ∙ ap (count_by p) (sym (take-add at (start - at) bytes)) ∙ ap (λ n. count_by p (take n bytes)) whole

pub line_more : (bytes : List ℕ) (at start line more : ℕ) → at ≤ start → line ≡ line_of bytes at
    → more ≡ count_by (λ byte. byte == 10) (take (start - at) (drop at bytes)) → line + more ≡ line_of bytes start
line_more bytes at start line more small is are = let both =
    count_more (λ byte. byte == 10) bytes at start small in omega (arith, is, are, both)

printed_more : (bytes : List ℕ) (edits : List Edit) (i : ℕ) (edit : Edit) (line : ℕ) (before now : List Edit)
    → i < length edits → edit ≡ get_or edits i edit → line ≡ line_of bytes edit.start
    → before ≡ map (edit_in_lines bytes) (take i edits)
    → now ≡ before ++ (record { start = line; end = edit.end; what = edit.what }) ∷ []
    → now ≡ map (edit_in_lines bytes) (take (i + 1) edits)
printed_more bytes edits i edit line before now within is of start next =
    let longer : take (i + 1) edits ≡ take i edits ++ edit ∷ [] = take_more edits i edit within
    ∙ ap (λ (e : Edit). take i edits ++ e ∷ []) (sym is) in
    next ∙ ap (λ (es : List Edit). es ++ (record { start = line; end = edit.end; what = edit.what }) ∷ []) start
    ∙ ap (λ (n : ℕ). map (edit_in_lines bytes) (take i edits)
    ++ (record { start = n; end = edit.end; what = edit.what }) ∷ []) of
    ∙ sym (map-append (edit_in_lines bytes) (take i edits) (edit ∷ [])) ∙ ap (map (edit_in_lines bytes)) (sym longer)

-- the edit at a place is the next in order, and one more of those in lines
pub next_at : (at : ℕ) (edits : List Edit) (i past : ℕ) (d : Edit) → i < length edits
    → AreInOrder at (drop i edits) past → IsNextInOrder at (get_or edits i d).start edits (i + 1) past
next_at at edits i past d within are = next_in_order at edits i (get_or edits i d) past within
    (element edits i d within) are

pub printed_at : (bytes : List ℕ) (edits : List Edit) (i : ℕ) (d : Edit) (line : ℕ) (before now : List Edit)
    → i < length edits → line ≡ line_of bytes (get_or edits i d).start
    → before ≡ map (edit_in_lines bytes) (take i edits)
    → now ≡ before ++ (record { start = line; end = (get_or edits i d).end; what = (get_or edits i d).what }) ∷ []
    → now ≡ map (edit_in_lines bytes) (take (i + 1) edits)
printed_at bytes edits i d line before now within of start next =
    printed_more bytes edits i (get_or edits i d) line before now within (element edits i d within) of start next
