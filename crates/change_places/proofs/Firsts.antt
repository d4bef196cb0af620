-- Where the first edit of each number begins, with one edit more.
use Rattle.std.proofs.Common.{◌≡◌, ℕ, ◌+◌, ◌<◌, Bool, true, false, List, [], ◌∷◌, ◌++◌, length, take, get_or, Option}
use Rattle.std.proofs.Common.{None, Some, refl, sym, ◌∙◌, ap, subst}
use Rattle.std.specs.Prelude.{find, if◌then◌else◌}
use Rattle.std.specs.Option.{option_map, option_or}
use Rattle.std.proofs.lemmas.List.{take_more}
use Rattle.std.proofs.lemmas.List.Folds.{find-append}
use Rattle.sheet_base.specs.declared.edits.Edit.{Edit}
use Rattle.sheet_base.specs.declared.edits.What.{What}
use Rattle.sheet_base.specs.EditStarts.{is_number, first_start}
use Rattle.change_places.specs.declared.path_starts.Key.{Key}
use Rattle.change_places.specs.InsidePlaces.{number_by, AreFirsts, PutsStart}
use Rattle.change_places.proofs.Elements.{element}

start_more : (edit : Edit) (found : Option Edit) (is : Bool)
    → option_map (λ (e : Edit). e.start) (option_or found (if is then Some edit else None))
    ≡ option_or (option_map (λ (e : Edit). e.start) found) (if is then Some edit.start else None)
start_more edit (Some other) is = refl
start_more edit None true = refl
start_more edit None false = refl

first_more : (of : What → Option ℕ) (number : ℕ) (edits : List Edit) (edit : Edit)
    → first_start of number (edits ++ edit ∷ [])
    ≡ option_or (first_start of number edits) (if is_number number (of edit.what) then Some edit.start else None)
first_more of number edits edit =
    ap (option_map (λ (e : Edit). e.start)) (find-append (λ (e : Edit). is_number number (of e.what)) edits (edit ∷ []))
    ∙ start_more edit (find (λ (e : Edit). is_number number (of e.what)) edits) (is_number number (of edit.what))

firsts_more : (key : Key) (edits : List Edit) (i : ℕ) (edit : Edit) (count : ℕ) (before now : List (Option ℕ))
    → i < length edits → edit ≡ get_or edits i edit
    → AreFirsts key (take i edits) count before → PutsStart (number_by key edit.what) edit.start before now
    → AreFirsts key (take (i + 1) edits) count now
firsts_more key edits i edit count before now within is are puts =
    let longer : take (i + 1) edits ≡ take i edits ++ edit ∷ [] = take_more edits i edit within
    ∙ ap (λ (e : Edit). take i edits ++ e ∷ []) (sym is) in
    record {
      count_is = puts.count_is ∙ are.count_is;
      each = λ number few.
          puts.each number (subst (λ n. number < n) (sym are.count_is) few)
          ∙ ap (λ (o : Option ℕ). option_or o (if is_number number (number_by key edit.what) then Some edit.start else
          None)) (are.each number few)
          ∙ sym (first_more (number_by key) number (take i edits) edit)
          ∙ ap (first_start (number_by key) number) (sym longer);
    }

-- the first starts where the edit at a place is one more
pub firsts_at : (key : Key) (edits : List Edit) (i count : ℕ) (d : Edit) (named : Option ℕ)
    (before now : List (Option ℕ)) → i < length edits → AreFirsts key (take i edits) count before
    → named ≡ number_by key (get_or edits i d).what → PutsStart named (get_or edits i d).start before now
    → AreFirsts key (take (i + 1) edits) count now
firsts_at key edits i count d named before now within are is puts =
    firsts_more key edits i (get_or edits i d) count before now within (element edits i d within) are
    (subst (λ (n : Option ℕ). PutsStart n (get_or edits i d).start before now) is puts)
