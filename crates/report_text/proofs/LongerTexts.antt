-- One more layer and one more change of a text.
use Rattle.std.proofs.Common.{◌≡◌, ℕ, ◌+◌, ◌<◌, List, [], ◌∷◌, ◌++◌, length, take, get_or, refl, sym, ◌∙◌, ap, arith}
use Rattle.std.proofs.Common.{append_assoc, append-nil, suc, length-take, subst, add-zero, codes}
use Rattle.std.proofs.lemmas.List.{take_more}
use Rattle.std.proofs.lemmas.List.Concat.{flat_map-append}
use Rattle.std.specs.List.{AllByRecursion, concat}
use Rattle.plain_laws.proofs.Lists.{all_append}
use Rattle.report_text.specs.declared.rows.LayerRow.{LayerRow}
use Rattle.report_text.specs.ReportText.{end_line, layer_line, extents_lines, layer_lines, text_of_lines}
use Rattle.report_text.specs.declared.lines.TheConstants.{LINE_FEED}

-- the text of some lines and more
pub text_of_lines-append : (front more : List (List ℕ))
    → text_of_lines (front ++ more) ≡ text_of_lines front ++ text_of_lines more
text_of_lines-append front more = flat_map-append _ front more

-- the lines of layers, and of one more
pub layer_lines-append : (number : ℕ) (rows : List LayerRow) (row : LayerRow)
    → layer_lines number (rows ++ row ∷ []) ≡ layer_lines number rows
    ++ (layer_line (number + length rows) row ∷ extents_lines (number + length rows) row.drawing)
layer_lines-append number [] row =
    subst (λ n. layer_line number row ∷ (extents_lines number row.drawing ++ []) ≡ layer_line n row
    ∷ extents_lines n row.drawing) (sym (add-zero number)) (rw append-nil refl)
layer_lines-append number (first ∷ rows) row =
    let same : number + 1 + length rows ≡ number + suc (length rows) = omega arith in
    let later : layer_lines (number + 1) (rows ++ row ∷ []) ≡ layer_lines (number + 1) rows
    ++ (layer_line (number + suc (length rows)) row ∷ extents_lines (number + suc (length rows)) row.drawing)
    = subst (λ n. layer_lines (number + 1) (rows ++ row ∷ []) ≡ layer_lines (number + 1) rows
    ++ (layer_line n row ∷ extents_lines n row.drawing)) same (layer_lines-append (number + 1) rows row) in
    simp (later, append_assoc) refl

-- one more turn of the loop over layers
pub one_more_layer : (out : List ℕ) {before first second now : List ℕ}
    (rows : List LayerRow) {number : ℕ} {row : LayerRow} → number < length rows → row ≡ get_or rows number row
    → before ≡ out ++ text_of_lines (layer_lines 0 (take number rows))
    → first ≡ before ++ layer_line number row
    → second ≡ first ++ LINE_FEED ∷ []
    → now ≡ second ++ text_of_lines (extents_lines number row.drawing)
    → now ≡ out ++ text_of_lines (layer_lines 0 (take (number + 1) rows))
one_more_layer out {before} {first} {second} {now} rows {number} {row} within is start one two three =
    let front = take number rows in
    let count : 0 + length front ≡ number = omega (arith, length-take number rows) in
    let longer : take (number + 1) rows ≡ front ++ row ∷ [] = take_more rows number row within
    ∙ ap (λ r. front ++ r ∷ []) (sym is) in
    let added : layer_lines 0 (front ++ row ∷ []) ≡ layer_lines 0 front
    ++ (layer_line number row ∷ extents_lines number row.drawing)
    = subst (λ n. layer_lines 0 (front ++ row ∷ []) ≡ layer_lines 0 front
    ++ (layer_line n row ∷ extents_lines n row.drawing)) count (layer_lines-append 0 front row) in
    let text : text_of_lines (layer_lines 0 (take (number + 1) rows)) ≡ text_of_lines (layer_lines 0 front)
    ++ ((layer_line number row ++ LINE_FEED ∷ []) ++ text_of_lines (extents_lines number row.drawing))
    = ap text_of_lines (ap (layer_lines 0) longer ∙ added) ∙ text_of_lines-append (layer_lines 0 front) _ in
    simp (text, three, two, one, start, append_assoc) refl

-- three texts, one after the other
pub three : (start first second third : List ℕ) (a b c : List ℕ) → first ≡ start ++ a → second ≡ first ++ b
    → third ≡ second ++ c → third ≡ start ++ concat (a ∷ b ∷ c ∷ [])
three start first second third a b c is_first is_second is_third =
    simp (is_third, is_second, is_first, append_assoc, append-nil) refl

pub end_text : end_line ++ LINE_FEED ∷ [] ≡ codes "end\n"
unfolding end_line
end_text = refl

-- the text of a title, a line, lines, a line, lines, more lines and an end, one after the other
pub parts : (a b d e : List ℕ) (front behind last : List (List ℕ)) (o1 o2 o3 o4 o5 o6 o7 o8 o9 : List ℕ)
    → o1 ≡ a ++ LINE_FEED ∷ [] → o2 ≡ o1 ++ b → o3 ≡ o2 ++ LINE_FEED ∷ []
    → o4 ≡ o3 ++ text_of_lines front → o5 ≡ o4 ++ d → o6 ≡ o5 ++ LINE_FEED ∷ []
    → o7 ≡ o6 ++ text_of_lines behind → o8 ≡ o7 ++ text_of_lines last → o9 ≡ o8 ++ (e ++ LINE_FEED ∷ [])
    → o9 ≡ text_of_lines (a ∷ b ∷ (front ++ ((d ∷ behind) ++ (last ++ (e ∷ [])))))
parts a b d e front behind last o1 o2 o3 o4 o5 o6 o7 o8 o9 h1 h2 h3 h4 h5 h6 h7 h8 h9 =
    let ended : text_of_lines (last ++ (e ∷ [])) ≡ text_of_lines last ++ (e ++ LINE_FEED ∷ []) =
    text_of_lines-append last (e ∷ []) ∙ ap (λ t. text_of_lines last ++ t) (append-nil (e ++ LINE_FEED ∷ [])) in
    let inner : text_of_lines (front ++ ((d ∷ behind) ++ (last ++ (e ∷ [])))) ≡ text_of_lines front
    ++ ((d ++ LINE_FEED ∷ []) ++ (text_of_lines behind ++ (text_of_lines last ++ (e ++ LINE_FEED ∷ []))))
    = text_of_lines-append front _ ∙ ap (λ t. text_of_lines front ++ ((d ++ LINE_FEED ∷ []) ++ t))
    (text_of_lines-append behind (last ++ (e ∷ [])) ∙ ap (λ t. text_of_lines behind ++ t) ended) in
    simp (h9, h8, h7, h6, h5, h4, h3, h2, h1, inner, append_assoc) refl

-- what is so of the first elements of a list is so of one more
pub one_more_held : {A : Type 0} (P : A → Type 0) (xs : List A) {i : ℕ} {x : A} → i < length xs → x ≡ get_or xs i x
    → AllByRecursion P (take i xs) → P x → AllByRecursion P (take (i + 1) xs)
one_more_held P xs {i} {x} within is all one =
    subst (AllByRecursion P) (sym (take_more xs i x within ∙ ap (λ r. take i xs ++ r ∷ []) (sym is)))
    (all_append P (take i xs) (x ∷ []) all (one, tt))
