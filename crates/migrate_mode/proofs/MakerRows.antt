-- One more row of the maker's lists, and what comes between rows.
use Rattle.std.proofs.lemmas.Grind.{common_steps}
use Rattle.std.proofs.Common.{◌≡◌, ℕ, suc, zero, ◌+◌, ◌<◌, ◌≤◌, List, [], ◌∷◌, ◌++◌, length, map, refl, ◌∙◌, ap}
use Rattle.std.proofs.Common.{sym, arith, append_assoc, append-nil, take, ◌-◌}
use Rattle.std.proofs.lemmas.List.{map-append, length-append}
use Rattle.std.proofs.Math.Seq.{take-append-add}
use Rattle.std.proofs.lemmas.List.Concat.{flat_map-append}
use Rattle.std.specs.List.{flat_map, join_with_byte, range_with_len}
use Rattle.migrate_mode.specs.MakerTexts.{below, vertex_rows, triangle_rows, ended_rows}
use Rattle.migrate_mode.specs.declared.maker_texts.TheConstants.{COMMA}

range_more : (a n j : ℕ) → a + n ≡ j → range_with_len a (suc n) ≡ range_with_len a n ++ j ∷ []
range_more a zero j e = let same : a ≡ j = omega arith in ap (λ k. k ∷ []) same
range_more a (suc n) j e = ap (λ l. a ∷ l) (range_more (a + 1) n j (omega arith))

below_more : (n : ℕ) → below (n + 1) ≡ below n ++ n ∷ []
below_more n = let on : n + 1 ≡ suc n = omega arith in ap (range_with_len 0) on ∙ range_more 0 n n (omega arith)

-- one more text of a list
pub one_more_text : (text : ℕ → List ℕ) (start before now : List ℕ) (k : ℕ) → before ≡ start ++ flat_map text (below k)
    → now ≡ before ++ text k
    → now ≡ start ++ flat_map text (below (k + 1))
one_more_text text start before now k is more =
    simp (more, is, below_more k, flat_map-append, append_assoc, append-nil) refl

-- one more row, and one more list of rows, with a comma after each
pub one_more_row : (row : ℕ → List ℕ) (start before now : List ℕ) (k : ℕ)
    → before ≡ start ++ ended_rows (map row (below k)) → now ≡ before ++ (row k ++ COMMA ∷ [])
    → now ≡ start ++ ended_rows (map row (below (k + 1)))
one_more_row row start before now k is more =
    simp (more, is, below_more k, map-append, flat_map-append, append_assoc, append-nil) refl

pub one_more_list : (rows : ℕ → List (List ℕ)) (start before now : List ℕ) (k : ℕ)
    → before ≡ start ++ ended_rows (flat_map rows (below k)) → now ≡ before ++ ended_rows (rows k)
    → now ≡ start ++ ended_rows (flat_map rows (below (k + 1)))
one_more_list rows start before now k is more =
    simp (more, is, below_more k, flat_map-append, append_assoc, append-nil) refl

-- rows with a comma after each are the rows joined by commas, and a last comma
pub ended_rows-join : (rows : List (List ℕ)) → 0 < length rows
    → ended_rows rows ≡ join_with_byte COMMA rows ++ COMMA ∷ []
ended_rows-join [] some = absurd (omega arith)
ended_rows-join (row ∷ []) some = append-nil _
ended_rows-join (row ∷ next ∷ rows) some = grind (arith, append_assoc, (ended_rows-join (next ∷ rows) (omega arith)))

-- there is a corner, and where there is a cell, a triangle
pub vertices_some : (n : ℕ) → 0 < length (vertex_rows n)
vertices_some n = grind (arith)

pub triangles_some : (n : ℕ) → 1 ≤ n → 0 < length (triangle_rows n)
triangles_some zero some = absurd (omega arith)
triangles_some (suc n) some = omega arith

-- the parts of a line of the layer, one after the other
pub four_parts : (start first second third fourth a b c d e f g : List ℕ) → first ≡ start ++ a
    → second ≡ first ++ (b ++ c) → third ≡ second ++ (d ++ e) → fourth ≡ third ++ (f ++ g)
    → fourth ≡ start ++ (a ++ (b ++ (c ++ (d ++ (e ++ (f ++ g))))))
four_parts start first second third fourth a b c d e f g one two three four =
    simp (four, three, two, one, append_assoc) refl

-- a list without its last element
without_last : (all front : List ℕ) (last : ℕ) (now : List ℕ) → all ≡ front ++ last ∷ []
    → now ≡ take (length all - 1) all → now ≡ front
without_last all front last now is rest = grind (arith, common_steps, length-append, take-append-add, append-nil)

-- the parts of a triangulation's text, with the commas that are taken away
pub tin_parts : (front vertices between triangles end o0 o1 o2 o3 o4 o5 o6 o7 : List ℕ) → o0 ≡ [] → o1 ≡ o0 ++ front
    → o2 ≡ o1 ++ (vertices ++ COMMA ∷ []) → o3 ≡ take (length o2 - 1) o2 → o4 ≡ o3 ++ between
    → o5 ≡ o4 ++ (triangles ++ COMMA ∷ []) → o6 ≡ take (length o5 - 1) o5 → o7 ≡ o6 ++ end
    → o7 ≡ front ++ (vertices ++ (between ++ (triangles ++ end)))
tin_parts front vertices between triangles end o0 o1 o2 o3 o4 o5 o6 o7 h0 h1 h2 h3 h4 h5 h6 h7 =
    let third : o3 ≡ o1 ++ vertices = without_last o2 (o1 ++ vertices) COMMA o3 (h2 ∙ sym (append_assoc o1 vertices _))
    h3 in
    let sixth : o6 ≡ o4 ++ triangles = without_last o5 (o4 ++ triangles) COMMA o6
    (h5 ∙ sym (append_assoc o4 triangles _)) h6 in
    simp (h7, sixth, h4, third, h1, h0, append_assoc) refl
