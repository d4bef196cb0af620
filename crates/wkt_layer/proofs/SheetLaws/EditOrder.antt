-- The numbers of a text follow one another, and so the edits of its paths are in order and apart from each
-- other.
use Rattle.std.proofs.Common.{◌≡◌, ◌==◌, ℕ, zero, suc, ◌+◌, ◌-◌, ◌≤◌, Bool, true, false, List, [], ◌∷◌, ◌++◌, length}
use Rattle.std.proofs.Common.{take, refl, sym, ap, ◌∙◌, subst, append-nil, append_assoc, arith}
use Rattle.std.specs.Prelude.{flat_map, if◌then◌else◌, Option, Some, None}
use Rattle.std.specs.List.{slice_split, onto_first}
use Rattle.std.specs.Char.{is_ascii_alphabetic}
use Rattle.std.proofs.lemmas.Grind.{flat_map-append}
use Rattle.std.proofs.lemmas.List.{length-take-le}
use Rattle.std.proofs.lemmas.List.Sums.{prefix_len-le-length}
use Rattle.sheet_base.specs.Splices.{AreInOrder}
use Rattle.sheet_base.specs.Sheets.{Contents}
use Rattle.wkt_layer.specs.Layers.{geometry_lines, AreLinesOf, IsWktReadAs}
use Rattle.wkt_layer.specs.declared.limits.TheConstants.{LINE_FEED}
use Rattle.sheet_base.specs.declared.paths.PathKind.{PathKind}
use Rattle.sheet_base.specs.declared.paths.PathKind.TheVariants.{Dot, Line, Loop}
use Rattle.text_places.specs.Blanks.{is_blank_byte}
use Rattle.wkt_layer.specs.Tokens.{Number, Token, opening, closing, comma, word, number, stray, Placed}
use Rattle.wkt_layer.specs.Tokens.{is_numeric, token_length, word_of, token_of, token_at, bytes_behind, tokens_behind}
use Rattle.wkt_layer.specs.Tokens.{tokens_of}
use Rattle.wkt_layer.specs.Numbers.{Point, past_of}
use Rattle.wkt_layer.specs.Geometries.{Member, dot, bare, Geometry, point, line_string, polygon, multi_point}
use Rattle.wkt_layer.specs.Geometries.{multi_line_string, multi_polygon, collection, Geometries, no_geometry, geometry}
use Rattle.wkt_layer.specs.Geometries.{third_tokens, mark, point_tokens, behind_item, content_tokens, points_tokens}
use Rattle.wkt_layer.specs.Geometries.{member_tokens}
use Rattle.wkt_layer.specs.Geometries.{lists_tokens, geometry_tokens, geometries_tokens, behind_geometry, last_behind}
use Rattle.wkt_layer.specs.Paths.{Path, path_of, member_path, geometry_paths, geometries_paths, edits_from}
use Rattle.wkt_layer.specs.Lines.{IsLineOf, tokens_in}
use Rattle.wkt_layer.specs.InsidePasses.{Ascend, third_numbers, point_numbers, path_numbers}

-- the numbers among tokens
abbrev pub numbers_of : List Token → List Number
numbers_of [] = []
numbers_of (number n ∷ tokens) = n ∷ numbers_of tokens
numbers_of (opening ∷ tokens) = numbers_of tokens
numbers_of (closing ∷ tokens) = numbers_of tokens
numbers_of (comma ∷ tokens) = numbers_of tokens
numbers_of (word w ∷ tokens) = numbers_of tokens
numbers_of (stray ∷ tokens) = numbers_of tokens

numbers_append : (xs ys : List Token) → numbers_of (xs ++ ys) ≡ numbers_of xs ++ numbers_of ys
numbers_append [] ys = refl
numbers_append (number n ∷ xs) ys = ap (λ ns. n ∷ ns) (numbers_append xs ys)
numbers_append (opening ∷ xs) ys = numbers_append xs ys
numbers_append (closing ∷ xs) ys = numbers_append xs ys
numbers_append (comma ∷ xs) ys = numbers_append xs ys
numbers_append (word w ∷ xs) ys = numbers_append xs ys
numbers_append (stray ∷ xs) ys = numbers_append xs ys

-- Orders.
pub ascend_before : (from earlier : ℕ) (numbers : List Number) (past : ℕ) → earlier ≤ from → Ascend from numbers past
    → Ascend earlier numbers past
ascend_before from earlier [] past le up = omega (arith, le, up)
ascend_before from earlier (n ∷ numbers) past le up = let h = up.0 in (omega (arith, le, h), up.1)

pub ascend_past : (from : ℕ) (numbers : List Number) (past later : ℕ) → past ≤ later → Ascend from numbers past
    → Ascend from numbers later
ascend_past from [] past later le up = omega (arith, le, up)
ascend_past from (n ∷ numbers) past later le up =
    (up.0, ascend_past (n.start + length n.text) numbers past later le up.1)

pub ascend_append : (from : ℕ) (xs ys : List Number) (mid past : ℕ) → Ascend from xs mid → Ascend mid ys past
    → Ascend from (xs ++ ys) past
ascend_append from [] ys mid past first second = ascend_before mid from ys past first second
ascend_append from (x ∷ xs) ys mid past first second =
    (first.0, ascend_append (x.start + length x.text) xs ys mid past first.1 second)

-- Tokens.
pub token_size : (byte : ℕ) (bytes : List ℕ)
    → (1 ≤ token_length byte bytes) × (token_length byte bytes ≤ suc (length bytes))
token_size byte bytes = grind (arith, prefix_len-le-length)

pub number_token : (at byte : ℕ) (text : List ℕ) (n : Number) → token_of at byte text ≡ number n
    → (n.start ≡ at) × (n.text ≡ text)
number_token at byte text n = by_tests (is_ascii_alphabetic byte) (is_numeric byte) (byte == 40) (byte == 41)
    (byte == 44)
  where
    by_tests : (a b c d e : Bool) → (if a then word (word_of text) else if b then number
        (record { start = at; text = text }) else if c then opening else if d then closing else if e then comma else
        stray) ≡ number n
        → (n.start ≡ at) × (n.text ≡ text)
    by_tests false true c d e h = let one : Number = record { start = at; text = text } in let same : one ≡ n =
        cc in (sym (ap (λ (m : Number). m.start) same), sym (ap (λ (m : Number). m.text) same))
    by_tests false false true d e h = cc
    by_tests false false false true e h = cc
    by_tests false false false false true h = cc
    by_tests a b c d e h = cc

by_token : (at size : ℕ) (t : Token) (rest : List Token) (past : ℕ)
    → ((n : Number) → t ≡ number n → (n.start ≡ at) × (length n.text ≡ size))
    → Ascend (at + size) (numbers_of rest) past
    → Ascend at (numbers_of (t ∷ rest)) past
by_token at size (number n) rest past is up =
    let (begins, long) = is n refl in
    let e : at + size ≡ n.start + length n.text = omega (arith, begins, long) in
    (omega (arith, begins), subst (λ k. Ascend k (numbers_of rest) past) e up)
by_token at size t rest past is up = ascend_before (at + size) at (numbers_of rest) past (omega arith) up

tokens_ascend : (count at : ℕ) (bytes : List ℕ) → count ≤ length bytes
    → Ascend (at + count) (numbers_of (tokens_in (tokens_behind count at bytes))) (at + length bytes)
tokens_ascend zero at [] le = omega arith
tokens_ascend (suc count) at [] le = absurd (omega (arith, le))
tokens_ascend (suc count) at (byte ∷ bytes) le =
    let e : at + 1 + count ≡ at + suc count = omega arith in
    let f : at + 1 + length bytes ≡ at + suc (length bytes) = omega arith in
    subst (λ k. Ascend (at + suc count) (numbers_of (tokens_in (tokens_behind count (at + 1) bytes))) k) f
    (subst (λ k. Ascend k (numbers_of (tokens_in (tokens_behind count (at + 1) bytes))) (at + 1 + length bytes)) e
    (tokens_ascend count (at + 1) bytes (omega (arith, le))))
tokens_ascend zero at (byte ∷ bytes) le = by_blank (is_blank_byte byte) refl
    (λ n few. tokens_ascend n (at + 1) bytes few)
  where
    by_blank : (b : Bool) → is_blank_byte byte ≡ b
        → ((n : ℕ) → n ≤ length bytes → Ascend (at + 1 + n) (numbers_of (tokens_in (tokens_behind n (at + 1) bytes)))
        (at + 1 + length bytes))
        → Ascend (at + 0) (numbers_of (tokens_in
        (token_at at byte bytes ++ tokens_behind (bytes_behind byte bytes) (at + 1) bytes))) (at + suc (length bytes))
    by_blank true e on =
        let f : at + 1 + length bytes ≡ at + suc (length bytes) = omega arith in
        rw e (subst (λ k. Ascend (at + 0) (numbers_of (tokens_in (tokens_behind 0 (at + 1) bytes))) k) f
        (ascend_before (at + 1 + 0) (at + 0) (numbers_of (tokens_in (tokens_behind 0 (at + 1) bytes)))
        (at + 1 + length bytes) (omega arith) (on 0 (omega arith))))
    by_blank false e on =
        let size = token_size byte bytes in
        let s0 = size.0 in
        let s1 = size.1 in
        let f : at + 1 + length bytes ≡ at + suc (length bytes) = omega arith in
        let g : at + 1 + (token_length byte bytes - 1) ≡ at + 0 + token_length byte bytes = omega (arith, s0) in
        let h : at + 0 ≡ at = omega arith in
        let long = length-take-le (token_length byte bytes) (byte ∷ bytes) s1 in
        let rest = subst (λ k. Ascend (at + 0 + token_length byte bytes)
        (numbers_of (tokens_in (tokens_behind (token_length byte bytes - 1) (at + 1) bytes))) k) f
        (subst (λ k. Ascend k (numbers_of (tokens_in (tokens_behind (token_length byte bytes - 1) (at + 1) bytes)))
        (at + 1 + length bytes)) g (on (token_length byte bytes - 1) (omega (arith, s1)))) in
        rw e (by_token (at + 0) (token_length byte bytes)
        (token_of at byte (take (token_length byte bytes) (byte ∷ bytes)))
        (tokens_in (tokens_behind (token_length byte bytes - 1) (at + 1) bytes)) (at + suc (length bytes))
        (λ n is. let (begins, text) = number_token at byte (take (token_length byte bytes) (byte ∷ bytes)) n
        is in (begins ∙ sym h, ap length text ∙ long)) rest)

-- Geometries.
behind_numbers : {A : Type 0} (tokens : A → List Token) (paths : A → List Path)
    → ((x : A) → numbers_of (tokens x) ≡ flat_map path_numbers (paths x)) → (items : List A)
    → numbers_of (behind_item tokens items) ≡ flat_map path_numbers (flat_map paths items)
behind_numbers tokens paths each [] = refl
behind_numbers tokens paths each (x ∷ items) =
    grind (arith, numbers_append, flat_map-append, (behind_numbers tokens paths each items))

content_numbers : {A : Type 0} (tokens : A → List Token) (paths : A → List Path)
    → ((x : A) → numbers_of (tokens x) ≡ flat_map path_numbers (paths x)) → (items : List A)
    → numbers_of (content_tokens tokens items) ≡ flat_map path_numbers (flat_map paths items)
content_numbers tokens paths each [] = refl
content_numbers tokens paths each (x ∷ items) = behind_numbers tokens paths each (x ∷ items)

third_more : (z : Option Number) (points : List Point)
    → numbers_of (behind_item point_tokens points) ≡ flat_map point_numbers points
    → numbers_of (third_tokens z ++ behind_item point_tokens points)
    ≡ third_numbers z ++ flat_map point_numbers points
third_more None points same = same
third_more (Some z) points same = ap (λ ns. z ∷ ns) same

more_points : (points : List Point) → numbers_of (behind_item point_tokens points) ≡ flat_map point_numbers points
more_points [] = refl
more_points (p ∷ points) = ap (λ ns. p.x ∷ p.y ∷ ns) (third_more p.z points (more_points points))

points_numbers : (kind : PathKind) (points : List Point)
    → numbers_of (points_tokens points) ≡ flat_map path_numbers (path_of kind points)
points_numbers kind [] = refl
points_numbers kind (p ∷ points) = ap (λ ns. p.x ∷ p.y ∷ ns) (third_more p.z points (more_points points))
    ∙ sym (append-nil (flat_map point_numbers (p ∷ points)))

third_alone : (z : Option Number) → numbers_of (third_tokens z) ≡ third_numbers z ++ []
third_alone None = refl
third_alone (Some z) = refl

member_numbers : (member : Member) → numbers_of (member_tokens member) ≡ flat_map path_numbers (member_path member)
member_numbers (dot points) = points_numbers Dot points
member_numbers (bare p) = ap (λ ns. p.x ∷ p.y ∷ ns) (third_alone p.z)
    ∙ sym (append-nil (flat_map point_numbers (p ∷ [])))

lists_numbers : (kind : PathKind) (lists : List (List Point))
    → numbers_of (lists_tokens lists) ≡ flat_map path_numbers (flat_map (path_of kind) lists)
lists_numbers kind lists = content_numbers points_tokens (path_of kind) (points_numbers kind) lists

marked : (raised : Bool) (tokens : List Token) → numbers_of (mark raised ++ tokens) ≡ numbers_of tokens
marked false tokens = refl
marked true tokens = refl

mutual
  geometry_numbers : (one : Geometry) → numbers_of (geometry_tokens one) ≡ flat_map path_numbers (geometry_paths one)
  geometry_numbers (point raised points) = marked raised (points_tokens points) ∙ points_numbers Dot points
  geometry_numbers (line_string raised points) = marked raised (points_tokens points) ∙ points_numbers Line points
  geometry_numbers (polygon raised rings) = marked raised (lists_tokens rings) ∙ lists_numbers Loop rings
  geometry_numbers (multi_point raised members) = marked raised (content_tokens member_tokens members)
      ∙ content_numbers member_tokens member_path member_numbers members
  geometry_numbers (multi_line_string raised lists) = marked raised (lists_tokens lists) ∙ lists_numbers Line lists
  geometry_numbers (multi_polygon raised polygons) =
      marked raised (content_tokens lists_tokens polygons)
      ∙ content_numbers lists_tokens (flat_map (path_of Loop)) (lists_numbers Loop) polygons
  geometry_numbers (collection raised no_geometry) = marked raised (geometries_tokens no_geometry)
  geometry_numbers (collection raised (geometry first more)) =
      marked raised (geometries_tokens (geometry first more))
      ∙ numbers_append (geometry_tokens first) (behind_geometry more)
      ∙ ap (λ ns. ns ++ numbers_of (behind_geometry more)) (geometry_numbers first)
      ∙ ap (λ ns. flat_map path_numbers (geometry_paths first) ++ ns) (geometries_numbers more)
      ∙ sym (flat_map-append path_numbers (geometry_paths first) (geometries_paths more))

  geometries_numbers : (more : Geometries) → numbers_of (behind_geometry more)
      ≡ flat_map path_numbers (geometries_paths more)
  geometries_numbers no_geometry = refl
  geometries_numbers (geometry next more) =
      numbers_append (geometry_tokens next) (behind_geometry more)
      ∙ ap (λ ns. ns ++ numbers_of (behind_geometry more)) (geometry_numbers next)
      ∙ ap (λ ns. flat_map path_numbers (geometry_paths next) ++ ns) (geometries_numbers more)
      ∙ sym (flat_map-append path_numbers (geometry_paths next) (geometries_paths more))

pub line_numbers : (exact : Bool) (line : List Placed) (paths : List Path) → IsLineOf exact line paths
    → numbers_of (tokens_in line) ≡ flat_map path_numbers paths
line_numbers exact [] paths is = sym (ap (flat_map path_numbers) is)
line_numbers exact (one ∷ more) paths (of, is, same, are) = ap numbers_of same ∙ geometry_numbers of
    ∙ sym (ap (flat_map path_numbers) are)

-- the paths of a line are in order
pub line_ascends : (exact : Bool) (at : ℕ) (line : List ℕ) (paths : List Path)
    → IsLineOf exact (tokens_of at line) paths → Ascend at (flat_map path_numbers paths) (at + length line)
line_ascends exact at line paths is =
    let e : at + 0 ≡ at = omega arith in
    subst (λ ns. Ascend at ns (at + length line)) (line_numbers exact (tokens_of at line) paths is)
    (subst (λ k. Ascend k (numbers_of (tokens_in (tokens_of at line))) (at + length line)) e
    (tokens_ascend 0 at line (omega arith)))

-- Edits.
third_order : (p : Point) (z : Option Number) (rest : List Number) (from past : ℕ) → p.z ≡ z → from ≤ p.x.start
    → p.x.start + length p.x.text ≤ p.y.start
    → Ascend (p.y.start + length p.y.text) (third_numbers z ++ rest) past
    → (from ≤ p.x.start) × (p.x.start ≤ past_of p) × Ascend (past_of p) rest past
third_order p None rest from past is first second up = rw is (first, omega (arith, second), up)
third_order p (Some z) rest from past is first second (third, up) =
    rw is (first, omega (arith, second, third), up)

path_order : (p : Point) (more : List Point) (rest : List Number) (from past : ℕ)
    → Ascend from (flat_map point_numbers (p ∷ more) ++ rest) past
    → (from ≤ p.x.start) × (p.x.start ≤ past_of (last_behind p more))
    × Ascend (past_of (last_behind p more)) rest past
path_order p [] rest from past (first, (second, up)) =
    third_order p p.z rest from past refl first second (subst (λ ns. Ascend (p.y.start + length p.y.text) ns past)
    (append_assoc (third_numbers p.z) [] rest) up)
path_order p (next ∷ more) rest from past (first, (second, up)) =
    let (begins, ends, behind) = third_order p p.z (flat_map point_numbers (next ∷ more) ++ rest) from past refl first
    second (subst (λ ns. Ascend (p.y.start + length p.y.text) ns past)
    (append_assoc (third_numbers p.z) (flat_map point_numbers (next ∷ more)) rest) up) in
    let (third, fourth, later) = path_order next more rest (past_of p) past behind in
    (first, omega (arith, ends, third, fourth), later)

pub edits_in_order : (count : ℕ) (paths : List Path) (from past : ℕ) → Ascend from (flat_map path_numbers paths) past
    → AreInOrder from (edits_from count paths) past
edits_in_order count [] from past up = up
edits_in_order count (path ∷ paths) from past up =
    let (first, second, later) = path_order path.first path.more (flat_map path_numbers paths) from past up in (
      first,
      second,
      edits_in_order (count + 1) paths
          (past_of (last_behind path.first path.more)) past later,
    )

-- Whole texts.
unfoldable pub width : List (List ℕ) → ℕ
width [] = 0
width (line ∷ []) = length line
width (line ∷ next ∷ more) = length line + 1 + width (next ∷ more)

pub split_some : (p : ℕ → Bool) (bytes : List ℕ)
    → (line : List ℕ) × (more : List (List ℕ)) × (slice_split p bytes ≡ line ∷ more)
split_some p [] = ([], [], refl)
split_some p (byte ∷ bytes) = at (p byte) refl (split_some p bytes)
  where
    at : (b : Bool) → p byte ≡ b → ((line : List ℕ) × (more : List (List ℕ)) × (slice_split p bytes ≡ line ∷ more))
        → (line : List ℕ) × (more : List (List ℕ)) × (slice_split p (byte ∷ bytes) ≡ line ∷ more)
    at true e (line, more, same) = ([], slice_split p bytes, rw e refl)
    at false e (line, more, same) = (byte ∷ line, more, rw e (ap (onto_first byte) same))

onto_width : (byte : ℕ) (line : List ℕ) (more : List (List ℕ))
    → width ((byte ∷ line) ∷ more) ≡ suc (width (line ∷ more))
unfolding width
onto_width byte line [] = refl
onto_width byte line (next ∷ more) = omega arith

pub lines_width : (p : ℕ → Bool) (bytes : List ℕ) → width (slice_split p bytes) ≡ length bytes
unfolding width
lines_width p [] = refl
lines_width p (byte ∷ bytes) = at (p byte) refl (split_some p bytes) (lines_width p bytes)
  where
    at : (b : Bool) → p byte ≡ b → ((line : List ℕ) × (more : List (List ℕ)) × (slice_split p bytes ≡ line ∷ more))
        → width (slice_split p bytes) ≡ length bytes
        → width (slice_split p (byte ∷ bytes)) ≡ suc (length bytes)
    at true e (line, more, same) sum =
        let one : width ([] ∷ slice_split p bytes) ≡ suc (width (slice_split p bytes)) =
        subst (λ ls. width ([] ∷ ls) ≡ suc (width ls)) (sym same) (omega arith) in
        rw e (one ∙ ap suc sum)
    at false e (line, more, same) sum =
        let one : width (onto_first byte (slice_split p bytes)) ≡ suc (width (slice_split p bytes)) =
        subst (λ ls. width (onto_first byte ls) ≡ suc (width ls)) (sym same) (onto_width byte line more) in
        rw e (one ∙ ap suc sum)

lines_ascend : (exact : Bool) (at : ℕ) (lines : List (List ℕ)) (paths : List Path) → AreLinesOf exact at lines paths
    → Ascend at (flat_map path_numbers paths) (at + width lines)
unfolding width
lines_ascend exact at [] paths are = subst (λ ps. Ascend at (flat_map path_numbers ps) (at + 0)) (sym are) (omega arith)
lines_ascend exact at (line ∷ []) paths (here, others, is, none, same) =
    let all : paths ≡ here = same ∙ ap (λ ps. here ++ ps) none ∙ append-nil here in
    subst (λ ps. Ascend at (flat_map path_numbers ps) (at + length line)) (sym all) (line_ascends exact at line here is)
lines_ascend exact at (line ∷ next ∷ more) paths (here, others, is, are, same) =
    let later = lines_ascend exact (at + length line + 1) (next ∷ more) others are in
    let e : at + length line + 1 + width (next ∷ more) ≡ at + (length line + 1 + width (next ∷ more)) = omega arith in
    let behind = ascend_before (at + length line + 1) (at + length line) (flat_map path_numbers others)
    (at + length line + 1 + width (next ∷ more)) (omega arith) later in
    let both = ascend_append at (flat_map path_numbers here) (flat_map path_numbers others) (at + length line)
    (at + length line + 1 + width (next ∷ more)) (line_ascends exact at line here is) behind in
    subst (λ k. Ascend at (flat_map path_numbers paths) k) e
    (subst (λ ns. Ascend at ns (at + length line + 1 + width (next ∷ more)))
    (sym (ap (flat_map path_numbers) same ∙ flat_map-append path_numbers here others)) both)

-- the edits of a text's sheet are in order
pub read_in_order : (exact : Bool) (bytes : List ℕ) (sheet : Contents) → IsWktReadAs exact bytes sheet
    → AreInOrder 0 sheet.edits (length bytes)
read_in_order exact bytes sheet (paths, are, same) =
    let e : 0 + width (geometry_lines bytes) ≡ length bytes = let w =
    lines_width (λ byte. byte == LINE_FEED) bytes in omega (arith, w) in
    subst (λ (s : Contents). AreInOrder 0 s.edits (length bytes)) (sym same)
    (edits_in_order 0 paths 0 (length bytes) (subst (λ k. Ascend 0 (flat_map path_numbers paths) k) e
    (lines_ascend exact 0 (geometry_lines bytes) paths are)))
