-- Copies that are written one by one.
use Rattle.std.proofs.Common.{◌≡◌, ℕ, zero, suc, ◌+◌, ◌-◌, ◌≤◌, ◌<◌, ℤ, length, take, drop, get_or, arith, List, []}
use Rattle.std.proofs.Common.{◌∷◌, ◌++◌, true, false, cond, refl, ap, sym, subst, ◌∙◌, Option, None, Some}
use Rattle.std.proofs.lemmas.List.{append_assoc, append-nil, take_more}
use Rattle.dxf_entities.proofs.NoPairs.{no_pair}
use Rattle.dxf_pairs.specs.declared.pairs.Pair.{Pair}
use Rattle.plane_base.specs.declared.shapes.Pt.{Pt}
use Rattle.dxf_entities.specs.Entities.{Entity, is_coded}
use Rattle.sheet_base.specs.PointHeights.{Height, Position, points_with_heights}
use Rattle.sheet_base.proofs.PositionLists.{position_at, paired_more}
use Rattle.dxf_pairs.specs.Lines.{between}
use Rattle.dxf_copies.specs.declared.copies.Copied.{Copied}
use Rattle.dxf_copies.specs.declared.copies.Value.{Value}
use Rattle.dxf_copies.specs.Rendering.{copy_text, line_copy, vertex_copies, line_copies, last_coded, value_text}
use Rattle.dxf_copies.specs.Rendering.{copied_with}

-- bytes in five parts
pub five_parts : (out a m b n e first second third : List ℕ) → first ≡ out ++ (a ++ m) → second ≡ first ++ (b ++ n)
    → third ≡ second ++ e → third ≡ out ++ (a ++ (m ++ (b ++ (n ++ e))))
five_parts out a m b n e first second third first_is second_is third_is = grind (arith, append_assoc)

-- the last of some pairs, by the very last
last_split : (code : ℤ) (before : Option Pair) (pairs : List Pair) (pair : Pair)
    → last_coded code before (pairs ++ pair ∷ []) ≡ cond (is_coded code pair) (Some pair) (last_coded code before pairs)
last_split code before [] pair = refl
last_split code before (first ∷ pairs) pair =
    last_split code (cond (is_coded code first) (Some first) before) pairs pair

pub last_at : (code : ℤ) (pairs : List Pair) (left : ℕ) → 0 < left → left ≤ length pairs
    → last_coded code None (take left pairs) ≡ cond (is_coded code (get_or pairs (left - 1) no_pair))
    (Some (get_or pairs (left - 1) no_pair)) (last_coded code None (take (left - 1) pairs))
last_at code pairs left some within =
    let up : left ≡ (left - 1) + 1 = omega arith in
    let split : take left pairs ≡ take (left - 1) pairs ++ get_or pairs (left - 1) no_pair ∷ [] =
    ap (λ n. take n pairs) up ∙ take_more pairs (left - 1) no_pair (omega arith) in grind (arith, last_split, no_pair)

-- copies that are left, where the last handle or none was given
abbrev pub vertices_left : List ℕ → Entity → Option ℕ → ℕ → List Pt → List ℕ
vertices_left bytes entity None next images = vertex_copies bytes entity true next images
vertices_left bytes entity (Some handle) next images = vertex_copies bytes entity false handle images

-- this many copies after the first have taken handles from the first one on
abbrev pub IsFirst : ℕ → ℕ → Option ℕ → ℕ → Type 0
IsFirst first written None next = (written ≡ 0) × (next ≡ first)
IsFirst first written (Some handle) next = (next ≡ handle + 1) × (handle + 1 ≡ first + written)

-- what is left of the copies of a line
abbrev pub lines_left : List ℕ → Entity → Option ℕ → ℕ → List Position → List ℕ
lines_left bytes entity None next images = line_copies bytes entity true next images
lines_left bytes entity (Some handle) next images = line_copies bytes entity false handle images

abbrev pub IsNext : ℕ → Option ℕ → ℕ → Type 0
IsNext first None next = next ≡ first
IsNext first (Some handle) next = next ≡ handle + 1

-- the images from one number to before another
abbrev pub some_of : List Pt → List Height → ℕ → ℕ → List Position
some_of points heights first past = take (past - first) (drop first (points_with_heights points heights))

-- what a copy is made of
pub same_copy : (from to begin end : Pt) (low high begin_height end_height : Height) (handle : Option ℕ)
    → from ≡ begin → to ≡ end → low ≡ begin_height → high ≡ end_height → ◌≡◌ {A = Copied} (record {
      begin = from;
      end = Some to;
      begin_height = low;
      end_height = high;
      handle = handle;
    }) (line_copy (record { point = begin; height = begin_height }) (record { point = end; height = end_height })
    handle)
same_copy from to begin end low high begin_height end_height handle p q r s = grind arith

-- one copy more is written
pub line_more : (bytes : List ℕ) (entity : Entity) (points : List Pt) (heights : List Height) (handle : Option ℕ)
    (first next number past : ℕ) (out now all : List ℕ) → length heights ≡ length points → number + 1 < past
    → past ≤ length points → IsNext first handle next
    → out ++ lines_left bytes entity handle next (some_of points heights number past) ≡ all
    → now ≡ out ++ copy_text bytes (line_copy (position_at points heights number)
    (position_at points heights (number + 1)) handle) entity
    → now ++ lines_left bytes entity (Some next) (next + 1) (some_of points heights (number + 1) past) ≡ all
line_more bytes entity points heights handle first next number past out now all each within inside follows is written =
    grind (arith, position_at, paired_more, append_assoc)

-- none is left behind the last but one image
none_left : (bytes : List ℕ) (entity : Entity) (handle : Option ℕ) (next count : ℕ) (images : List Position)
    → count ≤ 1 → lines_left bytes entity handle next (take count images) ≡ []
none_left bytes entity handle next zero images few = grind arith
none_left bytes entity handle next (suc zero) [] few = grind arith
none_left bytes entity handle next (suc zero) (image ∷ images) few = grind arith
none_left bytes entity handle next (suc (suc count)) images few = absurd (omega (arith, few))

-- all copies are written
pub lines_done : (bytes : List ℕ) (entity : Entity) (points : List Pt) (heights : List Height) (handle : Option ℕ)
    (next number past : ℕ) (out all : List ℕ) → past ≤ number + 1
    → out ++ lines_left bytes entity handle next (some_of points heights number past) ≡ all → out ≡ all
lines_done bytes entity points heights handle next number past out all last is = grind (arith, append-nil, none_left)

-- a field's value in place of its own
pub field_pushed : (bytes : List ℕ) (from : ℕ) (pair : Pair) (found : Option Value) (value : Value)
    (out first now : List ℕ) → found ≡ Some value → first ≡ out ++ between from pair.value bytes
    → now ≡ first ++ value_text value → (rest : ℕ → List ℕ) → now ++ rest pair.value_end
    ≡ out ++ copied_with (λ (field : Pair). rest field.value_end) bytes from pair found (rest from)
field_pushed bytes from pair found value out first now is kept written rest =
    let front = between from pair.value bytes in
    let behind = rest pair.value_end in subst (λ (f : Option Value). now ++ behind
    ≡ out ++ copied_with (λ (field : Pair). rest field.value_end) bytes from pair f (rest from)) (sym is)
    (ap (λ (text : List ℕ). text ++ behind) (written ∙ ap (λ (text : List ℕ). text ++ value_text value) kept)
    ∙ (append_assoc (out ++ front) (value_text value) behind ∙ append_assoc out front (value_text value ++ behind)))
