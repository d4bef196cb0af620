-- Points with their heights, as one list, and the texts of some of them.
use Rattle.std.proofs.Common.{◌≡◌, ℕ, zero, suc, ◌+◌, ◌-◌, ◌<◌, ◌≤◌, min, List, [], ◌∷◌, ◌++◌, length, take, drop, ap}
use Rattle.std.proofs.Common.{◌⊎◌, inl, inr, refl, sym, ◌∙◌, append_assoc, arith}
use Rattle.std.proofs.lemmas.List.{length-drop, take_all, append-nil}
use Rattle.plane_base.specs.declared.shapes.Pt.{Pt}
use Rattle.sheet_base.specs.PointHeights.{Height, Position, height_in, points_with_heights, points_of, heights_of}
use Rattle.sheet_base.specs.Segments.{point_at}
use Rattle.sheet_base.specs.ImageLists.{texts_behind, list_text, ring_text}

pub paired_points : (ps : List Pt) (hs : List Height) → length ps ≡ length hs → points_of (points_with_heights ps hs) ≡ ps
paired_points [] hs e = refl
paired_points (p ∷ ps) [] e = absurd (omega (arith, e))
paired_points (p ∷ ps) (h ∷ hs) e = ap (λ (qs : List Pt). p ∷ qs) (paired_points ps hs (omega (arith, e)))

pub paired_heights : (ps : List Pt) (hs : List Height) → length ps ≡ length hs → heights_of (points_with_heights ps hs) ≡ hs
paired_heights [] [] e = refl
paired_heights (p ∷ ps) (h ∷ hs) e = ap (λ (zs : List Height). h ∷ zs) (paired_heights ps hs (omega (arith, e)))
paired_heights ps hs e = absurd (omega (arith, e))

-- ---- one of them
abbrev pub position_at : List Pt → List Height → ℕ → Position
position_at points heights number = record { point = point_at points number; height = height_in heights number }

pub position_is : (points ps : List Pt) (heights hs : List Height) (height : Height) (number : ℕ) → points ≡ ps
    → heights ≡ hs → height ≡ height_in heights number
    → (let own : Position = record { point = point_at points number; height = height } in own)
    ≡ position_at ps hs number
position_is points ps heights hs height number points_are heights_are height_is =
    rw (points_are, height_is, heights_are) refl

-- those from this number on are that one and the rest
paired_from : (ps : List Pt) (hs : List Height) (number : ℕ) → length hs ≡ length ps → number < length ps
    → drop number (points_with_heights ps hs) ≡ position_at ps hs number ∷ drop (suc number) (points_with_heights ps hs)
paired_from [] hs number same within = absurd (omega (arith, within))
paired_from (p ∷ ps) [] number same within = absurd (omega (arith, same))
paired_from (p ∷ ps) (h ∷ hs) zero same within = refl
paired_from (p ∷ ps) (h ∷ hs) (suc number) same within =
    paired_from ps hs number (omega (arith, same)) (omega (arith, within))

-- and so are some of them
pub paired_more : (ps : List Pt) (hs : List Height) (number past : ℕ) → length hs ≡ length ps → number < past
    → past ≤ length ps
    → take (past - number) (drop number (points_with_heights ps hs))
    ≡ position_at ps hs number ∷ take (past - (number + 1)) (drop (number + 1) (points_with_heights ps hs))
paired_more ps hs number past same below within =
    let count : past - number ≡ suc (past - (number + 1)) = omega (arith, below) in
    let next : suc number ≡ number + 1 = omega arith in
    ap (λ (n : ℕ). take n (drop number (points_with_heights ps hs))) count
    ∙ ap (λ (xs : List Position). take (suc (past - (number + 1))) xs)
    (paired_from ps hs number same (omega (arith, below, within)))
    ∙ ap (λ (n : ℕ). position_at ps hs number ∷ take (past - (number + 1)) (drop n (points_with_heights ps hs))) next

below_or : (m n : ℕ) → (m ≤ n) ⊎ (n ≤ m)
below_or m n = grind arith

pub paired_few : (ps : List Pt) (hs : List Height) → length (points_with_heights ps hs) ≤ length ps
paired_few (p ∷ ps) (h ∷ hs) = let few = paired_few ps hs in omega (arith, few)
paired_few ps hs = omega arith

-- an end past the last one is the last one
pub paired_upto : (ps : List Pt) (hs : List Height) (first past : ℕ)
    → take (min past (length ps) - first) (drop first (points_with_heights ps hs)) ≡ take (past - first) (drop first (points_with_heights ps hs))
paired_upto ps hs first past = by (below_or past (length ps))
  where
    size : length (drop first (points_with_heights ps hs)) ≤ length ps - first
    size = let a = length-drop first (points_with_heights ps hs) in let b = paired_few ps hs in omega (arith, a, b)

    by : (past ≤ length ps) ⊎ (length ps ≤ past)
        → take (min past (length ps) - first) (drop first (points_with_heights ps hs))
        ≡ take (past - first) (drop first (points_with_heights ps hs))
    by (inl upto) =
        let e : min past (length ps) - first ≡ past - first = omega (arith, upto) in
        ap (λ (n : ℕ). take n (drop first (points_with_heights ps hs))) e
    by (inr behind) =
        take_all (min past (length ps) - first) (drop first (points_with_heights ps hs)) (omega (arith, size, behind))
        ∙ sym (take_all (past - first) (drop first (points_with_heights ps hs)) (omega (arith, size, behind)))

-- ---- their texts
module _ (separator : List ℕ) (text : Position → List ℕ) (ps : List Pt) (hs : List Height) where
  -- those from one number to before another
  abbrev pub texts_from : ℕ → ℕ → List ℕ
  texts_from number past = texts_behind separator text (take (past - number) (drop number (points_with_heights ps hs)))

  -- one more after a separator
  pub one_behind : (number past : ℕ) (out now then all : List ℕ) → length hs ≡ length ps → number < past
      → past ≤ length ps → out ++ texts_from number past ≡ all → now ≡ out ++ separator
      → then ≡ now ++ text (position_at ps hs number) → then ++ texts_from (number + 1) past ≡ all
  one_behind number past out now then all same below within is first second =
      let image = text (position_at ps hs number) in
      let rest = texts_from (number + 1) past in
      ap (λ (xs : List ℕ). xs ++ rest) (second ∙ ap (λ (xs : List ℕ). xs ++ image) first)
      ∙ append_assoc (out ++ separator) image rest ∙ append_assoc out separator (image ++ rest)
      ∙ ap (λ (xs : List Position). out ++ texts_behind separator text xs)
      (sym (paired_more ps hs number past same below within))
      ∙ is

  -- a list of them is the first, and the others after it
  pub list_is : (first past : ℕ) (out now then : List ℕ) (of : List Position) → length hs ≡ length ps → first < past
      → past ≤ length ps → take (past - first) (drop first (points_with_heights ps hs)) ≡ of
      → now ≡ out ++ text (position_at ps hs first) → then ≡ now ++ texts_from (first + 1) past
      → then ≡ out ++ list_text separator text of
  list_is first past out now then of same below within is one others =
      let image = text (position_at ps hs first) in
      others ∙ ap (λ (xs : List ℕ). xs ++ texts_from (first + 1) past) one
      ∙ append_assoc out image (texts_from (first + 1) past)
      ∙ ap (λ (xs : List Position). out ++ list_text separator text xs)
      (sym (paired_more ps hs first past same below within) ∙ is)

  -- a ring has its first one again after the others
  pub ring_is : (first past : ℕ) (out now behind then : List ℕ) (of : List Position) → length hs ≡ length ps
      → first < past → past ≤ length ps → take (past - first) (drop first (points_with_heights ps hs)) ≡ of
      → now ≡ out ++ list_text separator text of → behind ≡ now ++ separator
      → then ≡ behind ++ text (position_at ps hs first) → then ≡ out ++ ring_text separator text of
  ring_is first past out now behind then of same below within is list gap again =
      let front = position_at ps hs first in
      let more : of ≡ front ∷ take (past - (first + 1)) (drop (first + 1) (points_with_heights ps hs)) =
      sym is ∙ paired_more ps hs first past same below within in
      again ∙ ap (λ (xs : List ℕ). xs ++ text front) (gap ∙ ap (λ (xs : List ℕ). xs ++ separator) list)
      ∙ append_assoc (out ++ list_text separator text of) separator (text front)
      ∙ append_assoc out (list_text separator text of) (separator ++ text front)
      ∙ ap (λ (xs : List ℕ). out ++ (list_text separator text of ++ (separator ++ xs))) (sym (append-nil (text front)))
      ∙ ap (λ (xs : List Position). out
      ++ (list_text separator text xs ++ texts_behind separator text (front ∷ []))) more
      ∙ ap (λ (xs : List Position). out ++ ring_text separator text xs) (sym more)
