-- How the points of a path turn into its images.
use Rattle.std.proofs.Common.{◌≡◌, ℕ, suc, ◌+◌, ◌≤◌, Bool, true, false, List, [], ◌∷◌, ◌++◌, length, refl, sym}
use Rattle.std.proofs.Common.{ap, ◌∙◌, subst, append_assoc, arith, length-append, codes}
use Rattle.std.specs.Prelude.{map, sum_by, if◌then◌else◌, Option, Some, None}
use Rattle.std.specs.Option.{is_some}
use Rattle.std.specs.List.{list_all, AllByRecursion}
use Rattle.std.specs.Char.{is_ascii_alphabetic}
use Rattle.std.proofs.lemmas.List.Sums.{sum_by-cons}
use Rattle.sheet_base.specs.PointHeights.{Position}
use Rattle.sheet_base.specs.declared.edits.Edit.{Edit}
use Rattle.sheet_base.specs.declared.paths.PathKind.{PathKind}
use Rattle.sheet_base.specs.declared.paths.PathKind.TheVariants.{Dot, Line, Loop}
use Rattle.sheet_base.proofs.Swaps.{Swapped, kept_swapped, edit_swapped, both_swapped}
use Rattle.sheet_base.proofs.DrawnPaths.{Drawn, IsPositionWithinReach, IsRaised, DoSuit}
use Rattle.sheet_base.proofs.ImageTexts.{ring_again}
use Rattle.text_places.specs.Blanks.{is_blank_byte}
use Rattle.wkt_layer.specs.Tokens.{Number, Token, opening, closing, comma, word, number, is_numeric}
use Rattle.wkt_layer.specs.Tokens.{token_of}
use Rattle.wkt_layer.specs.Numbers.{Point, last_number, past_of, height_in_third, position_of, IsThird}
use Rattle.wkt_layer.specs.Numbers.{lost_of}
use Rattle.wkt_layer.specs.Geometries.{third_tokens, point_tokens, behind_item, points_tokens, dot, bare, member_tokens}
use Rattle.wkt_layer.specs.Geometries.{last_behind}
use Rattle.wkt_layer.specs.Geometries.{ArePoints, IsDot, IsRing, IsMember}
use Rattle.wkt_layer.specs.Faults.{joined_points}
use Rattle.wkt_layer.specs.Paths.{Path, path_of, member_path, points_before_last, kept_of, lost_on, edit_of}
use Rattle.wkt_layer.specs.Texts.{image_text, list_text, ring_text}
use Rattle.wkt_layer.specs.declared.words.LineWord.TheVariants.{Empty}
use Rattle.wkt_layer.proofs.SheetLaws.EditOrder.{number_token}
use Rattle.wkt_layer.proofs.WrittenLayers.TokenCuts.{lexed, Clear, MayFollow, Cut, first_cut, FirstTokenCut, kept_cut, gap_lexed}
use Rattle.wkt_layer.proofs.WrittenLayers.TokenCuts.{clear_closing}
use Rattle.wkt_layer.proofs.Grammar.Rings.{ring_closes_by, ring_has_four}
use Rattle.wkt_layer.proofs.WrittenLayers.ImageTexts.{new_point, new_points, points_lexed, new_position, new_positions, new_is_point}
use Rattle.wkt_layer.proofs.WrittenLayers.ImageTexts.{new_are_points, new_loses_none, new_lose_none, new_count}
use Rattle.wkt_layer.proofs.WrittenLayers.Turns.{drawn, redrawn, IsRead, Turned, EachTurns, single, led, after_empty, any_closing}

-- ---- where points are
not_number : (at byte : ℕ) (text : List ℕ) (n : Number) → is_ascii_alphabetic byte ≡ false → is_numeric byte ≡ false
    → number n ≡ token_of at byte text → ⊥
not_number at byte text n e f is = grind (arith)

-- the bytes from this place on are blanks, some bytes from this place to that one, and a rest of these tokens; those
-- that begin a number go on another
record Spanned (at : ℕ) (bytes : List ℕ) (start past : ℕ) (others : List Token) : Type 0 where
  gap : List ℕ
  body : List ℕ
  rest : List ℕ
  split : bytes ≡ gap ++ (body ++ rest)
  blank : list_all is_blank_byte gap ≡ true
  begins : start ≡ at + length gap
  ends : past ≡ at + length gap + length body
  left : lexed past rest ≡ others
  heads : Clear bytes → (behind : List ℕ) → Clear (gap ++ behind)

number_spanned : (at : ℕ) (bytes : List ℕ) (n : Number) (others : List Token) → lexed at bytes ≡ number n ∷ others
    → Spanned at bytes n.start (n.start + length n.text) others
number_spanned at bytes n others e = go (first_cut at bytes (number n) others e)
  where
    go : Cut at bytes (number n) others → Spanned at bytes n.start (n.start + length n.text) others
    go c =
        let (begins, text) = number_token (at + length c.gap) c.byte (c.byte ∷ c.more) n (sym c.is) in
        let size = ap length text in
        let past : n.start + length n.text ≡ at + length c.gap + length (c.byte ∷ c.more) =
        omega (arith, begins, size) in
        record {
          gap = c.gap;
          body = c.byte ∷ c.more;
          rest = c.rest;
          split = c.split;
          blank = c.blank;
          begins = begins;
          ends = past;
          left = ap (λ k. lexed k c.rest) past ∙ c.left;
          heads = λ clear. by_gap c.gap (subst Clear c.split clear);
        }
      where
        by_gap : (gap : List ℕ) → Clear (gap ++ c.byte ∷ (c.more ++ c.rest)) → (behind : List ℕ) → Clear (gap ++ behind)
        by_gap [] clear behind = absurd (not_number (at + length c.gap) c.byte (c.byte ∷ c.more) n clear.letters
            clear.numbers c.is)
        by_gap (b ∷ gap) clear behind = record { letters = clear.letters; numbers = clear.numbers }

-- one span after another
then_spanned : (at mid : ℕ) (bytes : List ℕ) (start past from to : ℕ) (more others : List Token)
    (a : Spanned at bytes start past more) → Spanned past a.rest from to others → Spanned at bytes start to others
then_spanned at mid bytes start past from to more others a b =
    let size : at + length a.gap + length (a.body ++ (b.gap ++ b.body)) ≡ at + length a.gap + length a.body
    + length b.gap + length b.body =
    let e = length-append a.body (b.gap ++ b.body) in let f = length-append b.gap b.body in omega (arith, e, f) in
    record {
      gap = a.gap;
      body = a.body ++ (b.gap ++ b.body);
      rest = b.rest;
      split = a.split ∙ ap (λ xs. a.gap ++ (a.body ++ xs)) b.split ∙ simp append_assoc;
      blank = a.blank;
      begins = a.begins;
      ends = omega (arith, size, a.ends, b.ends);
      left = b.left;
      heads = a.heads;
    }

-- the third number of a point, where it has one
third_spanned : (at : ℕ) (bytes : List ℕ) (p : Point) (z : Option Number) (others : List Token) → p.z ≡ z
    → Spanned at bytes p.x.start (p.y.start + length p.y.text) (third_tokens z ++ others)
    → Spanned at bytes p.x.start (past_of p) others
third_spanned at bytes p None others is a =
    subst (λ (q : Option Number). Spanned at bytes p.x.start (past_with q) others) (sym is) a
  where
    past_with : Option Number → ℕ
    past_with q = (last_number p.y q).start + length (last_number p.y q).text
third_spanned at bytes p (Some z) others is a =
    subst (λ (q : Option Number). Spanned at bytes p.x.start (past_with q) others) (sym is)
    (then_spanned at 0 bytes p.x.start (p.y.start + length p.y.text) z.start (z.start + length z.text)
    (number z ∷ others) others a (number_spanned (p.y.start + length p.y.text) a.rest z others a.left))
  where
    past_with : Option Number → ℕ
    past_with q = (last_number p.y q).start + length (last_number p.y q).text

point_spanned : (at : ℕ) (bytes : List ℕ) (p : Point) (others : List Token) → lexed at bytes ≡ point_tokens p ++ others
    → Spanned at bytes p.x.start (past_of p) others
point_spanned at bytes p others e = go (number_spanned at bytes p.x (number p.y ∷ (third_tokens p.z ++ others)) e)
  where
    go : Spanned at bytes p.x.start (p.x.start + length p.x.text) (number p.y ∷ (third_tokens p.z ++ others))
        → Spanned at bytes p.x.start (past_of p) others
    go a = third_spanned at bytes p p.z others refl
        (then_spanned at 0 bytes p.x.start (p.x.start + length p.x.text) p.y.start (p.y.start + length p.y.text)
        (number p.y ∷ (third_tokens p.z ++ others)) (third_tokens p.z ++ others) a
        (number_spanned (p.x.start + length p.x.text) a.rest p.y (third_tokens p.z ++ others) a.left))

abbrev past_points : Point → List Point → ℕ
past_points first more = past_of (last_behind first more)

points_spanned : (at : ℕ) (bytes : List ℕ) (first : Point) (more : List Point) (others : List Token)
    → lexed at bytes ≡ joined_points first more ++ others
    → Spanned at bytes first.x.start (past_points first more) others
points_spanned at bytes first [] others e = point_spanned at bytes first others e
points_spanned at bytes first (next ∷ more) others e =
    go (point_spanned at bytes first (comma ∷ (joined_points next more ++ others))
    (e ∙ append_assoc (point_tokens first) (comma ∷ joined_points next more) others))
    (λ place xs f. points_spanned place xs next more others f)
  where
    go : Spanned at bytes first.x.start (past_of first)
        (comma ∷ (joined_points next more ++ others))
        → ((place : ℕ) (xs : List ℕ) → lexed place xs ≡ joined_points next more ++ others
        → Spanned place xs next.x.start (past_points next more) others)
        → Spanned at bytes first.x.start (past_points next more) others
    go a later =
        let past = past_of first in
        on (kept_cut past a.rest comma (joined_points next more ++ others) tt a.left)
      where
        on : FirstTokenCut (past_of first) a.rest comma (joined_points next more ++ others)
            → Spanned at bytes first.x.start (past_points next more) others
        on k =
            let past = past_of first in
            let b = later (past + length k.piece) k.rest k.left in
            let size : at + length a.gap + length (a.body ++ (k.piece ++ (b.gap ++ b.body))) ≡ at + length a.gap
            + length a.body + length k.piece + length b.gap + length b.body =
            let e = length-append a.body (k.piece ++ (b.gap ++ b.body)) in let f =
            length-append k.piece (b.gap ++ b.body) in let g =
            length-append b.gap b.body in omega (arith, e, f, g) in
            record {
              gap = a.gap;
              body = a.body ++ (k.piece ++ (b.gap ++ b.body));
              rest = b.rest;
              split = a.split ∙ ap (λ xs. a.gap ++ (a.body ++ xs)) (k.split ∙ ap (λ xs. k.piece ++ xs) b.split)
                  ∙ simp append_assoc;
              blank = a.blank;
              begins = a.begins;
              ends = omega (arith, size, a.ends, b.ends);
              left = b.left;
              heads = a.heads;
            }

-- ---- points with commas between them, as the path of a kind
pub record Joined : Type 0 where
  pub first : Point
  pub more : List Point

abbrev pub joined_tokens : Joined → List Token
joined_tokens j = joined_points j.first j.more

abbrev pub joined_path : PathKind → Joined → List Path
joined_path kind j = path_of kind (j.first ∷ j.more)

abbrev pub ArePointsOf : Bool → Bool → PathKind → List Point → Type 0
ArePointsOf exact raised Dot points = IsDot exact raised points
ArePointsOf exact raised Line points = ArePoints exact raised points
ArePointsOf exact raised Loop points = IsRing exact raised points

abbrev pub IsJoined : Bool → Bool → PathKind → Joined → Type 0
IsJoined exact raised kind j = ArePointsOf exact raised kind (j.first ∷ j.more)

-- ---- the text of a path's images
abbrev pub kind_text : PathKind → List Position → List ℕ
kind_text Dot images = list_text images
kind_text Line images = list_text images
kind_text Loop images = ring_text images

-- the images after the first one; of a loop the first one is there again
abbrev closed_behind : PathKind → Position → List Position → List Position
closed_behind Dot image images = images
closed_behind Line image images = images
closed_behind Loop image images = images ++ image ∷ []

text_is : (kind : PathKind) (image : Position) (images : List Position)
    → kind_text kind (image ∷ images) ≡ list_text (image ∷ closed_behind kind image images)
text_is Loop image images = ring_again (codes ", ") image_text image images
text_is _ image images = refl

all_append : (P : Position → Type 0) (xs : List Position) (y : Position) → AllByRecursion P xs → P y
    → AllByRecursion P (xs ++ y ∷ [])
all_append P [] y all one = (one, tt)
all_append P (x ∷ xs) y all one = (all.0, all_append P xs y all.1 one)

closed_all : (P : Position → Type 0) (kind : PathKind) (image : Position) (images : List Position)
    → AllByRecursion P (image ∷ images) → AllByRecursion P (image ∷ closed_behind kind image images)
closed_all P Loop image images all = (all.0, all_append P images image all.1 all.0)
closed_all _ _ image images all = all

-- ---- what is read of it
before_last : (q : Point) (qs : List Point) (images : List Position) (z : Position)
    → map position_of (q ∷ qs) ≡ images ++ z ∷ []
    → (map position_of (points_before_last q qs) ≡ images) × (position_of (last_behind q qs) ≡ z)
before_last q [] [] z e = (refl, cc)
before_last q [] (i ∷ []) z e = cc
before_last q (n ∷ qs) (i ∷ images) z e = grind (arith, (before_last n qs images z))
before_last q qs images z e = cc

-- these points are read where a path's images were written
record AreReadOf (exact raised : Bool) (kind : PathKind) (images : List Position) (q : Point) (qs : List Point) : Type 0
  where
    good : ArePointsOf exact raised kind (q ∷ qs)
    drawn_are : (let one : Path = record { kind = kind; first = q; more = qs } in let is : Drawn =
        record { kind = kind; positions = images } in drawn one ≡ is)

are_read : (exact raised : Bool) (kind : PathKind) (image : Position) (images : List Position) (q : Point)
    (qs : List Point)
    → ArePoints exact raised (q ∷ qs)
    → map position_of (q ∷ qs) ≡ image ∷ closed_behind kind image images
    → length qs ≡ length (closed_behind kind image images)
    → (kind ≡ Dot → length (image ∷ images) ≡ 1) → (kind ≡ Loop → 3 ≤ length (image ∷ images))
    → AreReadOf exact raised kind (image ∷ images) q qs
are_read exact raised Dot image images q qs points places size one many = record {
  good = (points, let e = one refl in omega (arith, e, size));
  drawn_are = ap (λ ps. let is : Drawn = record { kind = Dot; positions = ps } in is) places;
}
are_read exact raised Line image images q qs points places size one many = record {
  good = points;
  drawn_are = ap (λ ps. let is : Drawn = record { kind = Line; positions = ps } in is) places;
}
are_read exact raised Loop image images q qs points places size one many =
    let (front, last) = before_last q qs (image ∷ images) image places in
    let first : position_of q ≡ image = cc in
    record {
      good = (
        points,
        ring_closes_by q qs (let e = many refl in let f =
            length-append images (image ∷ []) in omega (arith, e, f, size)) (last ∙ sym first),
      );
      drawn_are = ap (λ ps. let is : Drawn = record { kind = Loop; positions = ps } in is) front;
    }

-- ---- a path's points turn into its images
-- what is in place of an edit's bytes, where the images of the path of each number are given
abbrev pub DoesSay : (Edit → List ℕ) → (ℕ → List Position) → Type 0
DoesSay text images = (number : ℕ) (path : Path) → text (edit_of number path) ≡ kind_text path.kind (images number)

-- a ring has four points, and so keeps three
ring_keeps : (exact raised : Bool) (kind : PathKind) (first : Point) (more : List Point)
    → ArePointsOf exact raised kind (first ∷ more) → kind ≡ Loop
    → (let path : Path = record { kind = kind; first = first; more = more } in 3 ≤ length (drawn path).positions)
ring_keeps exact raised Dot first more good is = cc
ring_keeps exact raised Line first more good is = cc
ring_keeps exact raised Loop first more good is = let few = ring_has_four first more good.1 in let e =
    kept_count first more in omega (arith, few, e)
  where
    kept_count : (p : Point) (ps : List Point) → length (map position_of (points_before_last p ps)) ≡ length ps
    kept_count p [] = refl
    kept_count p (next ∷ ps) = let e = kept_count next ps in ap suc e

-- the points of a geometry with Z have heights, and those of another one none
third_raised : (exact raised : Bool) (z : Option Number) → IsThird exact raised z
    → is_some (height_in_third z) ≡ raised
third_raised exact true None is = absurd is
third_raised exact false (Some z) is = absurd is
third_raised exact raised z is = refl

points_raised : (exact raised : Bool) (points : List Point) → ArePoints exact raised points
    → AllByRecursion (IsRaised raised) (map position_of points)
points_raised exact raised [] are = tt
points_raised exact raised (p ∷ points) are =
    (third_raised exact raised p.z are.0.2, points_raised exact raised points are.1)

before_raised : (exact raised : Bool) (p : Point) (points : List Point) → ArePoints exact raised (p ∷ points)
    → ArePoints exact raised (points_before_last p points)
before_raised exact raised p [] are = tt
before_raised exact raised p (next ∷ points) are = (are.0, before_raised exact raised next points are.1)

path_raised : (exact raised : Bool) (kind : PathKind) (first : Point) (more : List Point)
    → ArePointsOf exact raised kind (first ∷ more)
    → AllByRecursion (IsRaised raised) (map position_of (kept_of kind first more))
path_raised exact raised Dot first more good = points_raised exact raised (first ∷ more) good.0
path_raised exact raised Line first more good = points_raised exact raised (first ∷ more) good
path_raised exact raised Loop first more good =
    points_raised exact raised (points_before_last first more) (before_raised exact raised first more good.0)

images_read : (exact raised : Bool) (kind : PathKind) (path : Path) → path.kind ≡ kind
    → (kind ≡ Loop → 3 ≤ length (drawn path).positions) → AllByRecursion (IsRaised raised) (drawn path).positions
    → (images : List Position) → DoSuit (drawn path) images
    → (from : ℕ) (behind : List ℕ) → Clear behind
    → (let is : Drawn = record { kind = kind; positions = images } in
    IsRead joined_tokens (joined_path kind) (IsJoined exact raised kind) (is ∷ [])
    (lexed from (kind_text kind images ++ behind)) (lexed (from + length (kind_text kind images)) behind))
images_read exact raised kind path same ring heights [] suit from behind clear = absurd (omega (arith, suit.some))
images_read exact raised kind path same ring heights (image ∷ images) suit from behind clear =
    let q = new_point from image in
    let rest = closed_behind kind image images in
    let qs = new_points (from + length (image_text image)) rest in
    let reach = closed_all IsPositionWithinReach kind image images suit.reach in
    let high = closed_all (IsRaised raised) kind image images (suit.raised raised heights) in
    let points : ArePoints exact raised (q ∷ qs) = (
      new_is_point exact raised from image high.0 reach.0,
      new_are_points exact raised (from + length (image_text image)) rest high.1 reach.1,
    ) in
    let places : map position_of (q ∷ qs) ≡ image ∷ rest =
    ap (λ p. p ∷ map position_of qs) (new_position from image reach.0)
    ∙ ap (λ ps. image ∷ ps) (new_positions (from + length (image_text image)) rest reach.1) in
    let are = are_read exact raised kind image images q qs points places
    (new_count (from + length (image_text image)) rest)
    (λ is. suit.dot (same ∙ is)) (λ is. let a = ring is in let b = suit.many in omega (arith, a, b)) in
    let one : Path = record { kind = kind; first = q; more = qs } in
    record {
      part = record { first = q; more = qs };
      is = ap (λ text. lexed from (text ++ behind)) (text_is kind image images)
          ∙ points_lexed from image rest behind reach clear.numbers
          ∙ ap (λ text. joined_points q qs ++ lexed (from + length text) behind) (sym (text_is kind image images));
      good = are.good;
      drawn_are = ap (λ d. d ∷ []) are.drawn_are;
      exact =
          let a = new_loses_none from image reach.0 in let b =
          new_lose_none (from + length (image_text image)) rest reach.1 in
          let lost : lost_on one ≡ 0 = sum_by-cons lost_of q qs ∙ omega (arith, a, b) in
          let none : sum_by lost_on [] ≡ 0 = refl in
          sum_by-cons lost_on one [] ∙ omega (arith, lost, none);
    }

joined_turned : (exact raised : Bool) (kind : PathKind) (text : Edit → List ℕ) (images : ℕ → List Position)
    → DoesSay text images
    → EachTurns joined_tokens (joined_path kind) (IsJoined exact raised kind) text images
joined_turned exact raised kind text images says part good nth at bytes others suit e =
    go (points_spanned at bytes part.first part.more others e)
  where
    go : Spanned at bytes part.first.x.start (past_points part.first part.more) others
        → Turned joined_tokens (joined_path kind) (IsJoined exact raised kind) text images part nth at bytes others
    go s =
        let one : Path = record { kind = kind; first = part.first; more = part.more } in
        let edit = edit_of nth one in
        let now = kind_text kind (images nth) in
        let size : at + length (s.gap ++ s.body) ≡ past_points part.first part.more = let f =
        length-append s.gap s.body in omega (arith, f, s.ends) in
        record {
          taken = s.gap ++ s.body;
          rest = s.rest;
          now = s.gap ++ now;
          split = s.split ∙ sym (append_assoc s.gap s.body s.rest);
          left = ap (λ n. lexed n s.rest) size ∙ s.left;
          swap = subst (λ t. Swapped text at (s.gap ++ s.body) (edit ∷ []) (s.gap ++ t)) (says nth one)
              (both_swapped text at s.gap s.body [] (edit ∷ []) s.gap (text edit) (kept_swapped text at s.gap)
              (edit_swapped text (at + length s.gap) s.body edit s.begins s.ends));
          heads = λ before behind. subst Clear (sym (append_assoc s.gap now behind)) (s.heads before (now ++ behind));
          reads = λ from behind after.
              on s.gap s.blank from behind (images_read exact raised kind one refl
              (ring_keeps exact raised kind part.first part.more good)
              (path_raised exact raised kind part.first part.more good) (images nth) suit.0 (from + length s.gap) behind
              after);
        }
      where
        on : (gap : List ℕ) → list_all is_blank_byte gap ≡ true → (from : ℕ) (behind : List ℕ)
            → IsRead joined_tokens (joined_path kind) (IsJoined exact raised kind)
            (redrawn images nth (joined_path kind part))
            (lexed (from + length gap) (kind_text kind (images nth) ++ behind))
            (lexed (from + length gap + length (kind_text kind (images nth))) behind)
            → IsRead joined_tokens (joined_path kind) (IsJoined exact raised kind)
            (redrawn images nth (joined_path kind part))
            (lexed from ((gap ++ kind_text kind (images nth)) ++ behind))
            (lexed (from + length (gap ++ kind_text kind (images nth))) behind)
        on gap blank from behind r =
            let now = kind_text kind (images nth) in
            let size : from + length gap + length now ≡ from + length (gap ++ now) = let f =
            length-append gap now in omega (arith, f) in
            record {
              part = r.part;
              is = ap (lexed from) (append_assoc gap now behind) ∙ gap_lexed from gap (now ++ behind) blank ∙ r.is
                  ∙ ap (λ n. joined_tokens r.part ++ lexed n behind) size;
              good = r.good;
              drawn_are = r.drawn_are;
              exact = r.exact;
            }

-- ---- dots, lists and rings: EMPTY, or points in brackets
record Closer : Type 0 where
  none : Unit {0}

abbrev closer_tokens : Closer → List Token
closer_tokens c = closing ∷ []

abbrev closer_paths : Closer → List Path
closer_paths c = []

abbrev IsCloser : Closer → Type 0
IsCloser c = Unit {0}

behind_joined : (first : Point) (more : List Point)
    → opening ∷ (point_tokens first ++ behind_item point_tokens more) ≡ opening
    ∷ (joined_points first more ++ closing ∷ [])
behind_joined first more = ap (λ ts. opening ∷ ts) (go first more)
  where
    go : (first : Point) (more : List Point) → point_tokens first ++ behind_item point_tokens more
        ≡ joined_points first more ++ closing ∷ []
    go first [] = refl
    go first (next ∷ more) = ap (λ ts. point_tokens first ++ comma ∷ ts) (go next more)
        ∙ sym (append_assoc (point_tokens first) (comma ∷ joined_points next more) (closing ∷ []))

any_opening : (bytes : List ℕ) → MayFollow opening bytes
any_opening bytes = tt

no_points_of : (exact raised : Bool) (kind : PathKind) → ArePointsOf exact raised kind []
no_points_of exact raised Dot = (tt, omega arith)
no_points_of exact raised Line = tt
no_points_of exact raised Loop = (tt, tt)

pub points_turned : (exact raised : Bool) (kind : PathKind) (text : Edit → List ℕ) (images : ℕ → List Position)
    → DoesSay text images
    → EachTurns points_tokens (path_of kind) (ArePointsOf exact raised kind) text images
points_turned exact raised kind text images says [] good nth at bytes others suit e =
    single points_tokens (path_of kind) (ArePointsOf exact raised kind) text images [] (word Empty) refl refl
    (no_points_of exact raised kind) (after_empty Empty) nth at bytes others
    (kept_cut at bytes (word Empty) others tt e)
points_turned exact raised kind text images says (first ∷ more) good nth at bytes others suit e =
    go (kept_cut at bytes opening (joined_points first more ++ closing ∷ others) tt
    (e ∙ ap (λ ts. ts ++ others) (behind_joined first more)
    ∙ ap (λ ts. opening ∷ ts) (append_assoc (joined_points first more) (closing ∷ []) others)))
  where
    go : FirstTokenCut at bytes opening (joined_points first more ++ closing ∷ others)
        → Turned points_tokens (path_of kind) (ArePointsOf exact raised kind) text images (first ∷ more) nth at bytes
        others
    go k =
        let j : Joined = record { first = first; more = more } in
        let c : Closer = record { none = tt } in
        let a = joined_turned exact raised kind text images says j good nth (at + length k.piece) k.rest
        (closing ∷ others)
        suit k.left in
        led joined_tokens (joined_path kind) (IsJoined exact raised kind) closer_tokens closer_paths IsCloser
        points_tokens
        (path_of kind) (ArePointsOf exact raised kind) text images (λ j c. j.first ∷ j.more) opening
        (λ j c. behind_joined j.first j.more) (λ j c. refl) (λ j c is _. is) any_opening j c nth at bytes others k a
        (clear_closing (at + length k.piece + length a.taken) a.rest others a.left)
        (single closer_tokens closer_paths IsCloser text images c closing refl refl tt any_closing (nth + 1)
        (at + length k.piece + length a.taken) a.rest others
        (kept_cut (at + length k.piece + length a.taken) a.rest closing others tt a.left))

-- ---- members of a multipoint
pub member_turned : (exact raised : Bool) (text : Edit → List ℕ) (images : ℕ → List Position) → DoesSay text images
    → EachTurns member_tokens member_path (IsMember exact raised) text images
member_turned exact raised text images says (dot points) good nth at bytes others suit e =
    go (points_turned exact raised Dot text images says points good nth at bytes others suit e)
  where
    go : Turned points_tokens (path_of Dot) (ArePointsOf exact raised Dot) text images points nth at bytes others
        → Turned member_tokens member_path (IsMember exact raised) text images (dot points) nth at bytes others
    go t = record {
      taken = t.taken;
      rest = t.rest;
      now = t.now;
      split = t.split;
      left = t.left;
      swap = t.swap;
      heads = t.heads;
      reads = λ from behind after. on from behind (t.reads from behind after);
    }
      where
        on : (from : ℕ) (behind : List ℕ) → IsRead points_tokens (path_of Dot) (ArePointsOf exact raised Dot)
            (redrawn images nth (path_of Dot points)) (lexed from (t.now ++ behind))
            (lexed (from + length t.now) behind)
            → IsRead member_tokens member_path (IsMember exact raised) (redrawn images nth (path_of Dot points))
            (lexed from (t.now ++ behind)) (lexed (from + length t.now) behind)
        on from behind r = record {
          part = dot r.part;
          is = r.is;
          good = r.good;
          drawn_are = r.drawn_are;
          exact =
              r.exact;
        }
member_turned exact raised text images says (bare p) good nth at bytes others suit e =
    go (joined_turned exact raised Dot text images says (record { first = p; more = [] }) ((good, tt), omega arith) nth
    at
    bytes others suit e)
  where
    go : (let j : Joined = record { first = p; more = [] } in Turned joined_tokens (joined_path Dot)
        (IsJoined exact raised Dot) text images j nth at bytes others)
        → Turned member_tokens member_path (IsMember exact raised) text images (bare p) nth at bytes others
    go t = record {
      taken = t.taken;
      rest = t.rest;
      now = t.now;
      split = t.split;
      left = t.left;
      swap = t.swap;
      heads = t.heads;
      reads = λ from behind after. on from behind (t.reads from behind after);
    }
      where
        on : (from : ℕ) (behind : List ℕ) → IsRead joined_tokens (joined_path Dot) (IsJoined exact raised Dot)
            (redrawn images nth (path_of Dot (p ∷ []))) (lexed from (t.now ++ behind))
            (lexed (from + length t.now) behind)
            → IsRead member_tokens member_path (IsMember exact raised) (redrawn images nth (path_of Dot (p ∷ [])))
            (lexed from (t.now ++ behind)) (lexed (from + length t.now) behind)
        on from behind r = by_more r.part.first r.part.more r.is r.good r.drawn_are r.exact
          where
            by_more : (q : Point) (qs : List Point)
                → lexed from (t.now ++ behind) ≡ joined_points q qs ++ lexed (from + length t.now) behind
                → ArePointsOf exact raised Dot (q ∷ qs)
                → map drawn (path_of Dot (q ∷ qs)) ≡ redrawn images nth (path_of Dot (p ∷ []))
                → sum_by lost_on (path_of Dot (q ∷ qs)) ≡ 0
                → IsRead member_tokens member_path (IsMember exact raised) (redrawn images nth (path_of Dot (p ∷ [])))
                (lexed from (t.now ++ behind)) (lexed (from + length t.now) behind)
            by_more q [] is good are none = record {
              part = bare q;
              is = is;
              good = good.0.0;
              drawn_are = are;
              exact =
                  none;
            }
            by_more q (next ∷ qs) is good are none = absurd (omega (arith, good.1))
