-- The pieces that state the steps of a segment, one after the other.
use Rattle.std.proofs.Common.{◌≡◌, ◌≢◌, ◌⊎◌, inl, inr, ℕ, zero, suc, ◌+◌, ◌-◌, ◌<◌, ◌≤◌, pos, ◌<ℤ◌, List, [], ◌∷◌, ◌++◌}
use Rattle.std.proofs.Common.{map, take, length, get_or, append_assoc, ap, refl, sym, ◌∙◌, subst, arith}
use Rattle.std.proofs.lemmas.List.{take_more, take_all, append-nil, length_push, length-append}
use Rattle.std.proofs.Math.ListN.{length-map}
use Rattle.std.proofs.lemmas.Int.{ints}
use Rattle.plane_base.specs.Plane.{Same, whole}
use Rattle.plane_base.specs.declared.shapes.Pt.{Pt}
use Rattle.plane_base.proofs.MixLaws.Mixes.{same_refl, same_sym, same_trans}
use Rattle.tin_base.specs.declared.pieces.Piece.{Piece}
use Rattle.tin_base.specs.declared.pieces.Place.{Place}
use Rattle.tin_base.specs.Triangulation.{Triangulation}
use Rattle.tin_base.specs.Limits.{IsWithinLimits}
use Rattle.tin_base.specs.Soundness.{IsSound}
use Rattle.tin_base.specs.Segments.{Part, part_at, no_part, spot_at, IsInside, ArePiecesAt, ArePiecesOf}
use Rattle.affine_image.specs.RoundedImages.{IsRoundedImage, IsRoundedImageAt}
use Rattle.affine_image.proofs.PlaceImages.{rounded_moved}
use Rattle.sheet_pieces.specs.SheetPieces.{AreTold}
use Rattle.tin_base.proofs.SegmentSpots.Spots.{spot-w, spot_of_point}
use Rattle.sheet_pieces.proofs.PartSequences.{same_or, AreInLine, in_line}
use Rattle.sheet_pieces.proofs.PieceParts.{place_on, told_more, told_length}
use Rattle.seg_walk.specs.declared.steps.Step.{Step}
use Rattle.tin_base.specs.Slices.{spot_of, IsSliceIn}
use Rattle.seg_walk.specs.Steps.{part_of, point_of, HaveSlices, AreSteps}
use Rattle.tin_base.proofs.SegmentSpots.SlicedParts.{params, HasParams}
use Rattle.tin_base.proofs.SegmentSpots.Params.{spot_some}
use Rattle.carry_map.specs.CarriedLists.{AreSegmentTold}
use Rattle.carry_map.specs.Causes.{IsWayTooMany}
use Rattle.carry_map.specs.declared.segments.PathSegment.{PathSegment}

-- ---- the parts that steps state
abbrev pub told_by : {a b : Pt} → (a ≡ b) ⊎ (a ≢ b) → Step → Part
told_by (inl e) step = point_of step
told_by (inr n) step = part_of step

abbrev pub parts_of : Pt → Pt → List Step → List Part
parts_of a b steps = map (told_by (same_or a b)) steps

are_parts : (tin : Triangulation) (a b : Pt) (steps : List Step) → AreSteps tin a b steps
    → ArePiecesOf tin a b (parts_of a b steps)
are_parts tin a b steps are = subst (λ (parts : List Part). ArePiecesOf tin a b parts) (go (same_or a b)) are.pieces
  where
    go : (which : (a ≡ b) ⊎ (a ≢ b)) → are.parts ≡ map (told_by which) steps
    go (inl e) = are.of_point e
    go (inr n) = are.of_segment n

-- ---- the step of a number
abbrev pub IsStepAt : List Step → ℕ → Step → Type 0
IsStepAt steps i step = step ≡ get_or steps i step

part_is : (f : Step → Part) (steps : List Step) (i : ℕ) (step : Step) → i < length steps → IsStepAt steps i step
    → part_at (map f steps) i ≡ f step
part_is f [] i step h e = absurd (omega arith)
part_is f (s ∷ steps) zero step h e = ap f (sym e)
part_is f (s ∷ steps) (suc i) step h e = part_is f steps i step (omega arith) e

slice_at : (tin : Triangulation) (a b : Pt) (steps : List Step) (i : ℕ) (step : Step) → HaveSlices tin a b steps
    → i < length steps → IsStepAt steps i step → IsSliceIn tin a b step.tri step.slice
slice_at tin a b [] i step have h e = absurd (omega arith)
slice_at tin a b (s ∷ steps) zero step have h e = subst (λ (x : Step). IsSliceIn tin a b x.tri x.slice) (sym e) have.0
slice_at tin a b (s ∷ steps) (suc i) step have h e = slice_at tin a b steps i step have.1 (omega arith) e

part_in_range : (tin : Triangulation) (a b : Pt) (parts : List Part) (i : ℕ) → ArePiecesOf tin a b parts
    → i < length parts → (part_at parts i).triangle < length tin.triangles
part_in_range tin a b parts i pieces h = go (same_or a b)
  where
    at_point : (ps : List Part) (j : ℕ) → ArePiecesAt tin a ps → j < length ps
        → (part_at ps j).triangle < length tin.triangles
    at_point [] j are h = absurd (omega arith)
    at_point (p ∷ []) zero are h = are.0
    at_point (p ∷ []) (suc j) are h = absurd (omega arith)
    at_point (p ∷ q ∷ ps) j are h = absurd are

    go : (a ≡ b) ⊎ (a ≢ b) → (part_at parts i).triangle < length tin.triangles
    go (inl e) = at_point parts i (pieces.0 e) h
    go (inr n) = let way = pieces.1 n in let part = way.part i h in part.in_range

ends_by : (a b : Pt) (which : (a ≡ b) ⊎ (a ≢ b)) (step : Step)
    → Same (spot_at a b (told_by which step).last) (spot_at a b (spot_of step.slice.hi))
ends_by a b (inl e) step =
    let last = (point_of step).last in let hi = spot_of step.slice.hi in
    subst (λ (q : Pt). Same (spot_at a q last) (spot_at a q hi)) e
    (same_trans (spot_at a a last) (whole a) (spot_at a a hi) (omega (arith, ints)) (spot_of_point a last)
    (same_sym (spot_at a a hi) (whole a) (spot_of_point a hi)))
ends_by a b (inr n) step = same_refl (spot_at a b (spot_of step.slice.hi))

triangle_by : (a b : Pt) (which : (a ≡ b) ⊎ (a ≢ b)) (step : Step) → (told_by which step).triangle ≡ step.tri
triangle_by a b (inl e) step = refl
triangle_by a b (inr n) step = refl

-- what is known of it
pub record IsStepTold (tin : Triangulation) (a b : Pt) (steps : List Step) (i : ℕ) (step : Step) : Type 0 where
  pub in_range : step.tri < length tin.triangles
  pub slice : IsSliceIn tin a b step.tri step.slice
  pub triangle : step.tri ≡ (part_at (parts_of a b steps) i).triangle
  pub ends : Same (spot_at a b (part_at (parts_of a b steps) i).last) (spot_at a b (spot_of step.slice.hi))
  pub end-w : pos 0 <ℤ (spot_at a b (spot_of step.slice.hi)).w

pub part_count : (a b : Pt) (steps : List Step) → length (parts_of a b steps) ≡ length steps
part_count a b steps = length-map steps (told_by (same_or a b))

pub step_told : (tin : Triangulation) (a b : Pt) (steps : List Step) (i : ℕ) (step : Step) → IsWithinLimits tin
    → AreSteps tin a b steps → i < length steps → IsStepAt steps i step → IsStepTold tin a b steps i step
step_told tin a b steps i step limits are h e = by (part_is (told_by (same_or a b)) steps i step h e)
  where
    by : part_at (parts_of a b steps) i ≡ told_by (same_or a b) step → IsStepTold tin a b steps i step
    by is =
        let slice = slice_at tin a b steps i step are.slices h e in
        let triangle : step.tri ≡ (part_at (parts_of a b steps) i).triangle =
        sym (ap (λ (p : Part). p.triangle) is ∙ triangle_by a b (same_or a b) step) in
        let in_range = subst (λ (t : ℕ). t < length tin.triangles) (sym triangle)
        (part_in_range tin a b (parts_of a b steps) i (are_parts tin a b steps are)
        (subst (λ (n : ℕ). i < n) (sym (part_count a b steps)) h)) in
        let ends : HasParams step.slice = params tin a b step.tri step.slice limits in_range slice in
        record {
          in_range = in_range;
          slice = slice;
          triangle = triangle;
          ends = subst (λ (p : Part). Same (spot_at a b p.last) (spot_at a b (spot_of step.slice.hi))) (sym is)
              (ends_by a b (same_or a b) step);
          end-w = spot-w a b (spot_of step.slice.hi) (spot_some step.slice.hi ends.hi);
        }

-- ---- the image with which the next piece begins
pub record IsImageBefore (tin : Triangulation) (a b : Pt) (parts : List Part) (i : ℕ) (image : Pt) : Type 0 where
  pub begins : i < length parts → IsRoundedImageAt tin (spot_at a b (part_at parts i).first) image
  pub ends : i ≡ length parts → IsRoundedImage tin b image

before_first : (tin : Triangulation) (a b : Pt) (parts : List Part) (image : Pt) → AreInLine a b parts
    → IsRoundedImage tin a image → IsImageBefore tin a b parts 0 image
before_first tin a b parts image line is = record {
  begins = λ h. rounded_moved tin (whole a) (spot_at a b (part_at parts 0).first) image (omega (arith, ints))
      line.begins is;
  ends = λ e. let some = line.some in absurd (none (length parts) e some);
}
  where
    none : (n : ℕ) → 0 ≡ n → 0 < n → ⊥
    none n e h = omega arith

before_next : (tin : Triangulation) (a b : Pt) (parts : List Part) (i : ℕ) (image : Pt) → AreInLine a b parts
    → i < length parts → IsRoundedImageAt tin (spot_at a b (part_at parts i).last) image
    → IsImageBefore tin a b parts (i + 1) image
before_next tin a b parts i image line h is = record {
  begins = λ more. rounded_moved tin (spot_at a b (part_at parts i).last) (spot_at a b (part_at parts (i + 1)).first)
      image (line.last-w i h) (same_sym (spot_at a b (part_at parts i).last) (spot_at a b (part_at parts (i + 1)).first)
      (line.joined i more)) is;
  ends = λ last. rounded_moved tin (spot_at a b (part_at parts i).last) (whole b) image (line.last-w i h)
      (same_sym (spot_at a b (part_at parts i).last) (whole b) (line.ends i last)) is;
}

-- ---- the pieces so far
pub record AreToldSoFar (tin : Triangulation) (a b : Pt) (from : Place) (steps : List Step) (i : ℕ) (image : Pt)
    (before after : List Piece) : Type 0 where
  pub own : List Piece
  pub are : after ≡ before ++ own
  pub count : length own ≡ i
  pub told : AreTold tin a b from (take i (parts_of a b steps)) own
  pub next : IsImageBefore tin a b (parts_of a b steps) i image

pub told_none : (tin : Triangulation) (a b : Pt) (from : Place) (steps : List Step) (image : Pt) (before : List Piece)
    → IsSound tin → IsInside tin a b → AreSteps tin a b steps → IsRoundedImage tin a image
    → AreToldSoFar tin a b from steps 0 image before before
told_none tin a b from steps image before sound inside are is = record {
  own = [];
  are = sym (append-nil before);
  count = refl;
  told = tt;
  next = before_first tin a b (parts_of a b steps) image
      (in_line tin a b (parts_of a b steps) sound inside (are_parts tin a b steps are)) is;
}

-- the piece of a step
abbrev pub piece_of : Pt → Pt → Place → ℕ → ℕ → Pt → Pt → Piece
piece_of a b from i t first last = record {
  a = a;
  b = b;
  tri = t;
  ia = first;
  ib = last;
  from =
      record { layer = from.layer; path = from.path; segment = from.segment; piece = i };
}

pub told_next : (tin : Triangulation) (a b : Pt) (from : Place) (steps : List Step) (i : ℕ) (step : Step)
    (first last : Pt) (before after after' : List Piece) → IsWithinLimits tin → IsSound tin → IsInside tin a b
    → AreSteps tin a b steps → from.piece ≡ 0 → i < length steps → IsStepAt steps i step
    → IsRoundedImageAt tin (spot_at a b (spot_of step.slice.hi)) last
    → AreToldSoFar tin a b from steps i first before after
    → after' ≡ after ++ piece_of a b from i step.tri first last ∷ []
    → AreToldSoFar tin a b from steps (i + 1) last before after'
told_next tin a b from steps i step first last before after after' limits sound inside are zeroth h e is so_far new =
    go (step_told tin a b steps i step limits are h e)
  where
    here : i < length (parts_of a b steps)
    here = subst (λ (n : ℕ). i < n) (sym (part_count a b steps)) h

    more : take (i + 1) (parts_of a b steps) ≡ take i (parts_of a b steps) ++ part_at (parts_of a b steps) i ∷ []
    more = take_more (parts_of a b steps) i no_part here

    taken : length (take i (parts_of a b steps)) ≡ i
    taken = sym (told_length tin a b from (take i (parts_of a b steps)) so_far.own so_far.told) ∙ so_far.count

    place_is : record { layer = from.layer; path = from.path; segment = from.segment; piece = i }
        ≡ place_on from (length (take i (parts_of a b steps)))
    place_is = ap (λ (n : ℕ). record { layer = from.layer; path = from.path; segment = from.segment; piece = n })
        (numbered from.piece (length (take i (parts_of a b steps))) zeroth taken)
      where
        numbered : (k n : ℕ) → k ≡ 0 → n ≡ i → i ≡ k + n
        numbered k n e f = omega arith

    go : IsStepTold tin a b steps i step → AreToldSoFar tin a b from steps (i + 1) last before after'
    go known =
        let piece = piece_of a b from i step.tri first last in
        let part = part_at (parts_of a b steps) i in
        let next = so_far.next in
        let end = rounded_moved tin (spot_at a b (spot_of step.slice.hi)) (spot_at a b part.last) last known.end-w
        known.ends is in
        record {
          own = so_far.own ++ piece ∷ [];
          are = new ∙ ap (λ (ps : List Piece). ps ++ piece ∷ []) so_far.are
              ∙ append_assoc before so_far.own (piece ∷ []);
          count = length_push so_far.own piece ∙ ap (λ (n : ℕ). n + 1) so_far.count;
          told = subst (λ (ps : List Part). AreTold tin a b from ps (so_far.own ++ piece ∷ [])) (sym more)
              (told_more tin a b from (take i (parts_of a b steps)) so_far.own part piece so_far.told
              (record {
                begins = refl;
                ends = refl;
                triangle = known.triangle;
                first_image =
                    next.begins here;
                last_image = end;
                place = place_is;
              }));
          next = before_next tin a b (parts_of a b steps) i last
              (in_line tin a b (parts_of a b steps) sound inside (are_parts tin a b steps are)) here end;
        }

pub told_all : (tin : Triangulation) (a b : Pt) (from : Place) (steps : List Step) (i : ℕ) (image : Pt)
    (before after : List Piece) → AreSteps tin a b steps → i ≡ length steps
    → AreToldSoFar tin a b from steps i image before after → AreSegmentTold tin a b from before after
told_all tin a b from steps i image before after are last so_far = record {
  own = so_far.own;
  are = so_far.are;
  parts = parts_of a b steps;
  cut = are_parts tin a b steps are;
  told = subst (λ (ps : List Part). AreTold tin a b from ps so_far.own)
      (take_all i (parts_of a b steps) (up_to (last ∙ sym (part_count a b steps)))) so_far.told;
}
  where
    up_to : {m n : ℕ} → m ≡ n → n ≤ m
    up_to {m = m} {n = n} e = omega arith

pub told_count : (before after own : List Piece) (k k' i n : ℕ) → after ≡ before ++ own → length own ≡ i → i ≡ n
    → k ≡ length before → k' ≡ length after → k' ≡ k + n
told_count before after own k k' i n are count last e f =
    let grown = ap (λ (ps : List Piece). length ps) are ∙ length-append before own in omega (arith, grown, count)

-- ---- how many steps there are
pub some_steps : (tin : Triangulation) (a b : Pt) (steps : List Step) → IsSound tin → IsInside tin a b
    → AreSteps tin a b steps → 0 < length steps
some_steps tin a b steps sound inside are =
    let line = in_line tin a b (parts_of a b steps) sound inside (are_parts tin a b steps are) in subst
    (λ (n : ℕ). 0 < n) (part_count a b steps) line.some

pub too_many : (tin : Triangulation) (way : PathSegment) (steps : List Step) (old most count : ℕ)
    → IsInside tin way.a way.b
    → AreSteps tin way.a way.b steps → count ≡ length steps → old ≤ most → most - old < count
    → IsWayTooMany tin way old most
too_many tin way steps old most count inside are e h more = record {
  inside = inside;
  parts = parts_of way.a way.b steps;
  cut = are_parts tin way.a way.b steps are;
  full = full (length (parts_of way.a way.b steps)) (part_count way.a way.b steps);
}
  where
    full : (n : ℕ) → n ≡ length steps → most < old + n
    full n f = omega arith
