-- Moving a list of points of the same files ends in one way.
use Rattle.std.proofs.Common.{◌≡◌, ℕ, ◌+◌, ◌<◌, List, [], ◌∷◌, length, None, Result, Ok, Err, codes, refl, sym, ◌∙◌, ap, ap₂}
use Rattle.std.proofs.Common.{subst, arith}
use Rattle.shelf_io.specs.Files.{Files, bytes_of}
use Rattle.shelf_io.specs.Load.{IsLonger}
use Rattle.sheet_base.specs.declared.flags.How.{How}
use Rattle.sheet_base.specs.declared.faults.LayerFault.{LayerFault}
use Rattle.tin_base.specs.Soundness.{IsSound}
use Rattle.tin_file.specs.Laws.{OffsetsAreOfCorners}
use Rattle.tin_file.specs.declared.tall_files.Tall.{Tall}
use Rattle.tin_height.specs.Points.{points_read}
use Rattle.tin_height.specs.PointTexts.{text_with_heights}
use Rattle.tin_height.specs.Raises.{RaisedAreOne}
use Rattle.tin_height.specs.declared.points.Points.{Points}
use Rattle.tin_height.specs.declared.raises.Raised.{Raised}
use Rattle.runs.specs.declared.loads.TheConstants.{MOST_BYTES}
use Rattle.runs.specs.declared.status.Status.{Status}
use Rattle.runs.specs.declared.status.Status.TheVariants.{Same}
use Rattle.runs.specs.declared.refusal.Refusal.{Refusal}
use Rattle.runs.specs.declared.refusal.Refusal.TheVariants.{Words, TinUnread, TinLong, Tin, Check, LayerUnread}
use Rattle.runs.specs.declared.refusal.Refusal.TheVariants.{LayersLong, Layer, Outside, TooManyPieces, TooManyChanges}
use Rattle.runs.specs.declared.refusal.Refusal.TheVariants.{TooManySides}
use Rattle.runs.specs.declared.refusal.Refusal.TheVariants.{WrittenUnread, WrittenLong, CertUnread, CertLong}
use Rattle.runs.specs.declared.refusal.Refusal.TheVariants.{Certificate, NoMemory}
use Rattle.runs.specs.Output.{name_in}
use Rattle.runs.specs.Triangulations.{HasFile}
use Rattle.runs.proofs.OneFile.{text_one, none_fine, none_long, long_fine}
use Rattle.height_mode.specs.declared.heights.HeightJob.{HeightJob}
use Rattle.height_mode.specs.Talls.{HasTall, IsTallRefused}
use Rattle.height_mode.specs.Heights.{moved_files, IsMoved, IsOutsideAt, IsHeightsRefused, AreMoved}
use Rattle.height_mode.specs.Laws.{IsHeightsEnd, HeightsAreOne}
use Rattle.height_mode.proofs.OneTall.{tall_end_one}

abbrev End : Type 0
End = Result (Status × Files) Refusal

-- what is made of a list that is moved
abbrev made_of : HeightJob → Tall → List ℕ → ℕ → ℕ → End
made_of heights tall text count inexact = Ok (Same, moved_files heights tall.tin text count inexact)

-- how the points of a list end
data IsPointsEnd (heights : HeightJob) (tall : Tall) (bytes : List ℕ) (end : End) : Type 0 where
  unread_end : (fault : LayerFault) → end ≡ Err (Layer 0 fault) → points_read heights.how bytes ≡ Err fault
      → IsPointsEnd heights tall bytes end
  outside_end : (point : ℕ) → end ≡ Err (Outside 0 point 0) → IsOutsideAt heights.how tall bytes point
      → IsPointsEnd heights tall bytes end
  moved_end : (text : List ℕ) (count inexact : ℕ) → end ≡ made_of heights tall text count inexact
      → IsMoved heights.how tall bytes text count inexact → IsPointsEnd heights tall bytes end

-- at which step it ends
data IsStepEnd (files : Files) (heights : HeightJob) (end : End) : Type 0 where
  at_tall : (refusal : Refusal) → end ≡ Err refusal → IsTallRefused files heights.how heights.tin refusal
      → IsStepEnd files heights end
  at_file : (tall : Tall) → HasTall files heights.how heights.tin tall → end ≡ Err (LayerUnread 0)
      → bytes_of files heights.points ≡ None → IsStepEnd files heights end
  at_size : (tall : Tall) → HasTall files heights.how heights.tin tall → end ≡ Err LayersLong
      → IsLonger heights.points MOST_BYTES files → IsStepEnd files heights end
  at_points : (tall : Tall) → HasTall files heights.how heights.tin tall → (bytes : List ℕ)
      → HasFile files heights.points bytes → IsPointsEnd heights tall bytes end → IsStepEnd files heights end

step_end : (files : Files) (heights : HeightJob) (end : End) → IsHeightsEnd files heights end
    → IsStepEnd files heights end
step_end files heights (Ok (status, made)) is =
    at_points is.tall is.at_hand.tall_is is.bytes is.at_hand.bytes_are
    (moved_end is.text is.count is.inexact
    (ap₂ (λ (s : Status) (m : Files). Ok (s, m)) is.status_is is.made_is) is.moved)
step_end files heights (Err TinUnread) is = at_tall TinUnread refl is
step_end files heights (Err TinLong) is = at_tall TinLong refl is
step_end files heights (Err (Tin fault)) is = at_tall (Tin fault) refl is
step_end files heights (Err (Check fault)) is = at_tall (Check fault) refl is
step_end files heights (Err (LayerUnread layer)) (first, (tall, has), none) =
    at_file tall has (ap (λ (k : ℕ). Err (LayerUnread k)) first) none
step_end files heights (Err LayersLong) ((tall, has), long) = at_size tall has refl long
step_end files heights (Err (Layer layer fault)) is =
    at_points is.tall is.at_hand.tall_is is.bytes is.at_hand.bytes_are
    (unread_end fault (ap (λ (k : ℕ). Err (Layer k fault)) is.cause.0) is.cause.1)
step_end files heights (Err (Outside layer path segment)) is =
    at_points is.tall is.at_hand.tall_is is.bytes is.at_hand.bytes_are
    (outside_end path (ap₂ (λ (k s : ℕ). Err (Outside k path s)) is.cause.0 is.cause.1) is.cause.2)
step_end files heights end is = absurd is

-- ---- the points
module _ (one : RaisedAreOne) (heights : HeightJob) (tall : Tall) (sound : IsSound tall.tin)
    (each : length tall.offsets ≡ length tall.tin.corners) (bytes : List ℕ) where
  points_same : (a b : Points) → points_read heights.how bytes ≡ Ok a → points_read heights.how bytes ≡ Ok b → a ≡ b
  points_same a b x y = let e = sym x ∙ y in cc

  moved_one : (s t : List ℕ) (m n u v : ℕ) → IsMoved heights.how tall bytes s m u → IsMoved heights.how tall bytes t n v
      → made_of heights tall s m u ≡ made_of heights tall t n v
  moved_one s t m n u v x y =
      let points : x.points ≡ y.points = points_same x.points y.points x.read y.read in
      let raised : x.raised ≡ y.raised =
      (one tall.tin tall.offsets y.points.rows sound each).raised x.raised y.raised
      (rw points at x.raised_so) y.raised_so in
      let text : s ≡ t = x.text_is ∙ (ap₂ (λ (ps : Points) (rs : List Raised). text_with_heights bytes 0 ps.rows rs) points raised
      ∙ sym y.text_is) in
      let count : m ≡ n = x.count_is ∙ (ap (λ (ps : Points). length ps.rows) points ∙ sym y.count_is) in
      let inexact : u ≡ v = x.inexact_is ∙ (ap (λ (ps : Points). ps.inexact) points ∙ sym y.inexact_is) in
      rw (text, count, inexact) refl

  outside_one : (a b : ℕ) → IsOutsideAt heights.how tall bytes a → IsOutsideAt heights.how tall bytes b → a ≡ b
  outside_one a b x y =
      let points : x.points ≡ y.points = points_same x.points y.points x.read y.read in
      (one tall.tin tall.offsets y.points.rows sound each).outside a b (rw points at x.first) y.first

  moved_or_outside : (s : List ℕ) (m u a : ℕ) → IsMoved heights.how tall bytes s m u
      → IsOutsideAt heights.how tall bytes a → ⊥
  moved_or_outside s m u a x y =
      let points : x.points ≡ y.points = points_same x.points y.points x.read y.read in
      (one tall.tin tall.offsets y.points.rows sound each).apart x.raised a (rw points at x.raised_so) y.first

  read_or_not : (fault : LayerFault) (points : Points) → points_read heights.how bytes ≡ Err fault
      → points_read heights.how bytes ≡ Ok points → ⊥
  read_or_not fault points x y = let e = sym x ∙ y in cc

  points_one : (a b : End) → IsPointsEnd heights tall bytes a → IsPointsEnd heights tall bytes b → a ≡ b
  points_one a b (unread_end fault is x) (unread_end other also y) =
      let same : fault ≡ other = (let e = sym x ∙ y in cc) in
      is ∙ (ap (λ (f : LayerFault). Err (Layer 0 f)) same ∙ sym also)
  points_one a b (unread_end fault is x) (outside_end point also y) = absurd (read_or_not fault y.points x y.read)
  points_one a b (unread_end fault is x) (moved_end text count inexact also y) =
      absurd (read_or_not fault y.points x y.read)
  points_one a b (outside_end point is x) (unread_end fault also y) = absurd (read_or_not fault x.points y x.read)
  points_one a b (outside_end point is x) (outside_end other also y) =
      is ∙ (ap (λ (k : ℕ). Err (Outside 0 k 0)) (outside_one point other x y) ∙ sym also)
  points_one a b (outside_end point is x) (moved_end text count inexact also y) =
      absurd (moved_or_outside text count inexact point y x)
  points_one a b (moved_end text count inexact is x) (unread_end fault also y) =
      absurd (read_or_not fault x.points y x.read)
  points_one a b (moved_end text count inexact is x) (outside_end point also y) =
      absurd (moved_or_outside text count inexact point x y)
  points_one a b (moved_end s m u is x) (moved_end t n v also y) = is ∙ (moved_one s t m n u v x y ∙ sym also)

-- ---- the steps
one_tall : (files : Files) (heights : HeightJob) (a b : Tall) → HasTall files heights.how heights.tin a
    → HasTall files heights.how heights.tin b → a ≡ b
one_tall files heights a b x y = let e = tall_end_one files heights.how heights.tin (Ok a) (Ok b) x y in cc

has_or_not : (files : Files) (heights : HeightJob) (tall : Tall) (refusal : Refusal)
    → HasTall files heights.how heights.tin tall → IsTallRefused files heights.how heights.tin refusal → ⊥
has_or_not files heights tall refusal x y =
    let e = tall_end_one files heights.how heights.tin (Ok tall) (Err refusal) x y in cc

steps_one : RaisedAreOne → OffsetsAreOfCorners → (files : Files) (heights : HeightJob) (a b : End)
    → IsStepEnd files heights a → IsStepEnd files heights b → a ≡ b
steps_one one each files heights a b (at_tall refusal is x) (at_tall other also y) =
    let e = tall_end_one files heights.how heights.tin (Err refusal) (Err other) x y in
    let same : refusal ≡ other = cc in
    is ∙ (ap (λ (r : Refusal). Err r) same ∙ sym also)
steps_one one each files heights a b (at_tall refusal is x) (at_file tall has also y) =
    absurd (has_or_not files heights tall refusal has x)
steps_one one each files heights a b (at_tall refusal is x) (at_size tall has also y) =
    absurd (has_or_not files heights tall refusal has x)
steps_one one each files heights a b (at_tall refusal is x) (at_points tall has bytes file y) =
    absurd (has_or_not files heights tall refusal has x)
steps_one one each files heights a b (at_file tall has is x) (at_tall refusal also y) =
    absurd (has_or_not files heights tall refusal has y)
steps_one one each files heights a b (at_file tall has is x) (at_file other has_too also y) = is ∙ sym also
steps_one one each files heights a b (at_file tall has is x) (at_size other has_too also y) =
    absurd (none_long files heights.points x y)
steps_one one each files heights a b (at_file tall has is x) (at_points other has_too bytes file y) =
    absurd (none_fine files heights.points bytes x file)
steps_one one each files heights a b (at_size tall has is x) (at_tall refusal also y) =
    absurd (has_or_not files heights tall refusal has y)
steps_one one each files heights a b (at_size tall has is x) (at_file other has_too also y) =
    absurd (none_long files heights.points y x)
steps_one one each files heights a b (at_size tall has is x) (at_size other has_too also y) = is ∙ sym also
steps_one one each files heights a b (at_size tall has is x) (at_points other has_too bytes file y) =
    absurd (long_fine files heights.points bytes x file)
steps_one one each files heights a b (at_points tall has bytes file x) (at_tall refusal also y) =
    absurd (has_or_not files heights tall refusal has y)
steps_one one each files heights a b (at_points tall has bytes file x) (at_file other has_too also y) =
    absurd (none_fine files heights.points bytes y file)
steps_one one each files heights a b (at_points tall has bytes file x) (at_size other has_too also y) =
    absurd (long_fine files heights.points bytes y file)
steps_one one each files heights a b (at_points tall has bytes file x) (at_points other has_too others found y) =
    let same : tall ≡ other = one_tall files heights tall other has has_too in
    let text : bytes ≡ others = text_one files heights.points bytes others file found in
    let (words, stored, is) = has_too in
    points_one one heights other is.sound (each heights.how words other is.read) others a b
    (subst (λ (t : Tall). IsPointsEnd heights t others a) same
    (subst (λ (t : List ℕ). IsPointsEnd heights tall t a) text x)) y

pub heights_are_one : RaisedAreOne → OffsetsAreOfCorners → HeightsAreOne
heights_are_one one each files heights end other x y =
    steps_one one each files heights end other (step_end files heights end x) (step_end files heights other y)
