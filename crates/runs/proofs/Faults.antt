-- The statuses of the faults of a triangulation and of a layer.
use Rattle.std.proofs.Common.{◌≡◌, ◌≢◌, ◌⊎◌, inl, inr, refl}
use Rattle.sheet_base.specs.declared.faults.LayerFault.{LayerFault}
use Rattle.sheet_base.specs.declared.faults.LayerFault.TheVariants as layers
use Rattle.tin_check.specs.declared.faults.CheckFault.{CheckFault}
use Rattle.tin_check.specs.declared.faults.CheckFault.TheVariants.{Flat, TurnsOver, Meets, NoMemory as CheckMemory}
use Rattle.tin_file.specs.declared.faults.TinFault.{TinFault}
use Rattle.tin_file.specs.declared.faults.TinFault.TheVariants.{Json, Deep, Key, Version, Fallback, NoHorizontal, NoVertical, Offset}
use Rattle.tin_file.specs.declared.faults.TinFault.TheVariants.{TooMany, Row, Number, Inexact, Index, Span, NoMemory}
use Rattle.runs.specs.declared.status.Status.{Status}
use Rattle.runs.specs.declared.status.Status.TheVariants.{Tin as TinStatus, Layer as LayerStatus, Read, Write, Memory}
use Rattle.runs.specs.declared.status.Status.TheVariants.{Limit, Words as WordsStatus}
use Rattle.runs.specs.Refusals.{status_of_tin, status_of_check, status_of_layer}

-- the statuses of a triangulation that is refused
pub data IsOfTin (status : Status) : Type 0 where
  refused_tin : status ≡ TinStatus → IsOfTin status
  limited_tin : status ≡ Limit → IsOfTin status
  tin_without_room : status ≡ Memory → IsOfTin status

pub of_text : (fault : TinFault) → IsOfTin (status_of_tin fault)
of_text (Json at) = refused_tin refl
of_text (Deep at) = refused_tin refl
of_text (Key which) = refused_tin refl
of_text Version = refused_tin refl
of_text (Fallback which) = refused_tin refl
of_text NoHorizontal = refused_tin refl
of_text NoVertical = refused_tin refl
of_text (Offset row) = refused_tin refl
of_text (TooMany list) = limited_tin refl
of_text (Row list row) = refused_tin refl
of_text (Number row fault) = refused_tin refl
of_text (Inexact row) = refused_tin refl
of_text (Index triangle) = refused_tin refl
of_text (Span frame axis) = refused_tin refl
of_text NoMemory = tin_without_room refl

pub of_check : (fault : CheckFault) → IsOfTin (status_of_check fault)
of_check (Flat triangle frame) = refused_tin refl
of_check (TurnsOver triangle) = refused_tin refl
of_check (Meets first second frame) = refused_tin refl
of_check CheckMemory = tin_without_room refl

pub not_write : (status : Status) → IsOfTin status → status ≢ Write
not_write status (refused_tin is) = rw is (λ e. cc)
not_write status (limited_tin is) = rw is (λ e. cc)
not_write status (tin_without_room is) = rw is (λ e. cc)

pub tin_understood : (status : Status) → IsOfTin status → status ≢ WordsStatus
tin_understood status (refused_tin is) = rw is (λ e. cc)
tin_understood status (limited_tin is) = rw is (λ e. cc)
tin_understood status (tin_without_room is) = rw is (λ e. cc)

pub not_read : (status : Status) → IsOfTin status → status ≢ Read
not_read status (refused_tin is) = rw is (λ e. cc)
not_read status (limited_tin is) = rw is (λ e. cc)
not_read status (tin_without_room is) = rw is (λ e. cc)

-- out of memory, or a fault of the text
pub want_or_fault : (fault : TinFault) → (status_of_tin fault ≡ Memory) ⊎ (fault ≢ NoMemory)
want_or_fault (Json at) = inr (λ e. cc)
want_or_fault (Deep at) = inr (λ e. cc)
want_or_fault (Key which) = inr (λ e. cc)
want_or_fault Version = inr (λ e. cc)
want_or_fault (Fallback which) = inr (λ e. cc)
want_or_fault NoHorizontal = inr (λ e. cc)
want_or_fault NoVertical = inr (λ e. cc)
want_or_fault (Offset row) = inr (λ e. cc)
want_or_fault (TooMany list) = inr (λ e. cc)
want_or_fault (Row list row) = inr (λ e. cc)
want_or_fault (Number row fault) = inr (λ e. cc)
want_or_fault (Inexact row) = inr (λ e. cc)
want_or_fault (Index triangle) = inr (λ e. cc)
want_or_fault (Span frame axis) = inr (λ e. cc)
want_or_fault NoMemory = inl refl

-- the statuses of a layer that is not read
pub data IsOfLayer (status : Status) : Type 0 where
  unread_layer : status ≡ LayerStatus → IsOfLayer status
  layer_without_room : status ≡ Memory → IsOfLayer status

pub of_layer : (fault : LayerFault) → IsOfLayer (status_of_layer fault)
of_layer (layers.Bad at) = unread_layer refl
of_layer (layers.Deep at) = unread_layer refl
of_layer (layers.Repeat at) = unread_layer refl
of_layer (layers.Shape at) = unread_layer refl
of_layer (layers.Kind at) = unread_layer refl
of_layer (layers.Height at) = unread_layer refl
of_layer (layers.Inexact at) = unread_layer refl
of_layer (layers.Ring at) = unread_layer refl
of_layer (layers.Number at fault) = unread_layer refl
of_layer layers.Binary = unread_layer refl
of_layer layers.NoEof = unread_layer refl
of_layer (layers.Code line) = unread_layer refl
of_layer (layers.Odd line) = unread_layer refl
of_layer (layers.Entity line) = unread_layer refl
of_layer (layers.Extrusion line) = unread_layer refl
of_layer (layers.Flags line) = unread_layer refl
of_layer (layers.Count line) = unread_layer refl
of_layer (layers.Bulge line) = unread_layer refl
of_layer (layers.Width line) = unread_layer refl
of_layer (layers.Attribs line) = unread_layer refl
of_layer (layers.Seed line) = unread_layer refl
of_layer layers.NoMemory = layer_without_room refl

pub layer_not_write : (status : Status) → IsOfLayer status → status ≢ Write
layer_not_write status (unread_layer is) = rw is (λ e. cc)
layer_not_write status (layer_without_room is) = rw is (λ e. cc)

pub layer_not_read : (status : Status) → IsOfLayer status → status ≢ Read
layer_not_read status (unread_layer is) = rw is (λ e. cc)
layer_not_read status (layer_without_room is) = rw is (λ e. cc)

pub layer_understood : (status : Status) → IsOfLayer status → status ≢ WordsStatus
layer_understood status (unread_layer is) = rw is (λ e. cc)
layer_understood status (layer_without_room is) = rw is (λ e. cc)
