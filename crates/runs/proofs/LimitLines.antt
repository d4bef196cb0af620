-- Only the line of one or more files with too many bytes begins with `limit: bytes of`.
use Rattle.std.proofs.Common.{◌≡◌, ◌≢◌, ◌⊎◌, ◌<◌, inl, inr, ℕ, zero, suc, List, [], ◌∷◌, ◌++◌, length, take, get_or}
use Rattle.std.proofs.Common.{refl, sym, ◌∙◌, ap, subst, arith, codes}
use Rattle.mm_decimal.specs.declared.numerals.NumFault.{NumFault}
use Rattle.mm_decimal.specs.declared.numerals.NumFault.TheVariants.{Form, Long, Range}
use Rattle.sheet_base.specs.declared.faults.LayerFault.{LayerFault}
use Rattle.sheet_base.specs.declared.faults.LayerFault.TheVariants as layers
use Rattle.tin_base.specs.declared.frames.Frame.TheVariants.{Source, Target}
use Rattle.tin_check.specs.declared.faults.CheckFault.{CheckFault}
use Rattle.tin_check.specs.declared.faults.CheckFault.TheVariants.{Flat, TurnsOver, Meets, NoMemory as CheckMemory}
use Rattle.tin_file.specs.declared.faults.Nearest.TheVariants.{Side, Centroid}
use Rattle.tin_file.specs.declared.faults.Rows.TheVariants.{Vertices, Triangles}
use Rattle.tin_file.specs.declared.faults.TinFault.{TinFault}
use Rattle.tin_file.specs.declared.faults.TinFault.TheVariants.{Json, Deep, Key, Version, Fallback, NoHorizontal, NoVertical, Offset}
use Rattle.tin_file.specs.declared.faults.TinFault.TheVariants.{TooMany, Row, Number, Inexact, Index, Span}
use Rattle.tin_file.specs.declared.faults.TinFault.TheVariants.{NoMemory as TinMemory}
use Rattle.job_words.specs.declared.faults.Which.TheVariants.{Tin as WhichTin, Out as WhichOut, Layer as WhichLayer}
use Rattle.job_words.specs.declared.faults.Which.TheVariants.{Source as WhichSource, Written as WhichWritten}
use Rattle.job_words.specs.declared.faults.Which.TheVariants.{Certificate as WhichCertificate}
use Rattle.cert_check.specs.declared.faults.CertFault.{CertFault}
use Rattle.cert_check.specs.declared.faults.CertFault.TheVariants as certs
use Rattle.job_words.specs.declared.faults.WordsFault.{WordsFault}
use Rattle.job_words.specs.declared.faults.WordsFault.TheVariants.{NoMode, Parse, Size, Many, Name, Suffix, SameName}
use Rattle.job_words.specs.declared.faults.WordsFault.TheVariants.{NoMemory as WordsMemory}
use Rattle.runs.specs.declared.refusal.Refusal.{Refusal}
use Rattle.runs.specs.declared.refusal.Refusal.TheVariants.{Words, TinUnread, TinLong, Tin, Check, LayerUnread}
use Rattle.runs.specs.declared.refusal.Refusal.TheVariants.{LayersLong, Layer, Outside, TooManyPieces, TooManyChanges}
use Rattle.runs.specs.declared.refusal.Refusal.TheVariants.{TooManySides}
use Rattle.runs.specs.declared.refusal.Refusal.TheVariants.{WrittenUnread, WrittenLong, CertUnread, CertLong}
use Rattle.runs.specs.declared.refusal.Refusal.TheVariants.{Certificate}
use Rattle.runs.specs.declared.refusal.Refusal.TheVariants.{NoMemory}
use Rattle.runs.specs.Lines.{words_line_of, tin_line_of, check_line_of, number_line_of, layer_line_of}
use Rattle.runs.specs.Lines.{layer_number_line_of, cert_line_of}
use Rattle.runs.specs.Refusals.{line_of, limit_front, written_front, cert_front}

byte_of_take : (line : List ℕ) (count k : ℕ)
    → (get_or (take count line) k 0 ≡ get_or line k 0) ⊎ (get_or (take count line) k 0 ≡ 0)
byte_of_take line zero k = inr refl
byte_of_take [] (suc count) k = inl refl
byte_of_take (byte ∷ line) (suc count) zero = inl refl
byte_of_take (byte ∷ line) (suc count) (suc k) = byte_of_take line count k

-- a text that has another byte at a place is no prefix of the line
differs_at : (text line : List ℕ) (count k : ℕ) → text ≡ take count line → get_or text k 0 ≢ get_or line k 0
    → get_or text k 0 ≢ 0 → ⊥
differs_at text line count k same other some =
    elim (byte_of_take line count k) [
      | inl is ↦ other (ap (λ t. get_or t k 0) same ∙ is)
      | inr is ↦ some (ap (λ t. get_or t k 0) same ∙ is)
    ]

-- at some place the line differs from `limit: bytes of`
pub record TellsNone (line : List ℕ) : Type 0 where
  place : ℕ
  early : place < 15
  other : get_or limit_front place 0 ≢ get_or line place 0
  some : get_or limit_front place 0 ≢ 0

-- a byte of a list's front
front_byte : (front rest : List ℕ) (k : ℕ) → k < length front → get_or (front ++ rest) k 0 ≡ get_or front k 0
front_byte [] rest k within = absurd (omega (arith, within))
front_byte (byte ∷ front) rest zero within = refl
front_byte (byte ∷ front) rest (suc k) within = front_byte front rest k (omega (arith, within))

limit_byte : (rest : List ℕ) (k : ℕ) → k < 15 → get_or (limit_front ++ rest) k 0 ≡ get_or limit_front k 0
limit_byte rest k within = let size : 15 ≡ length limit_front =
    refl in front_byte limit_front rest k (subst (λ n. k < n) size within)

pub at-first : (line : List ℕ) (byte : ℕ) → get_or line 0 0 ≡ byte → byte ≢ 108 → TellsNone line
at-first line byte is other = record {
  place = 0;
  early = omega arith;
  other = λ e. other (sym is ∙ sym e);
  some = λ e. omega (arith, e);
}

at-second : (line : List ℕ) (byte : ℕ) → get_or line 1 0 ≡ byte → byte ≢ 105 → TellsNone line
at-second line byte is other = record {
  place = 1;
  early = omega arith;
  other = λ e. other (sym is ∙ sym e);
  some = λ e. omega (arith, e);
}

at-eighth : (line : List ℕ) (byte : ℕ) → get_or line 7 0 ≡ byte → byte ≢ 98 → TellsNone line
at-eighth line byte is other = record {
  place = 7;
  early = omega arith;
  other = λ e. other (sym is ∙ sym e);
  some = λ e. omega (arith, e);
}

-- the lines of a triangulation begin with a t
pub t-line : (line : List ℕ) → get_or line 0 0 ≡ 116 → TellsNone line
t-line line is = at-first line 116 is (λ e. omega (arith, e))

number-none : (row : ℕ) (fault : NumFault) → TellsNone (number_line_of row fault)
number-none row (Form at) = t-line _ refl
number-none row Long = t-line _ refl
number-none row Range = t-line _ refl

text-none : (fault : TinFault) → TellsNone (tin_line_of fault)
text-none (Json at) = t-line _ refl
text-none (Deep at) = t-line _ refl
text-none (Key which) = t-line _ refl
text-none Version = t-line _ refl
text-none (Fallback Side) = t-line _ refl
text-none (Fallback Centroid) = t-line _ refl
text-none NoHorizontal = t-line _ refl
text-none NoVertical = t-line _ refl
text-none (Offset row) = t-line _ refl
text-none (TooMany Vertices) = at-eighth _ 118 refl (λ e. omega (arith, e))
text-none (TooMany Triangles) = at-eighth _ 116 refl (λ e. omega (arith, e))
text-none (Row list row) = t-line _ refl
text-none (Number row fault) = number-none row fault
text-none (Inexact row) = t-line _ refl
text-none (Index triangle) = t-line _ refl
text-none (Span Source axis) = t-line _ refl
text-none (Span Target axis) = t-line _ refl
text-none TinMemory = at-first _ 110 refl (λ e. omega (arith, e))

check-none : (fault : CheckFault) → TellsNone (check_line_of fault)
check-none (Flat triangle frame) = t-line _ refl
check-none (TurnsOver triangle) = t-line _ refl
check-none (Meets first second frame) = t-line _ refl
check-none CheckMemory = at-first _ 110 refl (λ e. omega (arith, e))

-- the second letter of a layer's lines is an a
a-line : (line : List ℕ) → get_or line 1 0 ≡ 97 → TellsNone line
a-line line is = at-second line 97 is (λ e. omega (arith, e))

layer-number-none : (layer at : ℕ) (fault : NumFault) → TellsNone (layer_number_line_of layer at fault)
layer-number-none layer at (Form place) = a-line _ refl
layer-number-none layer at Long = a-line _ refl
layer-number-none layer at Range = a-line _ refl

layer-none : (layer : ℕ) (fault : LayerFault) → TellsNone (layer_line_of layer fault)
layer-none layer (layers.Bad at) = a-line _ refl
layer-none layer (layers.Deep at) = a-line _ refl
layer-none layer (layers.Repeat at) = a-line _ refl
layer-none layer (layers.Shape at) = a-line _ refl
layer-none layer (layers.Kind at) = a-line _ refl
layer-none layer (layers.Height at) = a-line _ refl
layer-none layer (layers.Inexact at) = a-line _ refl
layer-none layer (layers.Ring at) = a-line _ refl
layer-none layer (layers.Number at fault) = layer-number-none layer at fault
layer-none layer layers.Binary = a-line _ refl
layer-none layer layers.NoEof = a-line _ refl
layer-none layer (layers.Code line) = a-line _ refl
layer-none layer (layers.Odd line) = a-line _ refl
layer-none layer (layers.Entity line) = a-line _ refl
layer-none layer (layers.Extrusion line) = a-line _ refl
layer-none layer (layers.Flags line) = a-line _ refl
layer-none layer (layers.Count line) = a-line _ refl
layer-none layer (layers.Bulge line) = a-line _ refl
layer-none layer (layers.Width line) = a-line _ refl
layer-none layer (layers.Attribs line) = a-line _ refl
layer-none layer (layers.Seed line) = a-line _ refl
layer-none layer layers.NoMemory = at-first _ 110 refl (λ e. omega (arith, e))

-- the lines of a certificate begin with a c
c-line : (line : List ℕ) → get_or line 0 0 ≡ 99 → TellsNone line
c-line line is = at-first line 99 is (λ e. omega (arith, e))

cert-none : (fault : CertFault) → TellsNone (cert_line_of fault)
cert-none (certs.Layer fault) = layer-none 0 fault
cert-none (certs.Form line) = c-line _ refl
cert-none (certs.Count segments lines) = c-line _ refl
cert-none (certs.Segment path segment) = c-line _ refl
cert-none (certs.Differs at) = c-line _ refl
cert-none certs.NoMemory = at-first _ 110 refl (λ e. omega (arith, e))

-- the lines of words begin with a w
w-line : (line : List ℕ) → get_or line 0 0 ≡ 119 → TellsNone line
w-line line is = at-first line 119 is (λ e. omega (arith, e))

words-none : (fault : WordsFault) → TellsNone (words_line_of fault)
words-none NoMode = w-line _ refl
words-none Parse = w-line _ refl
words-none Size = w-line _ refl
words-none Many = w-line _ refl
words-none (Name WhichTin) = w-line _ refl
words-none (Name WhichOut) = w-line _ refl
words-none (Name (WhichLayer layer)) = w-line _ refl
words-none (Name WhichSource) = w-line _ refl
words-none (Name WhichWritten) = w-line _ refl
words-none (Name WhichCertificate) = w-line _ refl
words-none (Suffix layer) = w-line _ refl
words-none (SameName layer) = w-line _ refl
words-none WordsMemory = at-first _ 110 refl (λ e. omega (arith, e))

-- no prefix of such a line begins with `limit: bytes of`
pub none-begins : (line rest : List ℕ) (count : ℕ) → TellsNone line → limit_front ++ rest ≡ take count line → ⊥
none-begins line rest count none same =
    let byte = limit_byte rest none.place none.early in
    differs_at (limit_front ++ rest) line count none.place same (λ e. none.other (sym byte ∙ e))
    (λ e. none.some (sym byte ∙ e))

-- a refusal's line says `limit: bytes of` only where one or more files have too many
pub data IsLimitLine (refusal : Refusal) : Type 0 where
  of_tin : refusal ≡ TinLong → IsLimitLine refusal
  of_layers : refusal ≡ LayersLong → IsLimitLine refusal
  of_written : refusal ≡ WrittenLong → IsLimitLine refusal
  of_cert : refusal ≡ CertLong → IsLimitLine refusal
  of_none : TellsNone (line_of refusal) → IsLimitLine refusal

pub limit_line : (refusal : Refusal) → IsLimitLine refusal
limit_line TinLong = of_tin refl
limit_line LayersLong = of_layers refl
limit_line WrittenLong = of_written refl
limit_line CertLong = of_cert refl
limit_line (Words fault) = of_none (words-none fault)
limit_line TinUnread = of_none (at-first _ 114 refl (λ e. omega (arith, e)))
limit_line (Tin fault) = of_none (text-none fault)
limit_line (Check fault) = of_none (check-none fault)
limit_line (LayerUnread number) = of_none (at-first _ 114 refl (λ e. omega (arith, e)))
limit_line (Layer number fault) = of_none (layer-none number fault)
limit_line (Outside number path segment) = of_none (at-first _ 111 refl (λ e. omega (arith, e)))
limit_line TooManyChanges = of_none (at-eighth _ 99 refl (λ e. omega (arith, e)))
limit_line TooManySides = of_none (at-eighth _ 115 refl (λ e. omega (arith, e)))
limit_line TooManyPieces = of_none (at-eighth _ 112 refl (λ e. omega (arith, e)))
limit_line WrittenUnread = of_none (at-first _ 114 refl (λ e. omega (arith, e)))
limit_line CertUnread = of_none (at-first _ 114 refl (λ e. omega (arith, e)))
limit_line (Certificate fault) = of_none (cert-none fault)
limit_line NoMemory = of_none (at-first _ 110 refl (λ e. omega (arith, e)))

-- ---- a written layer and a certificate, by the letter after `limit: bytes of `
-- a text that has another letter there is no prefix of the line
letter-apart : (text line : List ℕ) (count letter other : ℕ) → get_or text 16 0 ≡ letter → get_or line 16 0 ≡ other
    → letter ≢ other → letter ≢ 0 → text ≡ take count line → ⊥
letter-apart text line count letter other is has apart some same =
    differs_at text line count 16 same (λ e. apart (sym is ∙ (e ∙ has))) (λ e. some (sym is ∙ e))

-- a line that begins as that of a written layer with too many bytes is that line
pub written-begins : (refusal : Refusal) (rest : List ℕ) (count : ℕ)
    → written_front ++ rest ≡ take count (line_of refusal) → refusal ≡ WrittenLong
written-begins refusal rest count same =
    elim (limit_line refusal) [
      | of_tin is ↦ absurd
          (letter-apart (written_front ++ rest) (line_of TinLong) count 119 116 refl refl (λ e. omega (arith, e))
          (λ e. omega (arith, e))
          (subst (λ (r : Refusal). written_front ++ rest ≡ take count (line_of r)) is same))
      | of_layers is ↦ absurd
          (letter-apart (written_front ++ rest) (line_of LayersLong) count 119 108 refl refl (λ e. omega (arith, e))
          (λ e. omega (arith, e))
          (subst (λ (r : Refusal). written_front ++ rest ≡ take count (line_of r)) is same))
      | of_written is ↦ is
      | of_cert is ↦ absurd
          (letter-apart (written_front ++ rest) (line_of CertLong) count 119 99 refl refl (λ e. omega (arith, e))
          (λ e. omega (arith, e))
          (subst (λ (r : Refusal). written_front ++ rest ≡ take count (line_of r)) is same))
      | of_none none ↦ absurd (none-begins (line_of refusal) (codes " w" ++ rest) count none same)
    ]

-- and one that begins as that of a certificate is that one
pub cert-begins : (refusal : Refusal) (rest : List ℕ) (count : ℕ)
    → cert_front ++ rest ≡ take count (line_of refusal) → refusal ≡ CertLong
cert-begins refusal rest count same =
    elim (limit_line refusal) [
      | of_tin is ↦ absurd
          (letter-apart (cert_front ++ rest) (line_of TinLong) count 99 116 refl refl (λ e. omega (arith, e))
          (λ e. omega (arith, e)) (subst (λ (r : Refusal). cert_front ++ rest ≡ take count (line_of r)) is same))
      | of_layers is ↦ absurd
          (letter-apart (cert_front ++ rest) (line_of LayersLong) count 99 108 refl refl (λ e. omega (arith, e))
          (λ e. omega (arith, e)) (subst (λ (r : Refusal). cert_front ++ rest ≡ take count (line_of r)) is same))
      | of_written is ↦ absurd
          (letter-apart (cert_front ++ rest) (line_of WrittenLong) count 99 119 refl refl (λ e. omega (arith, e))
          (λ e. omega (arith, e)) (subst (λ (r : Refusal). cert_front ++ rest ≡ take count (line_of r)) is same))
      | of_cert is ↦ is
      | of_none none ↦ absurd (none-begins (line_of refusal) (codes " c" ++ rest) count none same)
    ]
