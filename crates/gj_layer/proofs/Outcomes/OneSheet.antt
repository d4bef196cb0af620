-- A layer has one sheet, or one fault.
use Rattle.std.proofs.Common.{◌≡◌, ℕ, inl, inr, List, sym, ap, ◌∙◌}
use Rattle.std.proofs.Common.{Bool}
use Rattle.std.specs.Prelude.{Result, Ok, Err}
use Rattle.jtext.specs.Texts.{Whole, IsWhole}
use Rattle.jtext.specs.Places.{whole_start}
use Rattle.jtext.specs.declared.json_texts.TheConstants.{DEEPEST}
use Rattle.jtext.proofs.CallerLemmas.OneValue.{one_place, one_value}
use Rattle.jtext.proofs.CallerLemmas.Exclusion.{bad_once, deep_once, bad_or_deep}
use Rattle.sheet_base.specs.declared.faults.LayerFault.{LayerFault}
use Rattle.sheet_base.specs.declared.faults.LayerFault.TheVariants.{Bad, Deep}
use Rattle.sheet_base.specs.Sheets.{Contents}
use Rattle.gj_layer.specs.declared.forms.Holder.TheVariants as holders
use Rattle.gj_layer.specs.declared.forms.ValueForm.TheVariants as forms
use Rattle.gj_layer.specs.Paths.{Part, sheet_of}
use Rattle.gj_layer.specs.Documents.{reading}
use Rattle.gj_layer.specs.Layers.{Answers, IsGeoJsonReadAs, IsTextFault, IsGeoJsonRefusedBy}

answer_one : (exact : Bool) (bytes : List ℕ) (answer other : Result Part LayerFault) → Answers exact bytes answer
    → Answers exact bytes other → answer ≡ other
answer_one exact bytes answer other (whole, text, read) (second, again, reads) =
    sym read ∙ ap (λ n. reading exact (forms.Object holders.Layer) 0 n whole.value)
    (one_place DEEPEST DEEPEST bytes whole second text again).1
    ∙ ap (reading exact (forms.Object holders.Layer) 0 (whole_start second))
    (one_value DEEPEST DEEPEST bytes whole second text again) ∙ reads

pub sheet_one : (exact : Bool) (bytes : List ℕ) (sheet other : Contents) → IsGeoJsonReadAs exact bytes sheet
    → IsGeoJsonReadAs exact bytes other → sheet ≡ other
sheet_one exact bytes sheet other (part, answers, is) (second, again, are) =
    let same = answer_one exact bytes (Ok part) (Ok second) answers again in
    let parts : part ≡ second = cc in
    is ∙ ap sheet_of parts ∙ sym are

text_apart : (bytes : List ℕ) (fault : LayerFault) (whole : Whole) → IsTextFault bytes fault
    → IsWhole DEEPEST whole bytes → ⊥
text_apart bytes (Bad at) whole is text = is.fault.refused (DEEPEST, (whole, text))
text_apart bytes (Deep at) whole is text = is.fault.refused (whole, text)
text_apart bytes fault whole is text = absurd is

pub sheet_apart : (exact : Bool) (bytes : List ℕ) (sheet : Contents) (fault : LayerFault)
    → IsGeoJsonReadAs exact bytes sheet
    → IsGeoJsonRefusedBy exact bytes fault → ⊥
sheet_apart exact bytes sheet fault (part, answers, is) (inl text) = text_apart bytes fault answers.0 text answers.1
sheet_apart exact bytes sheet fault (part, answers, is) (inr refused) = let same =
    answer_one exact bytes (Ok part) (Err fault) answers refused in cc

text_one : (bytes : List ℕ) (fault other : LayerFault) → IsTextFault bytes fault → IsTextFault bytes other
    → fault ≡ other
text_one bytes (Bad at) (Bad other) a b = ap Bad (bad_once bytes at other a b)
text_one bytes (Bad at) (Deep other) a b = absurd (bad_or_deep bytes at other a b)
text_one bytes (Deep at) (Bad other) a b = absurd (bad_or_deep bytes other at b a)
text_one bytes (Deep at) (Deep other) a b = ap Deep (deep_once bytes at other a b)
text_one bytes (Bad at) other a b = absurd b
text_one bytes (Deep at) other a b = absurd b
text_one bytes fault other a b = absurd a

pub fault_one : (exact : Bool) (bytes : List ℕ) (fault other : LayerFault) → IsGeoJsonRefusedBy exact bytes fault
    → IsGeoJsonRefusedBy exact bytes other → fault ≡ other
fault_one exact bytes fault other (inl a) (inl b) = text_one bytes fault other a b
fault_one exact bytes fault other (inl a) (inr b) = absurd (text_apart bytes fault b.0 a b.1)
fault_one exact bytes fault other (inr a) (inl b) = absurd (text_apart bytes other a.0 b a.1)
fault_one exact bytes fault other (inr a) (inr b) = let same = answer_one exact bytes (Err fault) (Err other) a b in cc
