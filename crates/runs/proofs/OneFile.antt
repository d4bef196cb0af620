-- The file of a name gives one value, or one refusal, whatever kind of value is read of its text.
use Rattle.std.proofs.Common.{◌≡◌, ◌≢◌, ℕ, ◌<◌, ◌≤◌, List, None, Result, Ok, Err, length, sym, ◌∙◌, ap, subst, arith}
use Rattle.std.proofs.lemmas.Option.{none-some, same_Some}
use Rattle.shelf_io.specs.Files.{Files, bytes_of}
use Rattle.tin_base.specs.Triangulation.{Triangulation}
use Rattle.tin_base.specs.Soundness.{IsSound}
use Rattle.tin_check.specs.Faults.{IsFirstFault}
use Rattle.tin_check.specs.declared.faults.CheckFault.{CheckFault}
use Rattle.tin_check.proofs.CallerLemmas.FirstFault.{unsound, one_first}
use Rattle.tin_file.specs.declared.faults.TinFault.{TinFault}
use Rattle.tin_file.specs.declared.faults.TinFault.TheVariants.{NoMemory as TinMemory}
use Rattle.runs.specs.declared.loads.TheConstants.{MOST_BYTES}
use Rattle.runs.specs.declared.refusal.Refusal.{Refusal}
use Rattle.runs.specs.declared.refusal.Refusal.TheVariants.{TinUnread, TinLong, Tin, Check}
use Rattle.runs.specs.Triangulations.{HasFile, HasLongFile}

-- ---- a file is missing, too long or read
pub text_one : (files : Files) (name a b : List ℕ) → HasFile files name a → HasFile files name b → a ≡ b
text_one files name a b x y = same_Some a b (sym x.found ∙ y.found)

pub none_fine : (files : Files) (name text : List ℕ) → bytes_of files name ≡ None → HasFile files name text → ⊥
none_fine files name text none x = none-some text (sym none ∙ x.found)

pub none_long : (files : Files) (name : List ℕ) → bytes_of files name ≡ None → HasLongFile files name → ⊥
none_long files name none (text, found, many) = none-some text (sym none ∙ found)

pub long_fine : (files : Files) (name text : List ℕ) → HasLongFile files name → HasFile files name text → ⊥
long_fine files name text (long, found, many) x =
    let same : long ≡ text = same_Some long text (sym found ∙ x.found) in
    let few : length text ≤ MOST_BYTES = x.within in
    let many_here : MOST_BYTES < length text = subst (λ t. MOST_BYTES < length t) same many in
    omega (arith, few, many_here)

pub fault_answer : {V : Type 0} (fault : TinFault) → fault ≢ TinMemory
    → ◌≢◌ {A = Result V TinFault} (Err fault) (Err TinMemory)
fault_answer fault other same = let e : fault ≡ TinMemory = cc in other e

-- ---- how the loading ends, where no call of the outside fails and memory does not run out
-- a text is read as a value with a triangulation in it, or has a fault
module _ {V : Type 0} (tin_of : V → Triangulation) (Answers : List ℕ → Result V TinFault → Type 0) where
  -- that of a text which has been read from a file
  pub data IsTextEnd (text : List ℕ) (end : Result V Refusal) : Type 0 where
    sound_end : (value : V) → end ≡ Ok value → Answers text (Ok value) → IsSound (tin_of value) → IsTextEnd text end
    faulty_end : (why : TinFault) → end ≡ Err (Tin why) → Answers text (Err why) → why ≢ TinMemory → IsTextEnd text end
    unsound_end : (why : CheckFault) (value : V) → end ≡ Err (Check why) → Answers text (Ok value)
        → IsFirstFault (tin_of value) why → IsTextEnd text end

  pub data IsFileEnd (files : Files) (name : List ℕ) (end : Result V Refusal) : Type 0 where
    absent_end : end ≡ Err TinUnread → bytes_of files name ≡ None → IsFileEnd files name end
    too_long_end : end ≡ Err TinLong → HasLongFile files name → IsFileEnd files name end
    read_end : (text : List ℕ) → HasFile files name text → IsTextEnd text end → IsFileEnd files name end

  -- where a text has one answer
  module _ (one : (text : List ℕ) (a b : Result V TinFault) → Answers text a → a ≢ Err TinMemory → Answers text b
      → b ≢ Err TinMemory → a ≡ b) where
    same_value : (text : List ℕ) (a b : V) → Answers text (Ok a) → Answers text (Ok b) → a ≡ b
    same_value text a b x y = let e = one text (Ok a) (Ok b) x (λ no. cc) y (λ no. cc) in cc

    same_fault : (text : List ℕ) (a b : TinFault) → Answers text (Err a) → a ≢ TinMemory → Answers text (Err b)
        → b ≢ TinMemory → a ≡ b
    same_fault text a b x p y q = let e = one text (Err a) (Err b) x (fault_answer a p) y (fault_answer b q) in cc

    read_or_not : (text : List ℕ) (value : V) (why : TinFault) → Answers text (Ok value) → Answers text (Err why)
        → why ≢ TinMemory → ⊥
    read_or_not text value why x y q = let e = one text (Ok value) (Err why) x (λ no. cc) y (fault_answer why q) in cc

    unsound_or_not : (text : List ℕ) (a b : V) (why : CheckFault) → Answers text (Ok a) → IsSound (tin_of a)
        → Answers text (Ok b) → IsFirstFault (tin_of b) why → ⊥
    unsound_or_not text a b why x sound y first =
        unsound (tin_of b) why first.is_one (subst (λ (v : V). IsSound (tin_of v)) (same_value text a b x y) sound)

    same_check : (text : List ℕ) (v w : V) (a b : CheckFault) → Answers text (Ok v) → IsFirstFault (tin_of v) a
        → Answers text (Ok w) → IsFirstFault (tin_of w) b → a ≡ b
    same_check text v w a b x first y other =
        one_first (tin_of w) a b (subst (λ (u : V). IsFirstFault (tin_of u) a) (same_value text v w x y) first) other

    text_end_one : (text : List ℕ) (a b : Result V Refusal) → IsTextEnd text a → IsTextEnd text b → a ≡ b
    text_end_one text a b (sound_end v is x p) (sound_end w also y q) = is ∙ (ap Ok (same_value text v w x y) ∙ sym also)
    text_end_one text a b (sound_end v is x p) (faulty_end why also y q) = absurd (read_or_not text v why x y q)
    text_end_one text a b (sound_end v is x p) (unsound_end why w also y q) =
        absurd (unsound_or_not text v w why x p y q)
    text_end_one text a b (faulty_end why is x p) (sound_end w also y q) = absurd (read_or_not text w why y x p)
    text_end_one text a b (faulty_end why is x p) (faulty_end other also y q) = is
        ∙ (ap (λ f. Err (Tin f)) (same_fault text why other x p y q) ∙ sym also)
    text_end_one text a b (faulty_end why is x p) (unsound_end fault w also y q) =
        absurd (read_or_not text w why y x p)
    text_end_one text a b (unsound_end why v is x p) (sound_end w also y q) =
        absurd (unsound_or_not text w v why y q x p)
    text_end_one text a b (unsound_end why v is x p) (faulty_end fault also y q) =
        absurd (read_or_not text v fault x y q)
    text_end_one text a b (unsound_end why v is x p) (unsound_end other w also y q) = is
        ∙ (ap (λ f. Err (Check f)) (same_check text v w why other x p y q) ∙ sym also)

    pub file_end_one : (files : Files) (name : List ℕ) (a b : Result V Refusal) → IsFileEnd files name a
        → IsFileEnd files name b → a ≡ b
    file_end_one files name a b (absent_end is x) (absent_end also y) = is ∙ sym also
    file_end_one files name a b (absent_end is x) (too_long_end also y) = absurd (none_long files name x y)
    file_end_one files name a b (absent_end is x) (read_end text y end) = absurd (none_fine files name text x y)
    file_end_one files name a b (too_long_end is x) (absent_end also y) = absurd (none_long files name y x)
    file_end_one files name a b (too_long_end is x) (too_long_end also y) = is ∙ sym also
    file_end_one files name a b (too_long_end is x) (read_end text y end) = absurd (long_fine files name text x y)
    file_end_one files name a b (read_end text x end) (absent_end also y) = absurd (none_fine files name text y x)
    file_end_one files name a b (read_end text x end) (too_long_end also y) = absurd (long_fine files name text y x)
    file_end_one files name a b (read_end text x end) (read_end other y also) =
        text_end_one other a b (subst (λ (t : List ℕ). IsTextEnd t a) (text_one files name text other x y) end) also
