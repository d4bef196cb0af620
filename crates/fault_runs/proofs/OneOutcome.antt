-- A run has one outcome at most.
use Rattle.std.proofs.Common.{◌≡◌, ℕ, Bool, List, [], ◌∷◌, Ok, Err, codes, refl, sym, ◌∙◌, ap}
use Rattle.std.proofs.Common.{ap₂, subst, arith}
use Rattle.shelf_io.specs.Files.{Files}
use Rattle.sheet_base.specs.declared.flags.How.{How}
use Rattle.tin_base.specs.Triangulation.{Triangulation}
use Rattle.tin_faults.specs.declared.faults.Fault.{Fault}
use Rattle.tin_faults.specs.Faults.{AreFaults, HasMoreFaults}
use Rattle.tin_faults.specs.Laws.{FaultsAreOne, ListsAreCounted}
use Rattle.tin_file.specs.Laws.{AnswerIsOne}
use Rattle.job_words.specs.declared.faults.WordsFault.{WordsFault}
use Rattle.runs.specs.declared.status.Status.{Status}
use Rattle.runs.specs.declared.refusal.Refusal.{Refusal}
use Rattle.runs.specs.declared.refusal.Refusal.TheVariants.{Words, TinUnread, TinLong, Tin, Check}
use Rattle.runs.specs.Status.{end_of}
use Rattle.runs.specs.Laws.{TinEndIsOne}
use Rattle.runs.specs.Triangulations.{IsRead, IsTinRefused}
use Rattle.runs.proofs.OneFile.{text_one, none_fine, long_fine, fault_answer}
use Rattle.fault_runs.specs.declared.loads.TheConstants.{MOST_FAULTS}
use Rattle.fault_runs.specs.declared.refusals.FaultRefusal.{FaultRefusal}
use Rattle.fault_runs.specs.declared.refusals.FaultRefusal.TheVariants.{Run}
use Rattle.fault_runs.specs.declared.words.Wanted.{Wanted}
use Rattle.fault_runs.specs.FaultsText.{faults_text}
use Rattle.fault_runs.specs.Spots.{spots_of}
use Rattle.fault_runs.specs.Refusals.{status_of, line_of, Refuses}
use Rattle.fault_runs.specs.Words.{AsksFaults, LacksFaults}
use Rattle.fault_runs.specs.Outcome.{HasRead, IsReadRefused, has_some, IsListed, HasTooMany}
use Rattle.fault_runs.specs.Outcome.{no_job, refused, too_many, listed}
use Rattle.fault_runs.specs.Laws.{OutcomeIsOne}

-- ---- the words
asks_one : (words : List (List ℕ)) (wanted other : Wanted) → AsksFaults words wanted → AsksFaults words other
    → wanted ≡ other
asks_one words wanted other x y =
    let e = sym x.job ∙ y.job in
    let tin : wanted.tin ≡ other.tin = cc in
    let how : wanted.how ≡ other.how = cc in
    ap (λ (t : List ℕ). made_of t wanted.how wanted.lines) tin
    ∙ (ap (λ (h : How). made_of other.tin h wanted.lines) how
    ∙ ap (λ (b : Bool). made_of other.tin other.how b) (x.lines ∙ sym y.lines))
  where
    made_of : List ℕ → How → Bool → Wanted
    made_of tin how lines = record { tin = tin; how = how; lines = lines }

lacks_one : (words : List (List ℕ)) (fault other : WordsFault) → LacksFaults words fault → LacksFaults words other
    → fault ≡ other
lacks_one words fault other x y = let e = sym x ∙ y in cc

asks_lacks : (words : List (List ℕ)) (wanted : Wanted) (fault : WordsFault) → AsksFaults words wanted
    → LacksFaults words fault → ⊥
asks_lacks words wanted fault x y = let e = sym x.job ∙ y in cc

-- ---- the file
read_one : AnswerIsOne → (files : Files) (how : How) (name : List ℕ) (a b : Triangulation) → HasRead files how name a
    → HasRead files how name b → a ≡ b
read_one answers files how name a b (text, file, read) (other, also, too) =
    let same = text_one files name text other file also in
    let e = answers how other (Ok a) (Ok b) (subst (λ (t : List ℕ). IsRead how t a) same read) (λ no. cc) too (λ no. cc) in
    cc

tin_refused : (files : Files) (how : How) (name : List ℕ) (refusal : Refusal) → IsReadRefused files how name refusal
    → IsTinRefused files how name refusal
tin_refused files how name (Check fault) is = absurd is
tin_refused files how name refusal is = is

refused_one : TinEndIsOne → (files : Files) (how : How) (name : List ℕ) (a b : Refusal)
    → IsReadRefused files how name a → IsReadRefused files how name b → a ≡ b
refused_one ends files how name a b x y =
    let e = ends files how name (Err a) (Err b) (tin_refused files how name a x) (tin_refused files how name b y) in cc

read_or_refused : AnswerIsOne → (files : Files) (how : How) (name : List ℕ) (tin : Triangulation) (refusal : Refusal)
    → HasRead files how name tin → IsReadRefused files how name refusal → ⊥
read_or_refused answers files how name tin TinUnread (text, file, read) is = none_fine files name text is file
read_or_refused answers files how name tin TinLong (text, file, read) is = long_fine files name text is file
read_or_refused answers files how name tin (Tin fault) (text, file, read) (other, also, lacks) =
    let same = text_one files name text other file also in
    let e = answers how other (Ok tin) (Err fault) (subst (λ (t : List ℕ). IsRead how t tin) same read) (λ no. cc)
    lacks.answers (fault_answer fault lacks.of_text) in
    cc
read_or_refused answers files how name tin refusal read is = absurd is

-- ---- the ends
by_refusal : (refusal other : FaultRefusal) (status status' : Status) (made made' : Files) → refusal ≡ other
    → Refuses refusal status made → Refuses other status' made' → (status ≡ status') × (made ≡ made')
by_refusal refusal other status status' made made' e x y = (
  x.status_is ∙ (ap status_of e ∙ sym y.status_is),
  x.made_is ∙ (ap (λ (r : FaultRefusal). (codes "-", line_of r) ∷ []) e ∙ sym y.made_is),
)

listed_one : AnswerIsOne → FaultsAreOne → (files : Files) (wanted : Wanted) (status status' : Status)
    (made made' : Files) → IsListed files wanted status made → IsListed files wanted status' made'
    → (status ≡ status') × (made ≡ made')
listed_one answers ones files wanted status status' made made' x y =
    let tins : x.tin ≡ y.tin = read_one answers files wanted.how wanted.tin x.tin y.tin x.read y.read in
    let a = x.is_said in
    let b = y.is_said in
    let faults : a.faults ≡ b.faults =
    ones y.tin a.faults b.faults (subst (λ (t : Triangulation). AreFaults t a.faults) tins a.are) b.are in
    let said : x.said ≡ y.said = a.said_is ∙ (ap₂ (λ (t : Triangulation) (fs : List Fault).
    faults_text wanted.lines (spots_of t fs)) tins faults ∙ sym b.said_is) in
    let some : x.some ≡ y.some = a.some_is ∙ (ap has_some faults ∙ sym b.some_is) in (
      x.status_is ∙ (ap end_of some ∙ sym y.status_is),
      x.made_is ∙ (ap (λ (t : List ℕ). (codes "-", t) ∷ []) said ∙ sym y.made_is),
    )

listed_or_many : AnswerIsOne → ListsAreCounted → (files : Files) (wanted : Wanted) (status : Status) (made : Files)
    → IsListed files wanted status made → HasTooMany files wanted → ⊥
listed_or_many answers counts files wanted status made x y =
    let tins : y.tin ≡ x.tin = read_one answers files wanted.how wanted.tin y.tin x.tin y.read x.read in
    let a = x.is_said in
    let many = (counts x.tin a.faults MOST_FAULTS a.are).0 (subst (λ (t : Triangulation). HasMoreFaults t MOST_FAULTS)
    tins y.more) in
    let few = a.few in
    omega (arith, many, few)

pub outcome_one : AnswerIsOne → TinEndIsOne → FaultsAreOne → ListsAreCounted → OutcomeIsOne
outcome_one answers ends ones counts words files status other made others (no_job f x r) (no_job g y s) =
    by_refusal (Run (Words f)) (Run (Words g)) status other made others (ap (λ (h : WordsFault). Run (Words h)) (lacks_one words f g x y)) r s
outcome_one answers ends ones counts words files status other made others (no_job f x r) (refused w y q i s) =
    absurd (asks_lacks words w f y x)
outcome_one answers ends ones counts words files status other made others (no_job f x r) (too_many w y m s) =
    absurd (asks_lacks words w f y x)
outcome_one answers ends ones counts words files status other made others (no_job f x r) (listed w y m) =
    absurd (asks_lacks words w f y x)
outcome_one answers ends ones counts words files status other made others (refused v x p h r) (no_job g y s) =
    absurd (asks_lacks words v g x y)
outcome_one answers ends ones counts words files status other made others (too_many v x n r) (no_job g y s) =
    absurd (asks_lacks words v g x y)
outcome_one answers ends ones counts words files status other made others (listed v x n) (no_job g y s) =
    absurd (asks_lacks words v g x y)
outcome_one answers ends ones counts words files status other made others (refused v x p h r) (refused w y q i s) =
    by_refusal (Run p) (Run q) status other made others (ap Run (refused_one ends files w.how w.tin p q
    (subst (λ (u : Wanted). IsReadRefused files u.how u.tin p) (asks_one words v w x y) h) i)) r s
outcome_one answers ends ones counts words files status other made others (refused v x p h r) (too_many w y m s) =
    absurd (read_or_refused answers files w.how w.tin m.tin p m.read
    (subst (λ (u : Wanted). IsReadRefused files u.how u.tin p) (asks_one words v w x y) h))
outcome_one answers ends ones counts words files status other made others (refused v x p h r) (listed w y m) =
    absurd (read_or_refused answers files w.how w.tin m.tin p m.read
    (subst (λ (u : Wanted). IsReadRefused files u.how u.tin p) (asks_one words v w x y) h))
outcome_one answers ends ones counts words files status other made others (too_many v x n r) (refused w y q i s) =
    absurd (read_or_refused answers files v.how v.tin n.tin q n.read
    (subst (λ (u : Wanted). IsReadRefused files u.how u.tin q) (asks_one words w v y x) i))
outcome_one answers ends ones counts words files status other made others (listed v x n) (refused w y q i s) =
    absurd (read_or_refused answers files v.how v.tin n.tin q n.read
    (subst (λ (u : Wanted). IsReadRefused files u.how u.tin q) (asks_one words w v y x) i))
outcome_one answers ends ones counts words files status other made others (too_many v x n r) (too_many w y m s) =
    by_refusal _ _ status other made others refl r s
outcome_one answers ends ones counts words files status other made others (too_many v x n r) (listed w y m) =
    absurd (listed_or_many answers counts files w other others m
    (subst (λ (u : Wanted). HasTooMany files u) (asks_one words v w x y) n))
outcome_one answers ends ones counts words files status other made others (listed v x n) (too_many w y m s) =
    absurd (listed_or_many answers counts files v status made n
    (subst (λ (u : Wanted). HasTooMany files u) (asks_one words w v y x) m))
outcome_one answers ends ones counts words files status other made others (listed v x n) (listed w y m) =
    listed_one answers ones files w status other made others
    (subst (λ (u : Wanted). IsListed files u status made) (asks_one words v w x y) n) m
