-- What the matches of a migration ask for.
use Rattle.std.proofs.Common.{◌≡◌, ◌⊎◌, inl, inr, List, [], Option, Some, None, Result, Ok, Err, Bor, Bool, refl, sym}
use Rattle.std.proofs.Common.{ap, ◌∙◌, codes, option_map, unwrap_or}
use Rattle.clap.specs.Walk.{Row, Text}
use Rattle.std.specs.Result.{IsErrAnd}
use Rattle.sheet_base.specs.declared.flags.How.{How}
use Rattle.job_words.specs.declared.jobs.Job.{Job}
use Rattle.job_words.specs.declared.jobs.Job.TheVariants as job
use Rattle.job_words.specs.declared.modes.Mode.TheVariants.{Migrate}
use Rattle.job_words.specs.declared.faults.WordsFault.{WordsFault}
use Rattle.job_words.specs.declared.faults.WordsFault.TheVariants.{NoMemory}
use Rattle.job_words.specs.Readings.{is_set, text_in, texts_in}
use Rattle.job_words.specs.Faults.{IsAnswer}
use Rattle.job_words.specs.Jobs.{how_in, job_in, migration_fault, migration_in, unless}
use Rattle.job_words.proofs.Again.{behind}

-- texts that may be missing, read through their references
pub texts-or : (texts : Option (Bor (List (Bor Text)))) (other : Bor (List (Bor Text))) → other.now ≡ []
    → behind (unwrap_or texts other).now ≡ unwrap_or (option_map (λ t. behind t.now) texts) []
texts-or None other empty = ap behind empty
texts-or (Some texts) other empty = refl

-- names that are those of the matches
pub record AreNamed (rows : List Row) (tin_name out_name : Text) (layer_names : List Text) : Type 0 where
  pub tin : tin_name ≡ text_in (codes "tin") rows
  pub out : out_name ≡ text_in (codes "out") rows
  pub layers : layer_names ≡ texts_in (codes "layer") rows

same-fault : (rows : List Row) (tin out : Text) (layers : List Text) → AreNamed rows tin out layers
    → job_in Migrate rows ≡ unless (migration_fault tin out layers) (migration_in rows)
same-fault rows tin out layers named = rw (named.tin, named.out, named.layers) refl

-- a fault of the names, or memory ran out
pub names-refused : (rows : List Row) (tin out : Text) (layers : List Text) (fault : WordsFault)
    → AreNamed rows tin out layers
    → (fault ≡ NoMemory) ⊎ (migration_fault tin out layers ≡ Some fault) → IsAnswer (job_in Migrate rows) (Err fault)
names-refused rows tin out layers fault named is = elim is [
  | inl memory ↦ inl (ap (λ f. Err f) memory)
  | inr own ↦ inr (sym (same-fault rows tin out layers named ∙ ap (λ f. unless f (migration_in rows)) own))
]

-- names without a fault
pub names-taken : (rows : List Row) (tin out : Text) (layers : List Text) (wanted : Job) → AreNamed rows tin out layers
    → migration_fault tin out layers ≡ None → wanted ≡ migration_in rows → IsAnswer (job_in Migrate rows) (Ok wanted)
names-taken rows tin out layers wanted named none is =
    inr (ap (λ w. Ok w) is ∙ sym (same-fault rows tin out layers named ∙ ap (λ f. unless f (migration_in rows)) none))

-- the migration of what is read of the matches
pub same-migration : (rows : List Row) (tin out : Text) (how : How) (inverse cert sides : Bool) (layers : List Text)
    → AreNamed rows tin out layers
    → how ≡ how_in rows → inverse ≡ is_set (codes "inverse") rows → cert ≡ is_set (codes "cert") rows
    → sides ≡ is_set (codes "sides") rows → job.Migrate tin out how inverse cert sides layers ≡ migration_in rows
same-migration rows tin out how inverse cert sides layers named is turned certified sided =
    λ i. job.Migrate (named.tin i) (named.out i) (is i) (turned i) (certified i) (sided i) (named.layers i)

-- an error that is handed on
pub handed-on : {T E : Type 0} (answer : Result T E) (error : E) → IsErrAnd answer (λ e. e ≡ error) → answer ≡ Err error
handed-on (Ok value) error is = absurd is
handed-on (Err given) error is = ap (λ e. Err e) is
