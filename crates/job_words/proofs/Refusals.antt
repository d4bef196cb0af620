-- What a refusal by `clap` says.
use Rattle.std.proofs.Common.{◌≡◌, ◌⊎◌, inl, inr, [], ◌∷◌, length, refl, ◌∙◌, arith, ne_eqb}
use Rattle.std.specs.Prelude.{◌==◌, false}
use Rattle.clap.specs.Kinds.{HasKind, IsAmong, Kinds}
use Rattle.clap.specs.Values.{kind_of}
use Rattle.clap.specs.declared.error.Error.{Error}
use Rattle.clap.specs.declared.error.kind.ErrorKind.{ErrorKind}
use Rattle.clap.specs.declared.error.kind.ErrorKind.TheVariants as kind
use Rattle.job_words.specs.declared.faults.WordsFault.{WordsFault}
use Rattle.job_words.specs.declared.faults.WordsFault.TheVariants.{NoMemory, Parse}
use Rattle.job_words.specs.Faults.{fault_for}

-- memory ran out, or a refusal of another kind
memory-or-parse : (k : ErrorKind) → ((k ≡ kind.OutOfMemory) × (fault_for k ≡ NoMemory)) ⊎ (fault_for k ≡ Parse)
memory-or-parse kind.OutOfMemory = inl (refl, refl)
memory-or-parse _ = inr refl

-- kinds among which there is one
some-kind : (k : ErrorKind) (kinds : Kinds) → IsAmong k kinds → (length kinds == 0) ≡ false
some-kind k [] among = absurd among
some-kind k (first ∷ kinds) among = ne_eqb _ _ (λ e. omega arith)

-- the fault of an error with one of these kinds
pub refused : (kinds : Kinds) (error : Error) (fault : WordsFault) → HasKind kinds error
    → fault ≡ fault_for (kind_of error)
    → (fault ≡ NoMemory) ⊎ ((fault ≡ Parse) × ((length kinds == 0) ≡ false))
refused kinds error fault has is = elim (memory-or-parse (kind_of error)) [
  | inl memory ↦ inl (is ∙ memory.1)
  | inr parse ↦ elim has [
    | inl memory ↦ inl (is ∙ of-memory (kind_of error) memory)
    | inr among ↦ inr (is ∙ parse, some-kind (kind_of error) kinds among)
  ]
]
  where
    of-memory : (k : ErrorKind) → k ≡ kind.OutOfMemory → fault_for k ≡ NoMemory
    of-memory k e = rw e refl
