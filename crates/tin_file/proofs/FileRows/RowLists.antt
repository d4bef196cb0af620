-- Lists of rows, row by row.
use Rattle.std.proofs.Common.{◌≡◌, ℕ, ◌+◌, List, [], ◌∷◌, ◌++◌, sym, ap, subst, ◌∙◌, append_assoc, append-nil, arith}
use Rattle.std.specs.Prelude.{Result, Ok, Err, IsErrAnd}
use Rattle.jtext.specs.Values.{Json}
use Rattle.tin_file.specs.InsideNodes.{Gives, Equals}
use Rattle.tin_file.specs.Vertices.{in_front}
use Rattle.tin_file.specs.declared.faults.TinFault.{TinFault}

-- what was read, and then what follows or the first fault
abbrev pub behind : {A : Type 0} → List A → Result (List A) TinFault → Result (List A) TinFault
behind done (Ok more) = Ok (done ++ more)
behind done (Err fault) = Err fault

pub equals_ok : {A : Type 0} (value : A) (wanted : Result A TinFault) → Equals (Ok value) wanted → wanted ≡ Ok value
equals_ok value wanted h = grind arith

-- the fault of a part is the fault of the whole
fault_of_part : {A B C : Type 0} (R : B → C → Type 0) (fault : TinFault) (part : Result A TinFault)
    (whole : Result C TinFault)
    → Equals (Err fault) part → (part ≡ Err fault → whole ≡ Err fault) → Gives R (Err fault) whole
fault_of_part R fault part whole h on = grind arith

module _ {A : Type 0} (of_row : ℕ → Json → Result A TinFault) (rows : ℕ → List Json → Result (List A) TinFault) where
  -- the rows are taken one by one
  abbrev pub AreByRow : Type 0
  AreByRow = ((n : ℕ) → rows n [] ≡ Ok []) × ((n : ℕ) (value : Json) (values : List Json)
      → rows n (value ∷ values) ≡ in_front (of_row n value) (rows (n + 1) values))

  -- these rows are read, and the whole is what follows them
  pub record AreRead (done : List A) (n : ℕ) (rest : List Json) (whole : Result (List A) TinFault) : Type 0 where
    pub whole_is : whole ≡ behind done (rows n rest)

  module _ (by_row : AreByRow) (done : List A) (n : ℕ) (whole : Result (List A) TinFault) where
    put_behind : (one : A) (more : Result (List A) TinFault)
        → behind done (in_front (Ok one) more) ≡ behind (done ++ one ∷ []) more
    put_behind one more = grind (arith, append_assoc)

    pub row_read : (value : Json) (values : List Json) (one : A) → AreRead done n (value ∷ values) whole
        → of_row n value ≡ Ok one → AreRead (done ++ one ∷ []) (n + 1) values whole
    row_read value values one h is = grind (arith, put_behind one (rows (n + 1) values))

    pub row_refused : (value : Json) (values : List Json) (fault : TinFault) → AreRead done n (value ∷ values) whole
        → of_row n value ≡ Err fault → whole ≡ Err fault
    row_refused value values fault h is = h.whole_is
        ∙ ap (behind done) (by_row.1 n value values ∙ ap (λ r. in_front r (rows (n + 1) values)) is)

    pub rows_end : AreRead done n [] whole → whole ≡ Ok done
    rows_end h = h.whole_is ∙ ap (behind done) (by_row.0 n) ∙ ap Ok (append-nil done)

-- what an error is that a `?` passed on
pub passed_on : {A : Type 0} (fault : TinFault) (r : Result A TinFault) → IsErrAnd r (λ e. e ≡ fault) → r ≡ Err fault
passed_on fault r h = grind arith

-- so it is the fault of the whole
pub passes : {A B C : Type 0} (R : B → C → Type 0) (fault : TinFault) (part : Result A TinFault)
    (whole : Result C TinFault) (r : Result B TinFault)
    → IsErrAnd r (λ e. e ≡ fault) → Equals (Err fault) part → (part ≡ Err fault → whole ≡ Err fault)
    → Gives R r whole
passes R fault part whole r h is on =
    subst (λ answer. Gives R answer whole) (sym (passed_on fault r h)) (fault_of_part R fault part whole is on)

-- all rows are read
pub gives_done : {A B : Type 0} (R : A → B → Type 0) (one : A) (other : B) (whole : Result B TinFault)
    → whole ≡ Ok other → R one other → Gives R (Ok one) whole
gives_done R one other whole is h = subst (Gives R (Ok one)) (sym is) h

pub gives_same : {A B C : Type 0} (R : A → C → Type 0) (S : B → C → Type 0) (one : A) (other : B)
    (whole : Result C TinFault)
    → ((value : C) → R one value → S other value) → Gives R (Ok one) whole → Gives S (Ok other) whole
gives_same R S one other whole on h = grind arith

pub gives_weaker : {A B : Type 0} (R S : A → B → Type 0) (result : Result A TinFault) (whole : Result B TinFault)
    → ((one : A) (other : B) → R one other → S one other) → Gives R result whole → Gives S result whole
gives_weaker R S result whole on h = grind arith
