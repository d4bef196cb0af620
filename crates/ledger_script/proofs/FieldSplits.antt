-- Names with one space between two, read one after the other.
use Rattle.std.proofs.Common.{◌≡◌, ℕ, ◌≤◌, true, List, [], ◌∷◌, ◌++◌, nat_le, refl, sym, ap, subst, arith, ◌∙◌}
use Rattle.std.specs.List.{AllByRecursion}
use Rattle.std.proofs.lemmas.Bool.{and_parts, leb-true}
use Rattle.std.proofs.lemmas.List.{length-append}
use Rattle.ledger_script.specs.ScriptText.{IsScriptName, spaced_text, are_visible}
use Rattle.std.proofs.Common.{Err, IsErrOf}
use Rattle.ledger_script.specs.declared.script_lines.LineFault.{LineFault}
use Rattle.ledger_script.specs.declared.script_lines.LineFault.TheVariants.{Bad, NoMemory}
use Rattle.ledger_script.specs.InsideLineKinds.{IsField, NamesField, Spells}

-- a name has no space
visible-field : (text : List ℕ) → are_visible text ≡ true → IsField text
visible-field [] is = tt
visible-field (byte ∷ text) is =
    let parts = and_parts (nat_le 33 byte) (are_visible text) is in
    let high : 33 ≤ byte = leb-true 33 byte parts.0 in
    (λ space. absurd (omega (arith, high, space)), visible-field text parts.1)

name-field : (name : List ℕ) → IsScriptName name → IsField name
name-field name is = visible-field name is.visible

-- two first fields that a space ends are one
one-field : (x y r s : List ℕ) → IsField x → IsField y → x ++ 32 ∷ r ≡ y ++ 32 ∷ s → (x ≡ y) × (r ≡ s)
one-field [] [] r s here there is = (refl, cc)
one-field [] (b ∷ y) r s here there is = absurd (there.0 (cc))
one-field (a ∷ x) [] r s here there is = absurd (here.0 (cc))
one-field (a ∷ x) (b ∷ y) r s here there is =
    let first : a ≡ b = cc in
    let rest : x ++ 32 ∷ r ≡ y ++ 32 ∷ s = cc in
    let same = one-field x y r s here.1 there.1 rest in
    (ap (λ z. a ∷ z) same.0 ∙ ap (λ c. c ∷ y) first, same.1)

-- a field has no space
no-space : (x y s : List ℕ) → IsField x → x ≡ y ++ 32 ∷ s → ⊥
no-space [] [] s here is = cc
no-space [] (b ∷ y) s here is = cc
no-space (a ∷ x) [] s here is = here.0 (cc)
no-space (a ∷ x) (b ∷ y) s here is = let rest : x ≡ y ++ 32 ∷ s = cc in no-space x y s here.1 rest

-- the names after the first field
pub record SpellsBehind (field behind : List ℕ) (names : List (List ℕ)) : Type 0 where
  pub name : IsScriptName field
  pub rest : List (List ℕ)
  pub spells : Spells behind rest
  pub all : names ≡ field ∷ rest

-- where a space ends the first field, it is the first name, and the others come after it
spells-field : (text field behind : List ℕ) (names : List (List ℕ)) → IsField field
    → text ≡ field ++ 32 ∷ behind → Spells text names → SpellsBehind field behind names
spells-field text field behind [] is-field is spells = absurd (omega (arith, spells.some))
spells-field text field behind (name ∷ []) is-field is spells =
    absurd (no-space name field behind (name-field name spells.held.0) (sym spells.whole ∙ is))
spells-field text field behind (name ∷ next ∷ names) is-field is spells =
    let same = one-field name field (spaced_text (next ∷ names)) behind (name-field name spells.held.0) is-field
    (sym spells.whole ∙ is) in
    record {
      name = subst IsScriptName same.0 spells.held.0;
      rest = next ∷ names;
      spells = record { some = omega arith; held = spells.held.1; whole = sym same.1 };
      all = ap (λ n. n ∷ next ∷ names) same.0;
    }

-- where no space ends it, it is the only name
spells-last : (text : List ℕ) (names : List (List ℕ)) → IsField text → Spells text names
    → IsScriptName text
spells-last text [] is-field spells = absurd (omega (arith, spells.some))
spells-last text (name ∷ []) is-field spells = subst IsScriptName (sym spells.whole) spells.held.0
spells-last text (name ∷ next ∷ names) is-field spells =
    absurd (no-space text name (spaced_text (next ∷ names)) is-field spells.whole)

-- names so far, each with a space after it, and the rest
abbrev pub ended : List (List ℕ) → List ℕ → List ℕ
ended [] rest = rest
ended (name ∷ names) rest = name ++ 32 ∷ ended names rest

-- this many names were read: they and the rest are the text, and whatever else the text spells, the rest spells its end
pub record HaveRead (text rest : List ℕ) (names : List (List ℕ)) : Type 0 where
  pub held : AllByRecursion IsScriptName names
  pub whole : text ≡ ended names rest
  pub others : (all : List (List ℕ)) → Spells text all → (more : List (List ℕ)) × Spells rest more

all-push : (names : List (List ℕ)) (name : List ℕ) → AllByRecursion IsScriptName names → IsScriptName name
    → AllByRecursion IsScriptName (names ++ name ∷ [])
all-push [] name held is = (is, tt)
all-push (first ∷ names) name held is = (held.0, all-push names name held.1 is)

ended-more : (names : List (List ℕ)) (name rest : List ℕ)
    → ended names (name ++ 32 ∷ rest) ≡ ended (names ++ name ∷ []) rest
ended-more [] name rest = refl
ended-more (first ∷ names) name rest = ap (λ text. first ++ 32 ∷ text) (ended-more names name rest)

joined-ended : (names : List (List ℕ)) (name : List ℕ) → ended names name ≡ spaced_text (names ++ name ∷ [])
joined-ended (first ∷ next ∷ names) name = ap (λ text. first ++ 32 ∷ text) (joined-ended (next ∷ names) name)
joined-ended names name = refl

-- one more name was read
pub have-more : (text rest field behind : List ℕ) (names all : List (List ℕ)) → HaveRead text rest names
    → IsField field → rest ≡ field ++ 32 ∷ behind → IsScriptName field → all ≡ names ++ field ∷ []
    → HaveRead text behind all
have-more text rest field behind names all have is-field is name added =
    subst (HaveRead text behind) (sym added)
    (record {
      held = all-push names field have.held name;
      whole = have.whole ∙ ap (ended names) is ∙ ended-more names field behind;
      others = λ other spells.
          let more = have.others other spells in
          let step = spells-field rest field behind more.0 is-field is more.1 in
          (step.rest, step.spells);
    })

-- the last name was read
pub have-all : (text rest : List ℕ) (names all : List (List ℕ)) → HaveRead text rest names → IsScriptName rest
    → all ≡ names ++ rest ∷ [] → Spells text all
have-all text rest names all have name added = subst (Spells text) (sym added)
    (record {
      some = rw (length-append names (rest ∷ [])) (omega arith);
      held = all-push names rest have.held name;
      whole = have.whole ∙ joined-ended names rest;
    })

-- a field that is no name
pub bad-field : (text rest field behind : List ℕ) (names other : List (List ℕ)) → HaveRead text rest names
    → IsField field → rest ≡ field ++ 32 ∷ behind → (IsScriptName field → ⊥) → Spells text other → ⊥
bad-field text rest field behind names other have is-field is never spells =
    let more = have.others other spells in
    never (spells-field rest field behind more.0 is-field is more.1).name

pub bad-last : (text rest : List ℕ) (names other : List (List ℕ)) → HaveRead text rest names → IsField rest
    → (IsScriptName rest → ⊥) → Spells text other → ⊥
bad-last text rest names other have is-field never spells =
    let more = have.others other spells in never (spells-last rest more.0 is-field more.1)

-- a field that was refused for another cause than memory is no name
pub refused-field : {T : Type 0} (field : List ℕ) (fault : LineFault) → NamesField field (Err fault)
    → IsErrOf {T = T} (Err fault) Bad → IsScriptName field → ⊥
refused-field field Bad refused is = refused
refused-field field NoMemory refused is = absurd (cc)
