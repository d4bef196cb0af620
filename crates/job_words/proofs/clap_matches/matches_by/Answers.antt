-- Answers to the goals of `matches_by` in src/clap_matches.rt.
use Rattle.std.proofs.Common.{◌≡◌, [], ◌==◌, length, inl, inr, ap, sym, ◌∙◌, Some, None, map, string_bytes, Result, Ok, Err, IfErr}
use Rattle.std.specs.Prelude.{if◌then◌else◌}
use Rattle.std.specs.Result.{IsErrAnd}
use Rattle.clap.specs.Simple.{app_of, built, is_simple, matches_of}
use Rattle.clap.specs.Faults.{fault_of, is_free_app}
use Rattle.clap.specs.Kinds.{Kinds}
use Rattle.clap.proofs.WalkLemmas.{both}
use Rattle.job_words.proofs.Refusals.{refused}
use Rattle.job_words.proofs.clap_matches.matches_by.Goals as goal

if-error : {T E : Type 0} (P Q : E → Type 0) (answer : Result T E) → IsErrAnd answer P → ((e : E) → P e → Q e)
    → IfErr answer Q
if-error P Q (Ok v) is follows = tt
if-error P Q (Err e) is follows = follows e is

pub returns-in_err-matches-clause-refused : goal.returns-in_err-matches-clause-refused
returns-in_err-matches-clause-refused c =
    let words = map string_bytes c.args.words.now in
    let command = app_of c.args.command in
    if-error _ _ c.from_residual.result c.from_residual.ensures.1
    (λ fault is. elim (refused (fault_of command words) c.in_err-matches.field-0.0 fault
    (c.in_err-matches.ensures.kinds c.requires) is) [
      | inl memory ↦ inl memory
      | inr parse ↦ inr (parse.0, ap (λ none. if none then Some (matches_of command words) else None) parse.1)
    ])

pub returns-clause-read : goal.returns-clause-read
returns-clause-read c =
    let words = map string_bytes c.args.words.now in
    let command = app_of c.args.command in
    let simple = (both (is_simple command) (is_free_app (built command)) c.requires).0 in
    let none : fault_of command words ≡ [] = c.in_ok-matches.ensures.kinds c.requires in
    ap (λ (kinds : Kinds). if length kinds == 0 then Some (matches_of command words) else None) none
    ∙ ap Some (sym (c.in_ok-matches.ensures.matches simple).0)
