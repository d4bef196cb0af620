-- Answers to the goals of `flaw_of` in src/word_flaws.rt.
use Rattle.std.proofs.Common.{rules, ◌∙◌, ◌∷◌, ap, sym, map, string_bytes}
use Rattle.run_notes.specs.InsideWordFlaws.{flaw_in, form_in}
use Rattle.run_notes.proofs.FormsFound.{behind-mode}
use Rattle.run_notes.proofs.word_flaws.flaw_of.Goals as goal

pub returns-in-Some-form_of : goal.returns-in-Some-form_of
returns-in-Some-form_of c =
    behind-mode c.args.has_modes _ c.as_str.result.now (map string_bytes c.in-Some.behind.now)
    (form_in c.in-Some-form_of.form) c.args.fault flaw_in c.found_in-in-Some-form_of.result (search rules)
    (ap (map string_bytes) c.in-Some.ensures.cases.0
    ∙ ap (λ t. t ∷ map string_bytes c.in-Some.behind.now) (sym c.as_str.ensures.value))
    c.in-Some-form_of.ensures c.found_in-in-Some-form_of.ensures
