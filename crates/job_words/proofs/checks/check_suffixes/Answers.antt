-- Answers to the goals of `check_suffixes` in src/checks.rt.
use Rattle.std.proofs.Common.{ℕ, List, Bor, inr, ap, sym, ◌∙◌, option_map, not, is_some}
use Rattle.job_words.specs.declared.faults.WordsFault.TheVariants.{Suffix}
use Rattle.job_words.specs.Formats.{format_by_name}
use Rattle.job_words.proofs.TestPlaces.{position-map}
use Rattle.job_words.proofs.checks.check_suffixes.Goals as goal

pub returns-in-Some : goal.returns-in-Some
returns-in-Some c =
    let place = position-map (λ name. not (is_some (format_by_name name))) (λ (layer : Bor (List ℕ)). layer.now)
    c.args.layers.now in
    inr (ap (option_map Suffix) (sym (c.in-Some.ensures.first ∙ place)))

pub returns-in-None : goal.returns-in-None
returns-in-None c =
    let place = position-map (λ name. not (is_some (format_by_name name))) (λ (layer : Bor (List ℕ)). layer.now)
    c.args.layers.now in
    ap (option_map Suffix) (sym (c.in-None.ensures.first ∙ place))
