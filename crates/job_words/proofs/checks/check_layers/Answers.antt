-- Answers to the goals of `check_layers` in src/checks.rt.
use Rattle.std.proofs.Common.{ℕ, List, Bor, inr, ap, sym, ◌∙◌, option_map, not}
use Rattle.job_words.specs.declared.faults.Which.TheVariants.{Layer}
use Rattle.job_words.specs.declared.faults.WordsFault.TheVariants.{Name}
use Rattle.job_words.specs.Names.{is_name}
use Rattle.job_words.proofs.TestPlaces.{position-map}
use Rattle.job_words.proofs.checks.check_layers.Goals as goal

pub returns-in-Some : goal.returns-in-Some
returns-in-Some c =
    let place = position-map (λ name. not (is_name name)) (λ (layer : Bor (List ℕ)). layer.now) c.args.layers.now in
    inr (ap (option_map (λ layer. Name (Layer layer))) (sym (c.in-Some.ensures.first ∙ place)))

pub returns-in-None : goal.returns-in-None
returns-in-None c =
    let place = position-map (λ name. not (is_name name)) (λ (layer : Bor (List ℕ)). layer.now) c.args.layers.now in
    ap (option_map (λ layer. Name (Layer layer))) (sym (c.in-None.ensures.first ∙ place))
