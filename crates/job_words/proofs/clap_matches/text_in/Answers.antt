-- Answers to the goals of `text_in` in src/clap_matches.rt.
use Rattle.std.proofs.Common.{ap, [], ◌∙◌, unwrap_or}
use Rattle.clap.specs.Matches.{found_of}
use Rattle.clap.proofs.WalkLemmas.{first_value-rows}
use Rattle.job_words.proofs.Flags.{text-or}
use Rattle.job_words.proofs.clap_matches.text_in.Goals as goal

pub returns : goal.returns
returns c =
    let is = ap (λ text. text.now) c.unwrap_or.ensures ∙ text-or c.get_str.result _ in
    is ∙ ap (λ text. unwrap_or text []) (c.get_str.ensures
    ∙ first_value-rows (found_of c.args.matches.now) c.args.id.now)
