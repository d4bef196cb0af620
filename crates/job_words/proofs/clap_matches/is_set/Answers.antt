-- Answers to the goals of `is_set` in src/clap_matches.rt.
use Rattle.std.proofs.Common.{ap, false, ◌∙◌, codes}
use Rattle.std.specs.Option.{option_map_or}
use Rattle.std.specs.Str.{bytes_eq}
use Rattle.clap.specs.Matches.{found_of, one_text}
use Rattle.clap.proofs.WalkLemmas.{one_text-rows}
use Rattle.job_words.proofs.Flags.{flag-read}
use Rattle.job_words.proofs.clap_matches.is_set.Goals as goal

pub returns : goal.returns
returns c =
    let read = flag-read _ (one_text (found_of c.args.matches.now) c.args.id.now) c.get_one.result
    c.get_one.ensures.none c.get_one.ensures.value in
    c.unwrap_or.ensures ∙ read ∙ ap (λ text. option_map_or (bytes_eq (codes "true")) text false)
    (one_text-rows (found_of c.args.matches.now) c.args.id.now)
