-- Answers to the goals of `is_flag` in src/word_uses.rt.
use Rattle.std.proofs.Common.{◌∙◌, Bor, List, ℕ}
use Rattle.std.specs.Str.{bytes_eq}
use Rattle.clap.proofs.WalkLemmas.{list_any-map}
use Rattle.run_notes.proofs.word_uses.is_flag.Goals as goal

pub returns : goal.returns
returns c =
    c.is_among.ensures ∙ list_any-map (λ (flag : List ℕ). bytes_eq flag c.args.name.now)
    (λ (flag : Bor (List ℕ)). flag.now) c.args.form.now.flags.now
