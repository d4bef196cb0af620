-- Answers to the goals of `is_full` in src/word_uses.rt.
use Rattle.std.proofs.Common.{◌∙◌, ap, leb}
use Rattle.run_notes.specs.WordUses.{is_plain}
use Rattle.run_notes.specs.InsideWordFlaws.{use_in}
use Rattle.run_notes.proofs.UseLists.{count_by-map}
use Rattle.run_notes.proofs.word_uses.is_full.Goals as goal

pub returns-in-Some : goal.returns-in-Some
returns-in-Some c =
    rw c.in-Some.is (ap (leb c.in-Some.most) (c.plain_count.ensures ∙ count_by-map is_plain use_in c.args.uses.now))
