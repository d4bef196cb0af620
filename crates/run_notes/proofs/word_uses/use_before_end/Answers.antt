-- Answers to the goals of `use_before_end` in src/word_uses.rt.
use Rattle.run_notes.specs.InsideWordFlaws.{form_in, uses_in}
use Rattle.run_notes.proofs.UseLists.{flag-goes-on, word-goes-on}
use Rattle.run_notes.proofs.word_uses.use_before_end.Goals as goal

pub returns-in-Flag : goal.returns-in-Flag
returns-in-Flag c =
    flag-goes-on (form_in c.args.form.now) (uses_in c.args.before.now) c.args.word c.args.behind.now c.option_use.result
    c.requires c.in-Flag.ensures c.option_use.ensures

pub returns-in-InOneWord : goal.returns-in-InOneWord
returns-in-InOneWord c =
    let (is, lacks, takes) = c.in-InOneWord.ensures in
    word-goes-on (form_in c.args.form.now) (uses_in c.args.before.now) c.args.word.now c.in-InOneWord.name
    c.in-InOneWord.value c.args.behind.now
    c.option_use-in-InOneWord.result c.requires is lacks takes c.option_use-in-InOneWord.ensures
