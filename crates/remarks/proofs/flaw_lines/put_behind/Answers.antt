-- The arms of `put_behind` in src/flaw_lines.rt.
use Rattle.std.proofs.Common.{string_bytes}
use Rattle.remarks.specs.FlawLines.{behind_word_of}
use Rattle.remarks.specs.declared.flaw_lines.WordFlaw.TheVariants.{Mode, Unknown, Twice, NoValue, Missing, TooMany}
use Rattle.remarks.proofs.PutTexts.{put_behind}
use Rattle.remarks.proofs.flaw_lines.put_behind.Goals as goal

pub returns-in-Mode : goal.returns-in-Mode
returns-in-Mode c =
    rw c.in-Mode.is (put_behind c.push_str.result (string_bytes c.args.text.now) _ (behind_word_of Mode) c.push_str.ensures.bytes)

pub returns-in-Unknown : goal.returns-in-Unknown
returns-in-Unknown c =
    rw c.in-Unknown.is (put_behind c.push_str-in-Unknown.result (string_bytes c.args.text.now) _ (behind_word_of Unknown) c.push_str-in-Unknown.ensures.bytes)

pub returns-in-Twice : goal.returns-in-Twice
returns-in-Twice c =
    rw c.in-Twice.is (put_behind c.push_str-in-Twice.result (string_bytes c.args.text.now) _ (behind_word_of Twice) c.push_str-in-Twice.ensures.bytes)

pub returns-in-NoValue : goal.returns-in-NoValue
returns-in-NoValue c =
    rw c.in-NoValue.is (put_behind c.push_str-in-NoValue.result (string_bytes c.args.text.now) _ (behind_word_of NoValue) c.push_str-in-NoValue.ensures.bytes)

pub returns-in-Missing : goal.returns-in-Missing
returns-in-Missing c =
    rw c.in-Missing.is (put_behind c.push_str-in-Missing.result (string_bytes c.args.text.now) _ (behind_word_of Missing) c.push_str-in-Missing.ensures.bytes)

pub returns-in-TooMany : goal.returns-in-TooMany
returns-in-TooMany c =
    rw c.in-TooMany.is (put_behind c.push_str-in-TooMany.result (string_bytes c.args.text.now) _ (behind_word_of TooMany) c.push_str-in-TooMany.ensures.bytes)
