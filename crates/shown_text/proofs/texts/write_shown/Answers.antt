-- Answers to the goals of `write_shown` in src/texts.rt.
use Rattle.std.proofs.Common.{[], ◌++◌, ℕ, List, arith, refl, rules, subst}
use Rattle.std.specs.Prelude.{codes}
use Rattle.std.specs.Fmt.{HasWritten}
use Rattle.std.proofs.Output.{has_written_append, writes_in_calls_nil}
use Rattle.std.specs.Str.Iter.{chars_rest}
use Rattle.shown_text.specs.Characters.{shown_character}
use Rattle.shown_text.specs.Texts.{shown_of}
use Rattle.shown_text.proofs.ShownSteps.{past_utf8, ends_here, goes_on, is_over}
use Rattle.shown_text.proofs.texts.write_shown.Goals as goal

pub loop-character-init : goal.loop-character-init
loop-character-init g c = (
  search rules,
  λ plain. ([], record { wrote = writes_in_calls_nil _ _; plain = plain }, search rules),
)

pub returns-then-room-size : goal.returns-then-room-size
returns-then-room-size g c = λ plain ok.
    let now = c.loop-character.invariant.1 plain in
    subst (λ (bytes : List ℕ). HasWritten g.W.Write.write_str_gives c.args.f.now bytes c.write_str.new.self)
    (ends_here now.0 (shown_of c.args.text.now) (now.0 ++ codes "..") (chars_rest c.loop-character.character-iterator)
    (chars_rest c.next.new.self) c.loop-character.room c.in-Some.character c.shown_size-size.result
    c.loop-character.invariant.0 c.in-Some.ensures.steps.0 c.shown_size-size.ensures c.if-room-size.true now.2 refl)
    (has_written_append _ _ _ _ _ _ now.1 (c.write_str.ensures.writes now.1.plain ok))

pub loop-character-preserved : goal.loop-character-preserved
loop-character-preserved g c = (
  past_utf8 (chars_rest c.loop-character.character-iterator) (chars_rest c.next.new.self) c.in-Some.character
      c.loop-character.invariant.0 c.in-Some.ensures.steps.0,
  λ plain.
      let now = c.loop-character.invariant.1 plain in (
        now.0 ++ shown_character c.in-Some.character,
        has_written_append _ _ _ _ _ _ now.1 (search rules),
        goes_on now.0 (shown_of c.args.text.now) (now.0 ++ shown_character c.in-Some.character)
            (chars_rest c.loop-character.character-iterator) (chars_rest c.next.new.self) c.loop-character.room
            c.in-Some.character c.shown_size-size.result c.loop-character.invariant.0 c.in-Some.ensures.steps.0
            c.shown_size-size.ensures (omega (arith, c.if-room-size.false)) now.2 refl,
      ),
)

pub returns : goal.returns
returns g c = λ plain ok.
    let now = c.loop-character.invariant.1 plain in
    subst (λ (bytes : List ℕ). HasWritten g.W.Write.write_str_gives c.args.f.now bytes c.loop-character.f)
    (is_over now.0 (shown_of c.args.text.now) (chars_rest c.loop-character.character-iterator) c.loop-character.room
    c.in-None.ensures.steps.0.0 now.2) now.1
