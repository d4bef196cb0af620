-- A command with the rules of more and more arguments, and with those of a mode.
use Rattle.std.proofs.Common.{◌≡◌, ◌<◌, ◌+◌, ℕ, List, [], ◌∷◌, ◌++◌, map, take, length, get_or, ap, ap₂, sym, ◌∙◌}
use Rattle.std.proofs.Common.{append_assoc, Result, Ok, Err, IfOk}
use Rattle.std.proofs.lemmas.List.{map_push, take_more}
use Rattle.clap.specs.Walk.{Rule, Text}
use Rattle.clap.specs.Simple.{App, with_rule}
use Rattle.job_words.specs.declared.modes.Mode.{Mode}
use Rattle.job_words.specs.Commands.{command_for, rules_for}
use Rattle.job_words.specs.InsideCommands.{bare_command, with_rules}
use Rattle.job_words.specs.Modes.{spelling}

pub one-more : {X : Type 0} (command : App) (rule : X → Rule) (ids : List X) (i : ℕ) (other : X) → i < length ids
    → with_rule (with_rules command (map rule (take i ids))) (rule (get_or ids i other))
    ≡ with_rules command (map rule (take (i + 1) ids))
one-more command rule ids i other within =
    let rules = command.top.rules in
    let more = map rule (take i ids) in
    ap (λ (all : List Rule). record command { top = record command.top { rules = all } })
    (append_assoc rules more (rule (get_or ids i other) ∷ [])
    ∙ ap (λ (m : List Rule). rules ++ m)
    (sym (ap (map rule) (take_more ids i other within) ∙ map_push rule (take i ids) (get_or ids i other))))

-- a bare command of a mode's name, with the mode's rules, is the command of the mode
pub whole-command : {C E : Type 0} (answer : Result C E) (app : C → App) (mode : Mode) (before : App) (name : Text)
    (rules : List Rule) → IfOk answer (λ made. app made ≡ with_rules before rules) → before ≡ bare_command name
    → name ≡ spelling mode → rules ≡ rules_for mode → IfOk answer (λ made. app made ≡ command_for mode)
whole-command (Err fault) app mode before name rules made is named are = tt
whole-command (Ok command) app mode before name rules made is named are =
    made ∙ (ap₂ with_rules is are ∙ ap (λ (n : Text). with_rules (bare_command n) (rules_for mode)) named)
