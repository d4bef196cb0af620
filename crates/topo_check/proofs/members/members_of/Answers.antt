-- Answers to the goals of `members_of` in src/members.rt.
use Rattle.std.proofs.Common.{◌≡◌, ◌<◌, All, List, length, sym, ap, subst, ◌∙◌, arith}
use Rattle.number_groups.specs.declared.groups.Entry.{Entry}
use Rattle.number_groups.specs.Groups.{numbers_under}
use Rattle.topo_check.proofs.KindNumbers.{keys_below, length_numbered, members_by}
use Rattle.topo_check.proofs.members.members_of.Goals as goal

pub group-requires-clause-keys : goal.group-requires-clause-keys
group-requires-clause-keys c = subst (λ (es : List Entry). All (λ (e : Entry). e.key < c.args.count) es)
    (sym (c.deref.ensures.value ∙ c.in_ok-entries.ensures))
    (keys_below 0 c.args.count c.args.kinds.now c.requires.kinds)

pub group-requires-clause-count : goal.group-requires-clause-count
group-requires-clause-count c =
    let e : length c.deref.result.now ≡ length c.args.kinds.now =
    ap (λ (es : List Entry). length es) (c.deref.ensures.value ∙ c.in_ok-entries.ensures)
    ∙ length_numbered 0 c.args.kinds.now in omega (arith, e, c.requires.few)

pub returns : goal.returns
returns c =
    members_by c.args.kinds.now c.args.count c.in_ok-members.members c.in_ok-members.ensures.count
    (λ k within. c.in_ok-members.ensures.each k within
    ∙ ap (λ (es : List Entry). numbers_under k es) (c.deref.ensures.value ∙ c.in_ok-entries.ensures))
