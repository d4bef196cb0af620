-- Answers to the goals of `spread` in src/members.rt.
use Rattle.std.proofs.Common.{ℕ, ◌<◌, ◌≤◌, List, [], length, get_or, nat_eq, Contains, refl, sym, subst, arith}
use Rattle.std.specs.List.{IsDistinct}
use Rattle.topo_check.specs.InsideKinds.{members_at, IsPairAcross}
use Rattle.topo_check.specs.InsidePairs.{DoesCollect}
use Rattle.topo_check.proofs.Sorts.{no_pair, found_in, found_more, found_all}
use Rattle.topo_check.proofs.members.spread.Goals as goal
use Rattle.topo_check.proofs.members.spread.Goals.{then-loop-place-test+else-len-most, else-loop-place-test}

pub at-requires : goal.at-requires
at-requires c =
    let pair = get_or c.args.found.now c.loop-place.place no_pair in let is =
    found_in c.args.found.now c.loop-place.place no_pair c.loop-place-test.true in
    omega (arith, c.requires.found.earlier pair is, c.requires.found.within pair is)

pub at-requires-in-loop-place : goal.at-requires-in-loop-place
at-requires-in-loop-place c =
    let pair = get_or c.args.found.now c.loop-place.place no_pair in let is =
    found_in c.args.found.now c.loop-place.place no_pair c.loop-place-test.true in c.requires.found.within pair is

pub spread_pair-requires-clause-numbers_once : goal.spread_pair-requires-clause-numbers_once
spread_pair-requires-clause-numbers_once c =
    let pair = get_or c.args.found.now c.loop-place.place no_pair in let is =
    found_in c.args.found.now c.loop-place.place no_pair c.loop-place-test.true in
    let first : pair.first < length c.args.members.now =
    omega (arith, c.requires.found.earlier pair is, c.requires.found.within pair is) in
    subst (λ (ns : List ℕ). IsDistinct nat_eq ns) (sym c.at.ensures) (c.requires.members.once pair.first first)

pub spread_pair-requires-clause-others_once : goal.spread_pair-requires-clause-others_once
spread_pair-requires-clause-others_once c =
    let pair = get_or c.args.found.now c.loop-place.place no_pair in let is =
    found_in c.args.found.now c.loop-place.place no_pair c.loop-place-test.true in
    subst (λ (ns : List ℕ). IsDistinct nat_eq ns) (sym c.at-in-loop-place.ensures)
    (c.requires.members.once pair.second (c.requires.found.within pair is))

pub spread_pair-requires-clause-numbers : goal.spread_pair-requires-clause-numbers
spread_pair-requires-clause-numbers c = λ n h.
    let pair = get_or c.args.found.now c.loop-place.place no_pair in let is =
    found_in c.args.found.now c.loop-place.place no_pair c.loop-place-test.true in
    let first : pair.first < length c.args.members.now =
    omega (arith, c.requires.found.earlier pair is, c.requires.found.within pair is) in
    c.requires.members.within pair.first n first (subst (λ (ns : List ℕ). Contains ns n) c.at.ensures h)

pub spread_pair-requires-clause-others : goal.spread_pair-requires-clause-others
spread_pair-requires-clause-others c = λ n h.
    let pair = get_or c.args.found.now c.loop-place.place no_pair in let is =
    found_in c.args.found.now c.loop-place.place no_pair c.loop-place-test.true in
    c.requires.members.within pair.second n (c.requires.found.within pair is)
    (subst (λ (ns : List ℕ). Contains ns n) c.at-in-loop-place.ensures h)

pub spread_pair-requires-clause-different : goal.spread_pair-requires-clause-different
spread_pair-requires-clause-different c = λ m n h g.
    let pair = get_or c.args.found.now c.loop-place.place no_pair in let is =
    found_in c.args.found.now c.loop-place.place no_pair c.loop-place-test.true in
    let first : pair.first < length c.args.members.now =
    omega (arith, c.requires.found.earlier pair is, c.requires.found.within pair is) in
    c.requires.members.apart pair.first pair.second m n first (c.requires.found.within pair is)
    (c.requires.found.earlier pair is) (subst (λ (ns : List ℕ). Contains ns m) c.at.ensures h)
    (subst (λ (ns : List ℕ). Contains ns n) c.at-in-loop-place.ensures g)

pub loop-place-preserved : goal.loop-place-preserved
loop-place-preserved c =
    let tin = c.args.tin.now in let pieces = c.args.pieces.now in let most = c.args.most in let members =
    c.args.members.now in
    let pair = get_or c.args.found.now c.loop-place.place no_pair in
    let here : c.loop-place.place < length c.args.found.now = c.loop-place-test.true in (
      omega (arith, here),
      found_more tin pieces most members c.args.found.now c.loop-place.place pair [] c.loop-place.pairs.items
          c.spread_pair.new.pairs.items c.requires.members c.requires.found here refl c.loop-place.invariant.1
          (subst (λ (ns : List ℕ). DoesCollect tin pieces most
          (IsPairAcross (Contains ns) (Contains (members_at members pair.second))) c.loop-place.pairs.items
          c.spread_pair.new.pairs.items) c.at.ensures
          (subst (λ (ns : List ℕ). DoesCollect tin pieces most (IsPairAcross (Contains c.at.result.now) (Contains ns))
          c.loop-place.pairs.items c.spread_pair.new.pairs.items) c.at-in-loop-place.ensures
          c.in_ok-spread_pair.ensures)),
    )

pub returns : goal.returns
returns c =
    let past : length c.loop-place.pairs.items ≤ c.args.most
    → length c.args.found.now ≤ c.loop-place.place =
    λ few. elim c.loop-place-test.branch [
      | then-loop-place-test+else-len-most w ↦
          absurd (omega (arith, few, w.len.ensures, w.if-len-most.false, c.loop-place.pairs.ok.0))
      | else-loop-place-test
          w ↦ w.loop-place-test.false
    ] in
    found_all c.args.tin.now c.args.pieces.now c.args.most c.args.members.now c.args.found.now c.loop-place.place []
    c.loop-place.pairs.items c.loop-place.invariant.0 past c.loop-place.invariant.1
