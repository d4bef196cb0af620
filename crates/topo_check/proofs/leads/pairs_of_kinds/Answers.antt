-- Answers to the goals of `pairs_of_kinds` in src/leads.rt.
use Rattle.std.proofs.Common.{◌≡◌, ◌<◌, ◌≤◌, ℕ, List, [], length, map, All, sym, ap₂, subst, ◌∙◌, arith}
use Rattle.std.proofs.lemmas.List.{length-map, get_or_default}
use Rattle.topo_check.specs.declared.comparisons.ChangedPair.{ChangedPair}
use Rattle.topo_check.specs.Changes.{piece_at}
use Rattle.topo_check.specs.InsideKinds.{AreMembersOf, AreSortsOf, ArePairsOfKinds, IsFoundOf, of_firsts}
use Rattle.topo_check.specs.InsidePairs.{AreCollected, AreInRange, DoesCollect}
use Rattle.topo_check.proofs.KindNumbers.{sorts_by}
use Rattle.topo_check.proofs.OfKinds.{found_pairs_of, found_in_range, firsts_collected, of_kinds_collected}
use Rattle.topo_check.proofs.leads.pairs_of_kinds.Goals as goal

pub pairs_of_firsts-requires : goal.pairs_of_firsts-requires
pairs_of_firsts-requires c =
    let tin = c.args.tin.now in let pieces = c.args.pieces.now in let most = c.args.most in
    let firsts : List ℕ = c.args.kinds.now.firsts.items in let found : List ChangedPair = c.in_ok-found.found.items in
    let collected : AreCollected tin (map (piece_at pieces) firsts) most found =
    subst (λ (fs : List ℕ). AreCollected tin (map (piece_at pieces) fs) most found) c.deref.ensures.value
    c.in_ok-found.ensures in
    subst (λ (fs : List ℕ). AreInRange (length fs) c.deref-then-len-most-2.result.now)
    (sym c.deref-then-len-most.ensures.value)
    (subst (λ (ps : List ChangedPair). AreInRange (length firsts) ps) (sym c.deref-then-len-most-2.ensures.value)
    (found_in_range tin (map (piece_at pieces) firsts) most (length firsts) found
    (length-map firsts (piece_at pieces)) collected))

pub returns-then-len-most : goal.returns-then-len-most
returns-then-len-most c =
    let tin = c.args.tin.now in let pieces = c.args.pieces.now in let most = c.args.most in
    let firsts : List ℕ = c.args.kinds.now.firsts.items in let found : List ChangedPair = c.in_ok-found.found.items in
    let collected : AreCollected tin (map (piece_at pieces) firsts) most found =
    subst (λ (fs : List ℕ). AreCollected tin (map (piece_at pieces) fs) most found) c.deref.ensures.value
    c.in_ok-found.ensures in
    let over : most < length found = omega (arith, c.if-len-most.true, c.len.ensures, c.in_ok-found.found.ok.0) in
    subst (λ (ps : List ChangedPair). AreCollected tin pieces most ps)
    (sym (c.in_ok-more.ensures ∙ ap₂ (λ (fs : List ℕ) (ps : List ChangedPair). map (of_firsts fs) ps)
    c.deref-then-len-most.ensures.value c.deref-then-len-most-2.ensures.value))
    (firsts_collected tin pieces most firsts c.args.kinds.now.kinds.items found c.requires.kinds collected over)

pub members_of-requires-clause-kinds : goal.members_of-requires-clause-kinds
members_of-requires-clause-kinds c =
    let kinds : List ℕ = c.args.kinds.now.kinds.items in
    subst (λ (ks : List ℕ). All (λ kind. kind < c.len-2.result) ks) (sym c.deref-2.ensures.value)
    (λ k d within.
    let here : k < length c.args.pieces.now = omega (arith, within, c.requires.kinds.same) in
    subst (λ (n : ℕ). n < c.len-2.result) (sym (get_or_default kinds k d 0 within))
    (omega (arith, c.requires.kinds.kind k here, c.len-2.ensures, c.args.kinds.now.firsts.ok.0)))

pub spread-requires-clause-members : goal.spread-requires-clause-members
spread-requires-clause-members c =
    let firsts : List ℕ = c.args.kinds.now.firsts.items in let kinds : List ℕ = c.args.kinds.now.kinds.items in
    let count : c.len-2.result ≡ length firsts = omega (arith, c.len-2.ensures, c.args.kinds.now.firsts.ok.0) in
    let members : AreMembersOf kinds (length firsts) c.in_ok-members.members =
    subst (λ (ks : List ℕ). AreMembersOf ks (length firsts) c.in_ok-members.members) c.deref-2.ensures.value
    (subst (λ (n : ℕ). AreMembersOf c.deref-2.result.now n c.in_ok-members.members) count
    c.in_ok-members.ensures) in
    subst (λ (n : ℕ). AreSortsOf n c.in_ok-members.members) c.requires.kinds.same
    (sorts_by kinds (length firsts) c.in_ok-members.members members)

pub spread-requires-clause-found : goal.spread-requires-clause-found
spread-requires-clause-found c =
    let tin = c.args.tin.now in let pieces = c.args.pieces.now in let most = c.args.most in
    let firsts : List ℕ = c.args.kinds.now.firsts.items in let found : List ChangedPair = c.in_ok-found.found.items in
    let collected : AreCollected tin (map (piece_at pieces) firsts) most found =
    subst (λ (fs : List ℕ). AreCollected tin (map (piece_at pieces) fs) most found) c.deref.ensures.value
    c.in_ok-found.ensures in
    let size : length firsts ≡ length c.in_ok-members.members =
    omega (arith, c.len-2.ensures, c.args.kinds.now.firsts.ok.0, c.in_ok-members.ensures.same) in
    subst (λ (ps : List ChangedPair). ArePairsOfKinds (length c.in_ok-members.members) ps) (sym c.deref-3.ensures.value)
    (found_pairs_of tin (map (piece_at pieces) firsts) most (length c.in_ok-members.members) found
    (length-map firsts (piece_at pieces) ∙ size) collected)

pub returns : goal.returns
returns c =
    let tin = c.args.tin.now in let pieces = c.args.pieces.now in let most = c.args.most in
    let firsts : List ℕ = c.args.kinds.now.firsts.items in let kinds : List ℕ =
    c.args.kinds.now.kinds.items in let found : List ChangedPair = c.in_ok-found.found.items in
    let collected : AreCollected tin (map (piece_at pieces) firsts) most found =
    subst (λ (fs : List ℕ). AreCollected tin (map (piece_at pieces) fs) most found) c.deref.ensures.value
    c.in_ok-found.ensures in
    let count : c.len-2.result ≡ length firsts = omega (arith, c.len-2.ensures, c.args.kinds.now.firsts.ok.0) in
    let members : AreMembersOf kinds (length firsts) c.in_ok-members.members =
    subst (λ (ks : List ℕ). AreMembersOf ks (length firsts) c.in_ok-members.members) c.deref-2.ensures.value
    (subst (λ (n : ℕ). AreMembersOf c.deref-2.result.now n c.in_ok-members.members) count
    c.in_ok-members.ensures) in
    let few : length found ≤ most = omega (arith, c.if-len-most.false, c.len.ensures, c.in_ok-found.found.ok.0) in
    of_kinds_collected tin pieces most firsts kinds c.in_ok-members.members found c.in_ok-pairs.pairs.items
    c.requires.kinds members collected few
    (subst (λ (ps : List ChangedPair). DoesCollect tin pieces most (IsFoundOf c.in_ok-members.members ps) []
    c.in_ok-pairs.pairs.items) c.deref-3.ensures.value c.in_ok-pairs.ensures)
