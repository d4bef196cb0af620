-- The invariant and the measure of the loop of `member` in src/lookup.rt.
use Rattle.std.proofs.Common.{◌≡◌, ℕ, ◌+◌, ◌-◌, List}
use Rattle.jtext.specs.Values.{Json, Members}
use Rattle.jtext.specs.Nodes.{inner_place}
use Rattle.jtext.specs.Places.{HasNodesAt, entries_at}
use Rattle.jtext.proofs.CallerLemmas.MemberLoops.{Going}
use Rattle.jtext.proofs.lookup.member.Given as goal

abbrev pub invariant-loop-at : goal.invariant-loop-at
invariant-loop-at l = record {
  same_nodes : l.nodes ≡ l.doc.nodes;
  going : (start : ℕ) (blank : List ℕ) (members : Members)
      → HasNodesAt l.doc.nodes l.bytes l.object start (Json.object blank members)
      → Going l.doc.nodes l.bytes l.key l.end l.at l.found
      (entries_at (l.object + 1) (inner_place start blank) members);
}

abbrev pub decreases-loop-at : goal.decreases-loop-at
decreases-loop-at l = l.end - l.at
