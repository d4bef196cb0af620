-- The invariants of `are_following` in src/right_lists.rt.
use Rattle.cert_check.proofs.ListPasses.{IsFollowedTo}
use Rattle.cert_check.proofs.right_lists.are_following.Given as goal

-- the list is right exactly where the rest of it is right from here on
abbrev pub invariant-loop-number : goal.invariant-loop-number
invariant-loop-number l = IsFollowedTo l.tin l.a l.b l.numbers l.number-index l.before
