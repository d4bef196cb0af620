-- The invariant of the loop of `rings_fit` in src/premises.rt.
use Rattle.std.proofs.Common.{take}
use Rattle.std.specs.List.{AllByRecursion}
use Rattle.change_places.specs.Words.{ring_words}
use Rattle.change_places.specs.Laws.{IsRingHeld}
use Rattle.change_places.proofs.premises.rings_fit.Given as goal

abbrev pub invariant-loop-ring : goal.invariant-loop-ring
invariant-loop-ring l = AllByRecursion (λ ring. IsRingHeld (ring_words l.texts ring)) (take l.ring-index l.rings)
