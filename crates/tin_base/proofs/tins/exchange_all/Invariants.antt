-- The invariant of the loop of `exchange_all` in src/tins.rt.
use Rattle.std.proofs.Common.{◌≡◌, ◌++◌, take, drop, map}
use Rattle.tin_base.specs.ExchangedFrames.{exchanged_corner}
use Rattle.tin_base.proofs.tins.exchange_all.Given as goal

-- the corners before the present one are exchanged
abbrev pub invariant-loop-corner : goal.invariant-loop-corner
invariant-loop-corner l = l.corners ≡ map exchanged_corner (take l.corner-index l.initial.corners)
    ++ drop l.corner-index l.initial.corners
