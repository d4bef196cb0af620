-- What the fields of a keeper in memory stand for.
use Rattle.ledger_core.specs.MemoryKeeper.{MemoryKeeper}
use Rattle.ledger_core.specs.declared.mem_keeper.MemKeeper.TheInside.{Inside}

abbrev pub keeper_of : Inside → MemoryKeeper
keeper_of k = record { kept = k.kept; fail = k.fail.items; calls = k.calls; faults = k.faults }
