-- The number of each status.
use Rattle.std.specs.Prelude.{ℕ}
use Rattle.ledger_runs.specs.declared.status.LedgerStatus.{LedgerStatus}
use Rattle.ledger_runs.specs.declared.status.LedgerStatus.TheVariants.{Done, Words, Script, Report, Read, Write, Memory, Limit, Keeper}

abbrev pub code_of : LedgerStatus → ℕ
code_of Done = 0
code_of Words = 2
code_of Script = 3
code_of Report = 4
code_of Read = 6
code_of Write = 7
code_of Memory = 8
code_of Limit = 9
code_of Keeper = 10
