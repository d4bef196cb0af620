-- A pair that stands for no pair: the value of a read outside a list.
use Rattle.std.proofs.Common.{pos}
use Rattle.dxf_pairs.specs.declared.pairs.Pair.{Pair}

abbrev pub no_pair : Pair
no_pair = record { code = pos 0; start = 0; value = 0; value_end = 0; end = 0; line = 0 }
