-- Answers to the goals of `first_token` in src/tokens.rt.
use Rattle.std.proofs.lemmas.List.Sums.{prefix_len-le-length}
use Rattle.wkt_layer.specs.Tokens.{is_numeric}
use Rattle.wkt_layer.proofs.tokens.first_token.Goals as goal

pub returns-then-is_numeric-clause-within : goal.returns-then-is_numeric-clause-within
returns-then-is_numeric-clause-within c = rw c.numerics.ensures (prefix_len-le-length is_numeric c.args.line.now)
