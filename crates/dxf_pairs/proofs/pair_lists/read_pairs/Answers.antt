-- Answers to the goals of `read_pairs` in src/pair_lists.rt.
use Rattle.std.proofs.Common.{◌≡◌, Ok}
use Rattle.dxf_pairs.specs.Pairs.{drawing}
use Rattle.dxf_pairs.proofs.PairSteps.{text_form}
use Rattle.dxf_pairs.proofs.LinePlaces.{tiles, within, the_groups}
use Rattle.dxf_pairs.proofs.pair_lists.read_pairs.Goals as goal

pub returns : goal.returns
returns c =
    let whole : drawing c.args.bytes.now ≡ Ok c.in_ok-pairs.pairs.items =
    text_form c.args.bytes.now (Ok c.in_ok-pairs.pairs.items) c.starts_with.result c.starts_with.ensures.value
    c.if-starts_with.false c.in_ok-pairs.ensures.ok in
    record {
      ok = whole;
      err = tt;
      tile = tiles c.args.bytes.now c.in_ok-pairs.pairs.items whole;
      within = within c.args.bytes.now c.in_ok-pairs.pairs.items whole;
      groups = the_groups c.args.bytes.now c.in_ok-pairs.pairs.items whole;
    }
