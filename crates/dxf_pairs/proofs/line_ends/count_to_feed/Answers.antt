-- Answers to the goals of `count_to_feed` in src/line_ends.rt.
use Rattle.memchr.specs.Find.{is_byte}
use Rattle.dxf_pairs.specs.declared.line_ends.TheConstants.{LINE_FEED}
use Rattle.dxf_pairs.proofs.LineLists.{first_taken}
use Rattle.dxf_pairs.proofs.line_ends.count_to_feed.Goals as goal

pub returns : goal.returns
returns c = first_taken (is_byte LINE_FEED) c.args.text.now c.memchr_iter.result c.next.new.self c.next.result
    c.memchr_iter.ensures.value c.next.ensures.steps
