-- Answers to the goals of `images_of_line` in src/handle_counts.rt.
use Rattle.std.proofs.Common.{◌∙◌, ap, sym, length}
use Rattle.sheet_base.specs.ImageFits.{path_images}
use Rattle.dxf_copies.proofs.HandleCounts.{positions_count}
use Rattle.dxf_copies.proofs.handle_counts.images_of_line.Goals as goal

pub returns : goal.returns
returns c =
    let images = c.args.page.now.images.now in
    ap length (c.of_path.ensures ∙ ap (λ paths. path_images paths images c.args.path) c.paths.ensures.paths)
    ∙ sym (positions_count images c.heights.ensures.kept c.args.page.now.sheet.now.paths c.args.path)
