-- Answers to the goals of `Asked::tell_one` in src/level_partners.rt.
use Rattle.std.proofs.Common.{◌≡◌, ℕ, List, refl, sym, subst}
use Rattle.std.proofs.lemmas.Bool.{false≢true}
use Rattle.cell_grid.specs.InsideLevelPartners.{IsTellable, DoesTell}
use Rattle.cell_grid.proofs.Tells.{tell_none, tell_one}
use Rattle.cell_grid.proofs.OffsetBoxes.{told_same, told_back}
use Rattle.cell_grid.proofs.level_partners.PartnerSearch.tell_one.Goals as goal

pub returns-then-not-is_told : goal.returns-then-not-is_told
returns-then-not-is_told c =
    tell_none (λ n. (n ≡ c.args.number) × IsTellable c.args.self.now c.args.boxes.now.boxes c.args.window.index n)
    c.args.found.now.items
    (λ n h. absurd (false≢true (c.if-not-is_told.ensures.1
    (told_same c.args.self.now c.args.boxes.now c.args.window.index n c.args.number c.offsets.result.now c.requires.low
    c.offsets.ensures h.0 h.1.told))))

pub returns : goal.returns
returns c =
    subst (λ (l : List ℕ). DoesTell (λ n. (n ≡ c.args.number)
    × IsTellable c.args.self.now c.args.boxes.now.boxes c.args.window.index n) c.args.found.now.items l)
    (sym c.in_ok-push.ensures.items)
    (tell_one (λ n. (n ≡ c.args.number) × IsTellable c.args.self.now c.args.boxes.now.boxes c.args.window.index n)
    c.args.found.now.items c.args.number (
      refl,
      record {
        from = c.requires.from;
        told =
            told_back c.args.self.now c.args.boxes.now c.args.window.index c.args.number c.offsets.result.now
            c.requires.low
            c.offsets.ensures (c.if-not-is_told.ensures.0 refl);
      },
    )
    (λ n h. h.0))
