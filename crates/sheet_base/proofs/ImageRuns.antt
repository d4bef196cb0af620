-- Where the runs of images that fit a sheet are: they rise from point to point, and end with the images.
use Rattle.std.proofs.Common.{◌≡◌, ℕ, zero, suc, ◌+◌, ◌-◌, ◌≤◌, length, drop, ap, arith}
use Rattle.std.proofs.Math.ListN.{get_or-eq_default}
use Rattle.std.proofs.lemmas.List.{length-take-le, length-drop}
use Rattle.sheet_base.specs.Sheets.{Contents}
use Rattle.sheet_base.specs.ImageFits.{Runs, run_begin, images_of, DoFit}

-- after the last point is no image
pub last_end : (sheet : Contents) (images : Runs) → DoFit sheet images
    → run_begin images (length sheet.points) ≡ length images.points
last_end sheet images fit = get_or-eq_default images.run (length images.points) (omega (arith, fit.one_each))

-- this many points have at least this many images
pub spread : (sheet : Contents) (images : Runs) → DoFit sheet images → (from count : ℕ)
    → from + count ≤ length sheet.points → run_begin images from + count ≤ run_begin images (from + count)
spread sheet images fit from zero within = let e : from + 0 ≡ from = omega arith in let f =
    ap (run_begin images) e in omega (arith, f)
spread sheet images fit from (suc count) within =
    let a = spread sheet images fit from count (omega (arith, within)) in
    let b = fit.rises (from + count) (omega (arith, within)) in
    let e : from + count + 1 ≡ from + suc count = omega arith in
    let f = ap (run_begin images) e in
    omega (arith, a, b, f)

pub ends_within : (sheet : Contents) (images : Runs) → DoFit sheet images → (past : ℕ) → past ≤ length sheet.points
    → run_begin images past ≤ length images.points
ends_within sheet images fit past within =
    let a = spread sheet images fit past (length sheet.points - past) (omega (arith, within)) in
    let e : past + (length sheet.points - past) ≡ length sheet.points = omega (arith, within) in
    let f = ap (run_begin images) e in
    omega (arith, a, f, last_end sheet images fit)

pub images_length : (sheet : Contents) (images : Runs) → DoFit sheet images → (first past : ℕ)
    → past ≤ length sheet.points → length (images_of images first past) ≡ run_begin images past - run_begin images first
images_length sheet images fit first past within =
    let a = ends_within sheet images fit past within in
    let b = length-drop (run_begin images first) images.points in
    length-take-le (run_begin images past - run_begin images first) (drop (run_begin images first) images.points)
    (omega (arith, a, b))
