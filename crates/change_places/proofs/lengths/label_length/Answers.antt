-- Answers to the goals of `label_length` in src/lengths.rt.
use Rattle.std.proofs.Common.{◌≡◌, ◌<◌, ◌^◌, rules}
use Rattle.layer_features.specs.declared.features.Label.TheVariants.{Number}
use Rattle.change_places.proofs.FeatureLengths.{ten_digits}
use Rattle.change_places.proofs.lengths.label_length.Goals as goal

pub returns-in-Some-Number-clause-most : goal.returns-in-Some-Number-clause-most
returns-in-Some-Number-clause-most c text =
    let small : c.in-Some-Number.field-0-0 < 2 ^ 32 = search rules in
    let number : c.in-Some-Number.field-0 ≡ Number c.in-Some-Number.field-0-0 =
    rw c.in-Some-Number.is at c.in-Some-Number.field-0-is in
    rw (c.in-Some-Number.is, number) (ten_digits c.in-Some-Number.field-0-0 small)
