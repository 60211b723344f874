-- The letters of the three parts, one after another, are the text.
use Rattle.std.proofs.Common.{◌≡◌, length, ◌∙◌, refl, rules}
use Rattle.ssim_columns.proofs.lemmas.Slices.{three_sevens}
use Rattle.ssim_columns.proofs.leg.period_text.dates_text.Goals as goal

pub returns : goal.returns
returns c =
    let first : length c.write.result ≡ 7 = search rules in
    let last : length c.end_text.result ≡ 7 = search rules in
    let days : length c.write-2.result ≡ 7 = search rules in
    three_sevens c.write.result c.end_text.result c.write-2.result first last days
    ∙ rw (c.write.ensures.value, c.end_text.ensures, c.write-2.ensures.places) refl
