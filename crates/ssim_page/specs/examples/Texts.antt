-- Texts, words, keys and days, checked by computation.
use Rattle.std.specs.Prelude.{◌≡◌, [], ◌∷◌, codes, refl}
use Rattle.ssim_page.specs.Html.{escaped}
use Rattle.ssim_page.specs.LegRow.{word_of}

signs : escaped (codes "<A&B>") ≡ codes "&lt;A&amp;B&gt;"
signs = refl

not_ascii : escaped (65 ∷ 255 ∷ []) ≡ codes "A&#65533;"
not_ascii = refl

nothing : word_of [] ≡ codes "."
nothing = refl

two_words : word_of (codes "C12 <") ≡ codes "C12.&lt;"
two_words = refl
