-- Bytes that are the same as text of a page.
use Rattle.std.proofs.Common.{◌≡◌, ◌&&◌, ◌==◌, ◌++◌, Bool, true, false, not, nat_lt, cond, ℕ, List, []}
use Rattle.std.proofs.Common.{◌∷◌, refl, sym, ap₂, true≢false, codes}
use Rattle.std.specs.List.{list_all}
use Rattle.ssim_page.specs.Html.{escaped}
use Rattle.ssim_page.specs.internal.PlainBytes.{is_plain}

-- the four tests of a byte, one after another
by_tests : (b : ℕ) (t u v w : Bool) → (not t && not u && not v && w) ≡ true
    → cond t (codes "&amp;") (cond u (codes "&lt;") (cond v (codes "&gt;")
    (cond w (b ∷ []) (codes "&#65533;")))) ≡ b ∷ []
by_tests b true u v w h = absurd (true≢false (sym h))
by_tests b false true v w h = absurd (true≢false (sym h))
by_tests b false false true w h = absurd (true≢false (sym h))
by_tests b false false false true h = refl
by_tests b false false false false h = absurd (true≢false (sym h))

-- plain bytes are their own text
pub plain_text : (bytes : List ℕ) → list_all is_plain bytes ≡ true → escaped bytes ≡ bytes
plain_text [] h = refl
plain_text (b ∷ bytes) h = by (is_plain b) refl h (plain_text bytes)
  where
    by : (t : Bool) → is_plain b ≡ t → (t && list_all is_plain bytes) ≡ true
        → (list_all is_plain bytes ≡ true → escaped bytes ≡ bytes) → escaped (b ∷ bytes) ≡ b ∷ bytes
    by true is h more =
        ap₂ (λ (x y : List ℕ). x ++ y)
        (by_tests b (b == 38) (b == 60) (b == 62) (nat_lt b 127) is) (more h)
    by false is h more = absurd (true≢false (sym h))
