-- Bytes that are their own characters in a text.
use Rattle.std.proofs.Common.{◌≡◌, ◌&&◌, ◌==◌, ◌++◌, ◌/◌, ◌%◌, ◌+◌, Bool, true, false, not, nat_lt, cond, ℕ}
use Rattle.std.proofs.Common.{List, [], ◌∷◌, refl, sym, ap₂, true≢false}
use Rattle.std.specs.List.{flat_map, list_all}
use Rattle.ssim_sql.specs.Literal.{quoted_byte}
use Rattle.ssim_sql.specs.internal.Values.{is_plain}

-- the two tests of a byte, one after the other
by_tests : (b : ℕ) (more : List ℕ) (t u : Bool) → (not t && u) ≡ true
    → cond t (39 ∷ 39 ∷ []) (cond u (b ∷ []) more) ≡ b ∷ []
by_tests b more true u h = absurd (true≢false (sym h))
by_tests b more false true h = refl
by_tests b more false false h = absurd (true≢false (sym h))

-- plain bytes are their own characters
pub plain_text : (bytes : List ℕ) → list_all is_plain bytes ≡ true
    → flat_map quoted_byte bytes ≡ bytes
plain_text [] h = refl
plain_text (b ∷ bytes) h = by (is_plain b) refl h (plain_text bytes)
  where
    by : (t : Bool) → is_plain b ≡ t → (t && list_all is_plain bytes) ≡ true
        → (list_all is_plain bytes ≡ true → flat_map quoted_byte bytes ≡ bytes)
        → flat_map quoted_byte (b ∷ bytes) ≡ b ∷ bytes
    by true is h more =
        ap₂ (λ (x y : List ℕ). x ++ y)
        (by_tests b ((192 + b / 64) ∷ (128 + b % 64) ∷ []) (b == 39) (nat_lt b 128) is) (more h)
    by false is h more = absurd (true≢false (sym h))
