-- A part without empty lines is not divided: no line of it ends a free text. An empty line after it
-- ends the part, or is its last line.
use Rattle.std.proofs.Common.{◌≡◌, ◌⊎◌, inl, inr, false, List, [], ◌∷◌, ◌++◌, refl}
use Rattle.std.specs.List.{AllByRecursion}
use Rattle.ssim_mailbox.specs.declared.free_text.FreeText.{FreeText}
use Rattle.ssim_mailbox.specs.declared.free_text.FreeText.TheVariants.{Ahead, Begun, Divided}
use Rattle.ssim_mailbox.specs.FreeTexts.{cut_parts, ended, ends_text, free_after}
use Rattle.ssim_mailbox.specs.Lines.{MailLine}
use Rattle.ssim_mailbox.specs.Texts.{is_empty}

not_ended : (free : FreeText) (line : MailLine) → is_empty line ≡ false → ends_text free line.bytes ≡ false
not_ended Ahead line h = refl
not_ended Divided line h = refl
not_ended Begun line h = h

whole : (free : FreeText) (lines : List MailLine) → AllByRecursion (λ line. is_empty line ≡ false) lines → ended free lines ≡ lines ∷ []
whole free [] h = refl
whole free (line ∷ lines) h = let more = whole (free_after free line.bytes) lines h.1 in rw (not_ended free line h.0, more) refl

-- the first part, if it has no empty lines, and the parts below it
pub whole_first : (lines : List MailLine) (parts : List (List MailLine)) → AllByRecursion (λ line. is_empty line ≡ false) lines → cut_parts (lines ∷ parts) ≡ lines ∷ cut_parts parts
whole_first lines parts h = let one = whole Ahead lines h in rw one refl

-- The lines of a part and an empty line below them: it is one of them, or ends them.
ends_or_not : (free : FreeText) (lines : List MailLine) (last : MailLine) → last.bytes ≡ [] → AllByRecursion (λ line. is_empty line ≡ false) lines
    → (ended free (lines ++ last ∷ []) ≡ (lines ++ last ∷ []) ∷ []) ⊎ (ended free (lines ++ last ∷ []) ≡ lines ∷ [] ∷ [])
ends_or_not Ahead [] last e h = inl refl
ends_or_not Divided [] last e h = inl refl
ends_or_not Begun [] last e h = inr (rw e refl)
ends_or_not free (line ∷ lines) last e h = by (ends_or_not (free_after free line.bytes) lines last e h.1)
  where
    by : (ended (free_after free line.bytes) (lines ++ last ∷ []) ≡ (lines ++ last ∷ []) ∷ []) ⊎ (ended (free_after free line.bytes) (lines ++ last ∷ []) ≡ lines ∷ [] ∷ [])
        → (ended free (line ∷ lines ++ last ∷ []) ≡ (line ∷ lines ++ last ∷ []) ∷ []) ⊎ (ended free (line ∷ lines ++ last ∷ []) ≡ (line ∷ lines) ∷ [] ∷ [])
    by (inl one) = let kept = not_ended free line h.0 in inl (rw (kept, one) refl)
    by (inr two) = let kept = not_ended free line h.0 in inr (rw (kept, two) refl)

-- the same of the first part
pub blank_first : (lines : List MailLine) (last : MailLine) (parts : List (List MailLine)) → last.bytes ≡ [] → AllByRecursion (λ line. is_empty line ≡ false) lines
    → (cut_parts ((lines ++ last ∷ []) ∷ parts) ≡ (lines ++ last ∷ []) ∷ cut_parts parts) ⊎ (cut_parts ((lines ++ last ∷ []) ∷ parts) ≡ lines ∷ [] ∷ cut_parts parts)
blank_first lines last parts e h = by (ends_or_not Ahead lines last e h)
  where
    by : (ended Ahead (lines ++ last ∷ []) ≡ (lines ++ last ∷ []) ∷ []) ⊎ (ended Ahead (lines ++ last ∷ []) ≡ lines ∷ [] ∷ [])
        → (cut_parts ((lines ++ last ∷ []) ∷ parts) ≡ (lines ++ last ∷ []) ∷ cut_parts parts) ⊎ (cut_parts ((lines ++ last ∷ []) ∷ parts) ≡ lines ∷ [] ∷ cut_parts parts)
    by (inl one) = inl (rw one refl)
    by (inr two) = inr (rw two refl)
