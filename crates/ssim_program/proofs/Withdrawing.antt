-- Messages that are withdrawn one after another: which are left, and what is printed.
use Rattle.std.proofs.Common.{◌≡◌, ◌≢◌, ◌↔◌, ◌∙◌, inl, inr, ℕ, ◌+◌, Bool, true, false, cond, List, [], ◌∷◌, ◌++◌, drop, None, Some, refl, sym, ap, ap₂, subst, append_assoc}
use Rattle.std.proofs.lemmas.List.{append-nil}
use Rattle.std.specs.FinMap.{contains_key, get, get-remove, remove}
use Rattle.std.specs.Ordering.{eq_by_cmp, is_eq}
use Rattle.ssim_text.specs.Message.{MessageValue}
use Rattle.ssim_text.specs.Reference.{OneReference, SpellsReference}
use Rattle.ssim_text.specs.declared.reference.Reference.{Reference}
use Rattle.ssim_held.proofs.Entries.{self_equal}
use Rattle.ssim_held.proofs.References.{reference_total}
use Rattle.ssim_held.proofs.Withdrawing.{equal_at}
use Rattle.ssim_held.specs.Held.{HeldMessages, reference_cmp}
use Rattle.ssim_command_line.specs.Line.{Text}
use Rattle.ssim_program.specs.Withdrawing.{IsNamed, Withdraws, withdrawn_line}

-- ---- one more word

-- the lines so far, and what the words that are left do, are what all words do
abbrev pub AreWithdrawn : List Text → ℕ → HeldMessages → HeldMessages → List ℕ → Type 0
AreWithdrawn words i before so_far lines =
    (after : HeldMessages) (later : List ℕ) → Withdraws (drop i words) so_far after later → Withdraws words before after (lines ++ later)

pub one_more : (words : List Text) (i : ℕ) (word : Text) (before so_far next : HeldMessages) (lines more : List ℕ) (r : Reference) (was_held : Bool) → drop i words ≡ word ∷ drop (i + 1) words
    → AreWithdrawn words i before so_far lines → SpellsReference r word → next ≡ remove so_far r → was_held ≡ contains_key so_far r → more ≡ lines ++ withdrawn_line was_held r
    → AreWithdrawn words (i + 1) before next more
one_more words i word before so_far next lines more r was_held left withdrawn spelled without was is = λ after later rest.
    let line = withdrawn_line was_held r in
    let others = subst (λ (m : HeldMessages). Withdraws (drop (i + 1) words) m after later) without rest in
    let step = subst (λ (ws : List Text). Withdraws ws so_far after (line ++ later)) (sym left) (r, spelled, later, others, ap (λ (b : Bool). withdrawn_line b r ++ later) was) in
    subst (Withdraws words before after) (sym (ap (λ (bytes : List ℕ). bytes ++ later) is ∙ append_assoc lines line later)) (withdrawn after (line ++ later) step)

pub all_withdrawn : (words : List Text) (i : ℕ) (before so_far : HeldMessages) (lines : List ℕ) → drop i words ≡ [] → AreWithdrawn words i before so_far lines → Withdraws words before so_far lines
all_withdrawn words i before so_far lines none withdrawn =
    subst (Withdraws words before so_far) (append-nil lines) (withdrawn so_far [] (subst (λ (ws : List Text). Withdraws ws so_far so_far []) (sym none) (refl, refl)))

-- ---- what is held without a message

removed_at : (held : HeldMessages) (x r : Reference) (m : MessageValue) (b : Bool) → eq_by_cmp reference_cmp r x ≡ b → cond b None (get held r) ≡ Some m → (get held r ≡ Some m) × (r ≢ x)
removed_at held x r m true e h = absurd (let never : None ≡ Some m = h in cc)
removed_at held x r m false e h = (h, λ same. let equal = ap (λ (y : Reference). eq_by_cmp reference_cmp r y) (sym same) ∙ ap is_eq (self_equal r) in let clash : true ≡ false = sym equal ∙ e in cc)

pub removed : (held : HeldMessages) (x r : Reference) (m : MessageValue) → get (remove held x) r ≡ Some m → (get held r ≡ Some m) × (r ≢ x)
removed held x r m h = removed_at held x r m (eq_by_cmp reference_cmp r x) refl (sym (get-remove reference_total held x r) ∙ h)

still_at : (held : HeldMessages) (x r : Reference) (m : MessageValue) (b : Bool) → eq_by_cmp reference_cmp r x ≡ b → get held r ≡ Some m → r ≢ x → cond b None (get held r) ≡ Some m
still_at held x r m true e h apart = absurd (apart (equal_at r x e))
still_at held x r m false e h apart = h

pub still : (held : HeldMessages) (x r : Reference) (m : MessageValue) → get held r ≡ Some m → r ≢ x → get (remove held x) r ≡ Some m
still held x r m h apart = get-remove reference_total held x r ∙ still_at held x r m (eq_by_cmp reference_cmp r x) refl h apart

module _ (one : OneReference) where
  -- the messages that are left are those that were held, but for those whose reference a word spells
  pub left_after : (words : List Text) (before after : HeldMessages) (printed : List ℕ) → Withdraws words before after printed
      → (r : Reference) (m : MessageValue) → (get after r ≡ Some m) ↔ ((get before r ≡ Some m) × (IsNamed words r → ⊥))
  left_after [] before after printed w r m = (
    λ h. (subst (λ (x : HeldMessages). get x r ≡ Some m) w.0 h, λ n. n),
    λ h. subst (λ (x : HeldMessages). get x r ≡ Some m) (sym w.0) h.0,
  )
  left_after (word ∷ words) before after printed (x, spelled, later, rest, is) r m =
      let left = left_after words (remove before x) after later rest r m in (
        λ h. let l = left.0 h in
            let p = removed before x r m l.0 in
            (p.0, λ n. elim n [ inl s ↦ p.1 (one r x word s spelled) | inr more ↦ l.1 more ]),
        λ h. left.1 (still before x r m h.0 (λ same. h.1 (inl (subst (λ (y : Reference). SpellsReference y word) (sym same) spelled))), λ more. h.1 (inr more)),
      )

  -- the words and the messages that are held determine the lines
  pub printed_once : (words : List Text) (before after other : HeldMessages) (printed again : List ℕ) → Withdraws words before after printed → Withdraws words before other again → printed ≡ again
  printed_once [] before after other printed again w v = w.1 ∙ sym v.1
  printed_once (word ∷ words) before after other printed again (x, spelled, later, rest, is) (y, spelled_too, more, others, are) =
      let same = one x y word spelled spelled_too in
      let rests = printed_once words (remove before y) after other later more (subst (λ (z : Reference). Withdraws words (remove before z) after later) same rest) others in
      is ∙ ap₂ (λ (z : Reference) (bytes : List ℕ). withdrawn_line (contains_key before z) z ++ bytes) same rests ∙ sym are
