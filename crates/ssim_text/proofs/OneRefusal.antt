-- A text has one refusal: the four kinds exclude each other, and the place is the first line after
-- which no text is possible.
use Rattle.std.proofs.Common.{◌≡◌, ◌<◌, ◌≤◌, ◌+◌, inl, inr, ℕ, List, [], ◌∷◌, ◌++◌, Some, drop, take, refl, sym, ap, subst, ◌∙◌, append_assoc, arith}
use Rattle.std.specs.List.{AllZip}
use Rattle.std.proofs.lemmas.List.{take-take}
use Rattle.std.specs.Prelude.{option_and_then}
use Rattle.ssim_text.specs.Decoder.{IsFaultAt, IsMisplaced, IsRefusal, OneRefusal}
use Rattle.ssim_text.specs.internal.Completions.{IsCompletedShortly}
use Rattle.ssim_text.specs.Grammar.{NamesPlace, Part, Spells, Starts}
use Rattle.ssim_text.specs.Left.{lines_left, numbers, place_number, texts}
use Rattle.ssim_text.specs.Machine.{Reads, fault_before, run, step}
use Rattle.ssim_text.specs.declared.fault.Fault.{Fault}
use Rattle.ssim_text.specs.declared.fault.TextFault.TheVariants as refusal
use Rattle.ssim_text.specs.declared.decoder_state.State.{State}
use Rattle.ssim_text.specs.declared.decoder_state.State.TheVariants.{AtStart}
use Rattle.ssim_text.proofs.Complete.{complete}
use Rattle.ssim_text.proofs.Place.{at_end, completed, lines_none, take_drop}
use Rattle.ssim_text.proofs.Runs.{GoesOn, bind_some, follow, none_some, some_same}

-- lines lead to only one state
one_state : (s t : State) (lines : List (List ℕ)) → Reads s lines → Reads t lines → s ≡ t
one_state s t lines r q =
    let on = follow AtStart s t r.parts q.parts lines [] r.spelled r.reached (subst (λ (x : List (List ℕ)). AllZip Spells q.parts x) (sym (lines_none lines)) q.spelled) q.reached in
    at_end s t on.parts on.spelled on.reached

-- what reads lines and more lines reads the first of them
begins : (s last : State) (ps : List Part) (xs ys : List (List ℕ)) → AllZip Spells ps (xs ++ ys) → run s ps ≡ Some last → (t : State) × GoesOn s xs t
begins s last ps [] ys h r = (s, record { parts = []; spelled = tt; reached = refl })
begins s last [] (x ∷ xs) ys h r = absurd h
begins s last (p ∷ ps) (x ∷ xs) ys h r =
    let w = bind_some (λ (t : State). run t ps) (step s p) last r in
    let rest = begins w.0 last ps xs ys h.1 w.2 in
    (rest.0, record { parts = p ∷ rest.1.parts; spelled = (h.0, rest.1.spelled); reached = ap (λ o. option_and_then (λ (t : State). run t rest.1.parts) o) w.1 ∙ rest.1.reached })

-- if a text begins with some lines and then more lines, the first of them have a short completion
completed_before : (xs ys : List (List ℕ)) → Starts (xs ++ ys) → IsCompletedShortly xs
completed_before xs ys h =
    let text = h.spelled in
    let ends = complete h.message text.parts text.shape text.has_parts in
    let b = begins AtStart ends.last text.parts xs (ys ++ h.completion) (subst (λ (x : List (List ℕ)). AllZip Spells text.parts x) (append_assoc xs ys h.completion) text.spelled) ends.reached in
    completed b.0 xs (record { parts = b.1.parts; spelled = b.1.spelled; reached = b.1.reached })

-- lines that some message's text begins with have a short completion
pub starts_shortly : (lines : List (List ℕ)) → Starts lines → IsCompletedShortly lines
starts_shortly lines h = completed_before lines [] (subst Starts (sym (lines_none lines)) h)

starts_before : (xs ys : List (List ℕ)) → Starts (xs ++ ys) → Starts xs
starts_before xs ys h =
    let short = completed_before xs ys h in
    record { completion = short.completion; message = short.message; spelled = short.spelled }

not_before : (lines : List (List ℕ)) (i j : ℕ) → NamesPlace lines i → NamesPlace lines j → i < j → ⊥
not_before lines i j a b lt =
    let more : i + 1 ≤ j = omega (arith, lt) in
    let text = subst Starts (sym (take_drop (i + 1) (take j lines))) b.starts in
    let first = starts_before (take (i + 1) (take j lines)) (drop (i + 1) (take j lines)) text in
    a.starts_no_more (omega (arith, lt, b.within)) (subst Starts (take-take (i + 1) j lines more) first)

one_place : (lines : List (List ℕ)) (i j : ℕ) → NamesPlace lines i → NamesPlace lines j → i ≡ j
one_place lines i j a b =
    let up : i ≤ j = omega (arith, λ (lt : j < i). not_before lines j i b a lt) in
    let down : j ≤ i = omega (arith, λ (lt : i < j). not_before lines i j a b lt) in
    omega (arith, up, down)

one_fault_at : (lines : List (List ℕ)) (i j : ℕ) (f g : Fault) → i ≡ j → IsFaultAt lines i f → IsFaultAt lines j g → f ≡ g
one_fault_at lines i j f g same a b =
    let b' = subst (λ k. IsFaultAt lines k g) (sym same) b in
    a.fault ∙ ap (λ s. fault_before s (drop i lines)) (one_state a.state b'.state (take i lines) a.reads b'.reads) ∙ sym b'.fault

module _ (text : List ℕ) (f g : Fault) (m n : ℕ) where
  both_misplaced : IsMisplaced text f m → IsMisplaced text g n → (f ≡ g) × (m ≡ n)
  both_misplaced a b =
      let same = one_place (texts (lines_left text)) a.index b.index a.names b.names in
      (one_fault_at (texts (lines_left text)) a.index b.index f g same a.fault b.fault, a.line ∙ ap (place_number (numbers (lines_left text))) same ∙ sym b.line)

  two_of_one : IsRefusal text (refusal.Refused f m) → IsRefusal text (refusal.Refused g n) → (f ≡ g) × (m ≡ n)
  two_of_one (inl a) (inl b) = (a.fault ∙ sym b.fault, a.line ∙ sym b.line)
  two_of_one (inl a) (inr (inl b)) = absurd (omega (arith, a.long, b.short))
  two_of_one (inl a) (inr (inr (inl b))) = absurd (omega (arith, a.long, b.readable.short))
  two_of_one (inl a) (inr (inr (inr b))) = absurd (omega (arith, a.long, b.readable.short))
  two_of_one (inr (inl a)) (inl b) = absurd (omega (arith, b.long, a.short))
  two_of_one (inr (inl a)) (inr (inl b)) = (a.fault ∙ sym b.fault, some_same m n (sym a.line ∙ b.line))
  two_of_one (inr (inl a)) (inr (inr (inl b))) = absurd (none_some m (sym b.readable.printable ∙ a.line))
  two_of_one (inr (inl a)) (inr (inr (inr b))) = absurd (none_some m (sym b.readable.printable ∙ a.line))
  two_of_one (inr (inr (inl a))) (inl b) = absurd (omega (arith, b.long, a.readable.short))
  two_of_one (inr (inr (inl a))) (inr (inl b)) = absurd (none_some n (sym a.readable.printable ∙ b.line))
  two_of_one (inr (inr (inl a))) (inr (inr (inl b))) = both_misplaced a b
  two_of_one (inr (inr (inl a))) (inr (inr (inr b))) = absurd (a.names.no_text b.message b.spelled)
  two_of_one (inr (inr (inr a))) (inl b) = absurd (omega (arith, b.long, a.readable.short))
  two_of_one (inr (inr (inr a))) (inr (inl b)) = absurd (none_some n (sym a.readable.printable ∙ b.line))
  two_of_one (inr (inr (inr a))) (inr (inr (inl b))) = absurd (b.names.no_text a.message a.spelled)
  two_of_one (inr (inr (inr a))) (inr (inr (inr b))) = (a.fault ∙ sym b.fault, a.line ∙ sym b.line)

pub one_refusal : OneRefusal
one_refusal text f g m n a b = two_of_one text f g m n a b
