-- What was read of the lines, stated of the text.
use Rattle.std.proofs.Common.{◌≡◌, ◌≤◌, ℕ, List, map, sym, ap, ◌∙◌, inl, inr, length, arith, None, refl, subst}
use Rattle.std.specs.List.{All}
use Rattle.ssim_text.specs.declared.fault.Fault.{Fault}
use Rattle.ssim_text.specs.declared.fault.TextFault.{TextFault}
use Rattle.ssim_text.specs.declared.lines.Line.{Line}
use Rattle.ssim_text.specs.Message.{MessageValue}
use Rattle.ssim_text.specs.Left.{lines_left, numbers, place_number, first_unprintable}
use Rattle.ssim_text.specs.Canonical.{canonical}
use Rattle.ssim_text.specs.Spelling.{SpellsMessage}
use Rattle.ssim_text.specs.Decoder.{IsFaultAt, IsReadable, IsRefusal, NoMessage}
use Rattle.ssim_text.specs.internal.Decoder.{IsTooManyAtOne}
use Rattle.ssim_text.proofs.DecodeLemmas.{ok_then, err_then, lines_of_text, message_found, message_only, too_long_none, too_long_place, misplaced_none, misplaced_place}
use Rattle.ssim_text.proofs.ReadsBack.{canonical_reads_back}
use Rattle.ssim_text.proofs.decoder.decode.Goals as goal

seen : List Line → List (ℕ × List ℕ)
seen lines = map (λ (l : Line). (l.number, l.bytes.now)) lines

pub finished-requires : goal.finished-requires
unfolding seen
finished-requires c = λ short.
    let d = c.in-Ok.draft in
    let printable : first_unprintable (lines_left c.args.text.now) ≡ None =
    ap first_unprintable (sym c.in_ok-lines.ensures.lines ∙ ap seen (sym c.as_slice-lines.ensures.value)) ∙ sym c.first_unprintable.ensures ∙ c.in_default.is in
    let lines = lines_of_text c.args.text.now c.in_ok-lines.lines.items c.as_slice-lines.result.now c.as_slice-lines.ensures.value c.in_ok-lines.ensures.lines in
    canonical_reads_back d c.args.text.now
    (message_found c.args.text.now (map (λ (l : Line). l.bytes.now) c.as_slice-lines.result.now) d d (omega (arith, c.if-text-gt65536.false)) printable lines c.in-Ok.ensures.found refl short)

pub returns-in-Ok-clause-found : goal.returns-in-Ok-clause-found
unfolding seen
returns-in-Ok-clause-found c =
    let d = c.in-Ok.draft in
    let printable : first_unprintable (lines_left c.args.text.now) ≡ None =
    ap first_unprintable (sym c.in_ok-lines.ensures.lines ∙ ap seen (sym c.as_slice-lines.ensures.value)) ∙ sym c.first_unprintable.ensures ∙ c.in_default.is in
    let lines = lines_of_text c.args.text.now c.in_ok-lines.lines.items c.as_slice-lines.result.now c.as_slice-lines.ensures.value c.in_ok-lines.ensures.lines in
    ok_then c.finished.result (λ (m : MessageValue). (m ≡ d) × (length (canonical d) ≤ 65536)) (λ (m : MessageValue). SpellsMessage m c.args.text.now)
    (λ m h. message_found c.args.text.now (map (λ (l : Line). l.bytes.now) c.as_slice-lines.result.now) m d (omega (arith, c.if-text-gt65536.false)) printable lines c.in-Ok.ensures.found h.0 h.1)
    c.finished.ensures.ok

pub returns-in-Ok-clause-only : goal.returns-in-Ok-clause-only
returns-in-Ok-clause-only c =
    let d = c.in-Ok.draft in
    let lines = lines_of_text c.args.text.now c.in_ok-lines.lines.items c.as_slice-lines.result.now c.as_slice-lines.ensures.value c.in_ok-lines.ensures.lines in
    ok_then c.finished.result (λ (m : MessageValue). (m ≡ d) × (length (canonical d) ≤ 65536)) (λ (m : MessageValue). (n : MessageValue) → SpellsMessage n c.args.text.now → n ≡ m)
    (λ m h n s. message_only c.args.text.now (map (λ (l : Line). l.bytes.now) c.as_slice-lines.result.now) m d n lines c.in-Ok.ensures.only h.0 s)
    c.finished.ensures.ok

pub returns-in-Ok-clause-none : goal.returns-in-Ok-clause-none
returns-in-Ok-clause-none c =
    let d = c.in-Ok.draft in
    let lines = lines_of_text c.args.text.now c.in_ok-lines.lines.items c.as_slice-lines.result.now c.as_slice-lines.ensures.value c.in_ok-lines.ensures.lines in
    err_then c.finished.result (λ (f : TextFault). IsTooManyAtOne d f) (λ (f : TextFault). NoMessage c.args.text.now f)
    (λ f h. too_long_none c.args.text.now (map (λ (l : Line). l.bytes.now) c.as_slice-lines.result.now) d f lines c.in-Ok.ensures.only h)
    c.finished.ensures.err

pub returns-in-Ok-clause-place : goal.returns-in-Ok-clause-place
unfolding seen
returns-in-Ok-clause-place c =
    let d = c.in-Ok.draft in
    let printable : first_unprintable (lines_left c.args.text.now) ≡ None =
    ap first_unprintable (sym c.in_ok-lines.ensures.lines ∙ ap seen (sym c.as_slice-lines.ensures.value)) ∙ sym c.first_unprintable.ensures ∙ c.in_default.is in
    let readable : IsReadable c.args.text.now = record { short = omega (arith, c.if-text-gt65536.false); printable = printable } in
    let lines = lines_of_text c.args.text.now c.in_ok-lines.lines.items c.as_slice-lines.result.now c.as_slice-lines.ensures.value c.in_ok-lines.ensures.lines in
    err_then c.finished.result (λ (f : TextFault). IsTooManyAtOne d f) (λ (f : TextFault). IsRefusal c.args.text.now f)
    (λ f h. too_long_place c.args.text.now (map (λ (l : Line). l.bytes.now) c.as_slice-lines.result.now) d f readable lines c.in-Ok.ensures.found h)
    c.finished.ensures.err

pub returns-clause-none : goal.returns-clause-none
returns-clause-none c =
    let lines = lines_of_text c.args.text.now c.in_ok-lines.lines.items c.as_slice-lines.result.now c.as_slice-lines.ensures.value c.in_ok-lines.ensures.lines in
    misplaced_none c.args.text.now (map (λ (l : Line). l.bytes.now) c.as_slice-lines.result.now) c.in-Err-Misplaced.index lines (rw c.in-Err-Misplaced.field-0-is at c.in-Err-Misplaced.ensures.place).0

pub returns-clause-place : goal.returns-clause-place
unfolding seen
returns-clause-place c =
    let printable : first_unprintable (lines_left c.args.text.now) ≡ None =
    ap first_unprintable (sym c.in_ok-lines.ensures.lines ∙ ap seen (sym c.as_slice-lines.ensures.value)) ∙ sym c.first_unprintable.ensures ∙ c.in_default.is in
    let readable : IsReadable c.args.text.now = record { short = omega (arith, c.if-text-gt65536.false); printable = printable } in
    let lines = lines_of_text c.args.text.now c.in_ok-lines.lines.items c.as_slice-lines.result.now c.as_slice-lines.ensures.value c.in_ok-lines.ensures.lines in
    let place = rw c.in-Err-Misplaced.field-0-is at c.in-Err-Misplaced.ensures.place in
    let numbered = c.number_at.ensures ∙ ap (λ (i : ℕ). place_number (numbers (seen c.as_slice-lines.result.now)) i) c.in-Err-Misplaced.index-is in
    let at_fault = subst (λ (x : Fault). IsFaultAt (map (λ (l : Line). l.bytes.now) c.as_slice-lines.result.now) c.in-Err-Misplaced.index x) (sym c.in-Err-Misplaced.fault-is) place.1 in
    inr (inr (inl (misplaced_place c.args.text.now (map (λ (l : Line). l.bytes.now) c.as_slice-lines.result.now) (seen c.as_slice-lines.result.now) c.in-Err-Misplaced.index c.number_at.result _ readable lines (ap seen c.as_slice-lines.ensures.value ∙ c.in_ok-lines.ensures.lines) place.0 at_fault numbered)))

pub number_at-requires : goal.number_at-requires
number_at-requires c =
    let short = c.if-text-gt65536.false in
    subst (λ (xs : List Line). All (λ (l : Line). l.number ≤ 65537) xs) (sym c.as_slice-lines.ensures.value) (λ k d lt. let most = c.in_ok-lines.ensures.bound k d lt in omega arith)
