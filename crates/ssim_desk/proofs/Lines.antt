-- The lines of one more message.
use Rattle.std.proofs.Common.{◌≡◌, List, [], ◌∷◌, ◌++◌, length, sym, ap, ◌∙◌, append_assoc, arith}
use Rattle.std.proofs.lemmas.List.{append-nil}
use Rattle.ssim_schedule.specs.declared.finding.Finding.{Finding}
use Rattle.ssim_held.specs.Entries.{Entry}
use Rattle.ssim_desk.specs.Desk.{entry_lines, sub_lines}
use Rattle.ssim_desk.specs.declared.finding_line.FindingLine.{FindingLine}

pub lines-++ : (es : List Entry) (found : List (List Finding)) (e : Entry) (f : List Finding)
    → length found ≡ length es
    → entry_lines (es ++ e ∷ []) (found ++ f ∷ [])
    ≡ entry_lines es found ++ sub_lines e.reference 1 e.message.subs f
lines-++ [] [] e f same = append-nil (sub_lines e.reference 1 e.message.subs f)
lines-++ [] (y ∷ found) e f same = absurd (omega (arith, same))
lines-++ (x ∷ es) [] e f same = absurd (omega (arith, same))
lines-++ (x ∷ es) (y ∷ found) e f same =
    ap (λ (ls : List FindingLine). sub_lines x.reference 1 x.message.subs y ++ ls)
    (lines-++ es found e f (omega (arith, same)))
    ∙ sym (append_assoc (sub_lines x.reference 1 x.message.subs y) (entry_lines es found)
    (sub_lines e.reference 1 e.message.subs f))
