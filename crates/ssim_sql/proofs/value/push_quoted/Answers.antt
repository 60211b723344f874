-- Bytes that are all plain are their own characters.
use Rattle.std.proofs.Common.{◌++◌, ◌∙◌, sym, ap}
use Rattle.ssim_sql.proofs.PlainTexts.{plain_text}
use Rattle.ssim_sql.proofs.value.push_quoted.Goals as goal

pub returns-then-are_plain : goal.returns-then-are_plain
returns-then-are_plain c =
    let bytes = c.args.bytes.now in
    c.in_ok-extend_from_slice.ensures.items
    ∙ ap (λ text. c.args.script.now.items ++ text)
    (sym (plain_text bytes (sym c.are_plain.ensures ∙ c.if-are_plain.true)))
