-- What `trim_ascii_start` returns, as a function of the bytes.
use Rattle.std.proofs.Common.{◌∙◌, ap}
use Rattle.std.proofs.lemmas.Str.Ascii.{trim_ascii_start_is}
use Rattle.ssim_program.specs.Explained.{kind_of_text}
use Rattle.ssim_program.proofs.explain.file_kind.kind_of.Goals as goal

pub returns : goal.returns
returns c = c.kind_of_text.ensures ∙ ap kind_of_text (trim_ascii_start_is _ _ c.trim_ascii_start.ensures.value)
