-- What `trim_ascii_start` returns, as a function of the bytes.
use Rattle.std.proofs.Common.{◌∙◌, ℕ, List, [], ◌∷◌, nat_eq, ap}
use Rattle.std.proofs.lemmas.Str.Ascii.{trim_ascii_start_is}
use Rattle.std.specs.List.{starts_with}
use Rattle.ssim_program.proofs.explain.foreign.is_markup.Goals as goal

pub returns : goal.returns
returns c =
    c.starts_with.ensures.value
    ∙ ap (λ (left : List ℕ). starts_with nat_eq left (60 ∷ []))
    (trim_ascii_start_is _ _ c.trim_ascii_start.ensures.value)
