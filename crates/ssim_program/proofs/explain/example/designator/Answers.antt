-- The word is a flight.
use Rattle.std.proofs.Common.{◌∙◌, [], ◌∷◌, refl, arith}
use Rattle.ssim_program.proofs.explain.example.designator.Goals as goal

pub returns : goal.returns
returns c =
    c.ok.ensures.variant
    ∙ c.parse.ensures.accepts.1 (
      record { airline = 76 ∷ 88 ∷ 32 ∷ []; flight = record { number = 544; suffix = 32 } },
      record {
        is_code = refl;
        rest = 53 ∷ 52 ∷ 52 ∷ [];
        flight = record {
          digits = 53 ∷ 52 ∷ 52 ∷ [];
          is_number = record { from = omega arith; to = omega arith; all = refl; number = refl };
          suffixed = refl;
          spelled = refl;
        };
        spelled = refl;
      },
    )
