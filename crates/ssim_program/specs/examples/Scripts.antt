-- Lines of scripts, computed.
use Rattle.std.specs.Prelude.{◌≡◌, codes, Some, None, refl}
use Rattle.ssim_program.specs.rehearse.Script.{Merges, count_in, step_in}

three_desks : count_in (codes "DESKS 3") ≡ Some 3
three_desks = refl

ten_desks : count_in (codes "DESKS 10") ≡ None
ten_desks = refl

takes_on_a_fourth : step_in 3 (codes "TAKE 4 x2") ≡ None
takes_on_a_fourth = refl

takes_two : step_in 3 (codes "TAKE 1 x2 x3") ≡ None
takes_two = refl

merges_two : step_in 3 (codes "MERGE 3 1") ≡ Some (Merges 2 0)
merges_two = refl

-- several blanks separate two parts as one blank does
with_more_blanks : step_in 3 (codes "MERGE  3   1") ≡ Some (Merges 2 0)
with_more_blanks = refl

-- no desk is merged with a desk that does not exist
merges_with_a_fourth : step_in 3 (codes "MERGE 3 4") ≡ None
merges_with_a_fourth = refl
