-- Names of the files of sections, computed.
use Rattle.std.specs.Prelude.{◌≡◌, true, false, List, [], ◌∷◌, ◌++◌, Some, None, codes, refl}
use Rattle.std.specs.Fmt.{decimal}
use Rattle.ssim_program.specs.Splitting.{Section, name_of}

-- a section of Z7 that is kept, one of LX that is refused, and one whose carrier record is invalid
abbrev done : List Section
done = (Some (codes "Z7 "), true) ∷ (Some (codes "LX "), false) ∷ (None, false) ∷ []

first_of_swr : name_of (codes "new/") (codes "SWR") done ≡ codes "new/SWR.ssim"
first_of_swr = refl

second_of_z7 : name_of (codes "new-") (codes "Z7 ") done ≡ codes "new-Z7-" ++ decimal 2 ++ codes ".ssim"
second_of_z7 = refl

-- the refused one counts
second_of_lx : name_of (codes "new-") (codes "LX ") done ≡ codes "new-LX-" ++ decimal 2 ++ codes ".ssim"
second_of_lx = refl
