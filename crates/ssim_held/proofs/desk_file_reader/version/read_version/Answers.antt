-- The numbers 1 and 2 in decimal are computed.
use Rattle.std.proofs.Common.{◌≡◌, List, ℕ, ◌++◌}
use Rattle.std.specs.Fmt.{digits}
use Rattle.ssim_held.specs.internal.DeskFileReader.{first_line}
use Rattle.ssim_held.specs.declared.desk_file_reader.version.FileVersion.{FileVersion}
use Rattle.ssim_held.specs.declared.desk_file_reader.version.FileVersion.TheVariants.{One, Two}
use Rattle.ssim_held.proofs.PartFaults.{none_is}
use Rattle.ssim_held.proofs.desk_file_reader.version.read_version.Goals as goal

none_of : (bytes : List ℕ) → ((rest : List ℕ) → bytes ≡ first_line Two ++ rest → ⊥) → ((rest : List ℕ) → bytes ≡ first_line One ++ rest → ⊥)
    → (version : FileVersion) (rest : List ℕ) → bytes ≡ first_line version ++ rest → ⊥
none_of bytes two one One rest e = one rest e
none_of bytes two one Two rest e = two rest e

pub returns-in-Some-clause-some : goal.returns-in-Some-clause-some
unfolding digits
returns-in-Some-clause-some c = c.in-Some.ensures.some

pub returns-in_err-rest-clause-none : goal.returns-in_err-rest-clause-none
unfolding digits
returns-in_err-rest-clause-none c =
    none_is c.from_residual.result ((version : FileVersion) (rest : List ℕ) → c.args.bytes.now ≡ first_line version ++ rest → ⊥) c.from_residual.ensures (none_of c.args.bytes.now c.in_default.ensures.only c.in_err-rest.ensures.only)

pub returns-clause-some : goal.returns-clause-some
unfolding digits
returns-clause-some c = c.in_ok-rest.ensures.some
