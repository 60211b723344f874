-- The bytes passed have no LF.
use Rattle.std.proofs.Common.{◌≡◌, ◌++◌, take, drop}
use Rattle.ssim_text.specs.Bytes.{before, from}
use Rattle.ssim_held.proofs.desk_file_reader.count_line.first_line.Given as goal

abbrev pub invariant-loop-at : goal.invariant-loop-at
invariant-loop-at l = record { before : before 10 l.bytes ≡ take l.at l.bytes ++ before 10 (drop l.at l.bytes); from : from 10 l.bytes ≡ from 10 (drop l.at l.bytes) }
