-- The messages so far are those of the texts before the rest, and each text makes the rest shorter.
use Rattle.std.proofs.Common.{length}
use Rattle.ssim_held.proofs.SavedParts.{Goes}
use Rattle.ssim_held.proofs.desk_file_reader.saved_texts.read_texts.Given as goal

abbrev pub invariant-loop-alloc : goal.invariant-loop-alloc
invariant-loop-alloc l = Goes l.version l.data_set l.initial.rest l.count l.held.items l.rest

abbrev pub decreases-loop-alloc : goal.decreases-loop-alloc
decreases-loop-alloc l = length l.rest
