use Rattle.ssim_program.proofs.Conflicts.{carry_meets_two, merge_meets_two, merge_since_meets_two, take_meets_two}
use Rattle.ssim_program.proofs.ReceivedConflicts.{receive_meets_two}
use Rattle.ssim_program.proofs.laws.conflicts_have_two_messages.Goals as goal

pub returns : goal.returns
returns c = record {
  take = take_meets_two c.one_message.ensures;
  merge = merge_meets_two;
  since = merge_since_meets_two;
  carry = carry_meets_two;
  receive = receive_meets_two c.one_message.ensures;
}
