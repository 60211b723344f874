-- The words so far are addresses, and `found` says whether there is one.
use Rattle.std.proofs.Common.{◌≡◌, length}
use Rattle.ssim_mailbox.specs.Addresses.{words, are_addresses}
use Rattle.ssim_mailbox.proofs.Finding.{are_more}
use Rattle.ssim_mailbox.proofs.address.is_address_line.Given as goal

abbrev pub invariant-loop-word : goal.invariant-loop-word
invariant-loop-word l = are_more l.found (words l.rest) ≡ are_addresses (words l.initial.rest)

abbrev pub decreases-loop-word : goal.decreases-loop-word
decreases-loop-word l = length l.rest
