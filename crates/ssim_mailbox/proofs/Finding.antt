-- Words that are looked at one after another.
use Rattle.std.proofs.Common.{List, ℕ, Bool, true, false}
use Rattle.std.specs.List.{list_all}
use Rattle.ssim_mailbox.specs.Addresses.{are_addresses, is_address}

-- whether words after others, which are addresses if there are any, leave one address or more
abbrev pub are_more : Bool → List (List ℕ) → Bool
are_more true ws = list_all is_address ws
are_more false ws = are_addresses ws
