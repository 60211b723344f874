-- The types so far, and those of the words that are left, are those of all words.
use Rattle.std.proofs.Common.{map}
use Rattle.ssim_words.specs.Aircraft.{typed_aircraft}
use Rattle.ssim_words.proofs.EachRead.{AreRead}
use Rattle.ssim_words.proofs.aircraft.typed_aircraft_types.Given as goal

abbrev pub invariant-loop-word : goal.invariant-loop-word
invariant-loop-word l =
    AreRead typed_aircraft (map (λ t. t.now) l.words) l.word-index l.types.items
