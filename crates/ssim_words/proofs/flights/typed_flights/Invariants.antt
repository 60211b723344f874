-- The flights so far, and those of the words that are left, are those of all words.
use Rattle.std.proofs.Common.{map}
use Rattle.ssim_words.proofs.NamedFlights.{AreSoFar}
use Rattle.ssim_words.proofs.flights.typed_flights.Given as goal

abbrev pub invariant-loop-word : goal.invariant-loop-word
invariant-loop-word l = AreSoFar l.airline (map (λ t. t.now) l.words) l.word-index l.flights.items
