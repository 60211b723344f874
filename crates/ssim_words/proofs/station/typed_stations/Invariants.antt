-- The stations so far, and those of the words that are left, are those of all words.
use Rattle.std.proofs.Common.{map}
use Rattle.ssim_words.specs.Station.{typed_station}
use Rattle.ssim_words.proofs.EachRead.{AreRead}
use Rattle.ssim_words.proofs.station.typed_stations.Given as goal

abbrev pub invariant-loop-word : goal.invariant-loop-word
invariant-loop-word l = AreRead typed_station (map (λ t. t.now) l.words) l.word-index l.stations.items
