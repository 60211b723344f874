-- One more word is a station, or one is none.
use Rattle.std.proofs.Common.{◌≡◌, true, false, List, ℕ, [], IfNone, IfSome, None, Some, Option, subst}
use Rattle.ssim_values.specs.Station.{is_station}
use Rattle.ssim_words.specs.Station.{typed_station}
use Rattle.ssim_words.specs.Typed.{typed}
use Rattle.ssim_words.proofs.EachRead.{is_not_read, is_read, nothing, one_more}
use Rattle.ssim_words.proofs.station.typed_stations.Goals as goal

pub loop-word-preserved : goal.loop-word-preserved
loop-word-preserved c =
    let word = c.as_bytes.result.now in
    let is = subst (λ (found : Option (List ℕ)). IfSome found
    (λ station. (station ≡ typed word) × (is_station (typed word) ≡ true))) c.in-Some.is
    c.in_ok-station.ensures.some in
    one_more typed_station (λ t. t.now) c.args.words.now c.loop-word.word-index
    (record { ref_ptr = (0, 0); now = [] }) word c.loop-word.stations.items
    c.push.new.self.items c.in-Some.station c.loop-word-test.true c.as_bytes.ensures.value
    (is_read word c.in-Some.station is.0 is.1) c.in_ok-push.ensures.items c.loop-word.invariant

pub returns-in_default : goal.returns-in_default
returns-in_default c =
    let word = c.as_bytes.result.now in
    let is = subst (λ (found : Option (List ℕ)). IfNone found (is_station (typed word) ≡ false))
    c.in_default.is c.in_ok-station.ensures.none in
    nothing typed_station (λ t. t.now) c.args.words.now c.loop-word.word-index
    (record { ref_ptr = (0, 0); now = [] }) word c.loop-word.stations.items
    c.loop-word-test.true c.as_bytes.ensures.value (is_not_read word is) c.loop-word.invariant
