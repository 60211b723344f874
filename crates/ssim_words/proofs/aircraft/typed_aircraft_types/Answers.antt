-- One more word spells an aircraft type, or one spells none.
use Rattle.std.proofs.Common.{◌∙◌, [], sym}
use Rattle.ssim_words.specs.Aircraft.{typed_aircraft}
use Rattle.ssim_words.proofs.EachRead.{nothing, one_more}
use Rattle.ssim_words.proofs.aircraft.typed_aircraft_types.Goals as goal

pub loop-word-preserved : goal.loop-word-preserved
loop-word-preserved c =
    one_more typed_aircraft (λ t. t.now) c.args.words.now c.loop-word.word-index
    (record { ref_ptr = (0, 0); now = [] }) c.as_bytes.result.now c.loop-word.types.items
    c.push.new.self.items c.in-Some.aircraft c.loop-word-test.true c.as_bytes.ensures.value
    (sym c.in_ok-aircraft.ensures ∙ c.in-Some.is) c.in_ok-push.ensures.items c.loop-word.invariant

pub returns-in_default : goal.returns-in_default
returns-in_default c =
    nothing typed_aircraft (λ t. t.now) c.args.words.now c.loop-word.word-index
    (record { ref_ptr = (0, 0); now = [] }) c.as_bytes.result.now c.loop-word.types.items
    c.loop-word-test.true c.as_bytes.ensures.value (sym c.in_ok-aircraft.ensures ∙ c.in_default.is)
    c.loop-word.invariant
