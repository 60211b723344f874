-- One more word names a flight, or it names none.
use Rattle.std.proofs.Common.{◌∙◌, ℕ, List, [], IfNone, IfSome, Option, Some, map, sym, ap, subst}
use Rattle.std.proofs.lemmas.Option.{slice_get-get_or, slice_get-map}
use Rattle.std.specs.Option.{option_map}
use Rattle.ssim_values.specs.declared.designator.Designator.{Designator}
use Rattle.ssim_words.specs.Flight.{NamesFlight}
use Rattle.ssim_words.proofs.NamedFlights.{all_flights, next_word, no_word, none_named}
use Rattle.ssim_words.proofs.NamedFlights.{one_more_flight}
use Rattle.ssim_words.proofs.flights.typed_flights.Goals as goal

pub returns-in_default-clause-none : goal.returns-in_default-clause-none
returns-in_default-clause-none c =
    let words = c.args.words.now in let i = c.loop-word.word-index in
    none_named c.args.airline (map (λ t. t.now) words) i c.as_bytes.result.now
    (slice_get-map (λ t. t.now) words i
    ∙ ap (option_map (λ t. t.now))
    (slice_get-get_or words i (record { ref_ptr = (0, 0); now = [] }) c.loop-word-test.true)
    ∙ ap (λ (word : List ℕ). Some word) (sym c.as_bytes.ensures.value))
    (subst (λ (found : Option Designator). IfNone found
    ((flight : Designator) → NamesFlight c.args.airline c.as_bytes.result.now flight → ⊥))
    c.in_default.is c.in_ok-flight.ensures.none)

pub loop-word-preserved : goal.loop-word-preserved
loop-word-preserved c =
    let words = c.args.words.now in let i = c.loop-word.word-index in let flight = c.in-Some.flight in
    one_more_flight c.args.airline (map (λ t. t.now) words) i _ c.loop-word.flights.items
    c.push.new.self.items flight
    (next_word (λ t. t.now) words i (record { ref_ptr = (0, 0); now = [] }) c.loop-word-test.true)
    c.loop-word.invariant
    (subst (λ (word : List ℕ). NamesFlight c.args.airline word flight) c.as_bytes.ensures.value
    (subst (λ (found : Option Designator). IfSome found
    (NamesFlight c.args.airline c.as_bytes.result.now)) c.in-Some.is c.in_ok-flight.ensures.some))
    c.in_ok-push.ensures.items

pub returns-clause-some : goal.returns-clause-some
returns-clause-some c =
    let words = c.args.words.now in
    all_flights c.args.airline (map (λ t. t.now) words) c.loop-word.word-index
    c.loop-word.flights.items
    (no_word (λ t. t.now) words c.loop-word.word-index c.loop-word-test.false)
    c.loop-word.invariant
