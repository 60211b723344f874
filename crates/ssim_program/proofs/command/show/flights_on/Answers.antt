-- The words name flights and a date, or the first of them by kind that is invalid is refused.
use Rattle.std.proofs.Common.{◌≡◌, ◌⊎◌, ℕ, List, None, Some, Ok, Err, inl, inr, map, refl, rules}
use Rattle.std.proofs.Common.{subst, sym, ap, ◌∙◌}
use Rattle.std.specs.Prelude.{All}
use Rattle.ssim_values.specs.Flight.{FlightNumber}
use Rattle.ssim_values.specs.declared.designator.Designator.{Designator}
use Rattle.ssim_values.specs.declared.fault.Fault.TheVariants as value_fault
use Rattle.ssim_words.specs.Date.{typed_day}
use Rattle.ssim_words.specs.Flight.{NameEach}
use Rattle.ssim_command_line.specs.Line.{Text}
use Rattle.ssim_program.specs.Desks.{other_airline}
use Rattle.ssim_program.specs.Messages.{IsOf, but_last, flights_on, last_of}
use Rattle.ssim_program.specs.print.Refusal.{IsMemory}
use Rattle.ssim_program.specs.declared.refusal.Refusal.{Refusal}
use Rattle.ssim_program.specs.declared.refusal.Refusal.TheVariants as refused
use Rattle.ssim_program.proofs.command.show.flights_on.Goals as goal

module _ (airline : List ℕ) (word : Text) (words : List Text) where
  no_flights : (why : Refusal)
      → IsMemory why ⊎ ((why ≡ refused.Value value_fault.BadDesignator)
      × ((named : List Designator) → NameEach airline (but_last word words) named → ⊥))
      → flights_on airline word words (Err why)
  no_flights why (inl memory) = inl memory
  no_flights why (inr (is, none)) = inr (tt, refl, inl (none, is))

  module _ (named : List Designator) (names : NameEach airline (but_last word words) named) where
    no_day : (why : Refusal)
        → IsMemory why ⊎ ((why ≡ refused.Value value_fault.BadDate)
        × (typed_day (last_of word words) ≡ None))
        → flights_on airline word words (Err why)
    no_day why (inl memory) = inl memory
    no_day why (inr (is, none)) = inr (tt, refl, inr (named, names, inl (none, is)))

    module _ (day : ℕ) (dated : typed_day (last_of word words) ≡ Some day) where
      no_airline : (why : Refusal) → why ≡ other_airline → (All (IsOf airline) named → ⊥)
          → flights_on airline word words (Err why)
      no_airline why is other =
          inr (tt, refl, inr (named, names, inr (day, dated, inl (other, is))))

      found : All (IsOf airline) named
          → flights_on airline word words (Ok (map (λ d. d.flight) named, day))
      found all = (tt, refl, (named, names, (day, dated, (tt, all, refl))))

pub returns-in_err-named-clause-err : goal.returns-in_err-named-clause-err
returns-in_err-named-clause-err c =
    let airline = c.args.airline in
    let words = map (λ t. t.now) c.args.words.now in
    let before = ap (map (λ t. t.now)) c.deref.ensures.value ∙ c.in_ok-flights.ensures.before in
    let why = c.in_err-named.field-0.0 in
    let is : c.from_residual-in_err-named.result ≡ Err why = search rules in
    rw is (no_flights airline c.args.first.now words why
    (subst (λ (ws : List Text). IsMemory why ⊎ ((why ≡ refused.Value value_fault.BadDesignator)
    × ((named : List Designator) → NameEach airline ws named → ⊥))) before
    c.in_err-named.ensures.err))

pub returns-in_err-day-clause-err : goal.returns-in_err-day-clause-err
returns-in_err-day-clause-err c =
    let airline = c.args.airline in
    let words = map (λ t. t.now) c.args.words.now in
    let before = ap (map (λ t. t.now)) c.deref.ensures.value ∙ c.in_ok-flights.ensures.before in
    let named = c.in_ok-named.named.items in
    let names = subst (λ (ws : List Text). NameEach airline ws named) before
    c.in_ok-named.ensures.ok in
    let why = c.in_err-day.field-0.0 in
    let is : c.from_residual-in_err-day.result ≡ Err why = search rules in
    rw is (no_day airline c.args.first.now words named names why
    (subst (λ (date : Text). IsMemory why ⊎ ((why ≡ refused.Value value_fault.BadDate)
    × (typed_day date ≡ None))) c.in_ok-flights.ensures.last c.in_err-day.ensures.err))

pub returns-then-has_other-clause-err : goal.returns-then-has_other-clause-err
returns-then-has_other-clause-err c =
    let airline = c.args.airline in
    let words = map (λ t. t.now) c.args.words.now in
    let before = ap (map (λ t. t.now)) c.deref.ensures.value ∙ c.in_ok-flights.ensures.before in
    let named = c.in_ok-named.named.items in
    let names = subst (λ (ws : List Text). NameEach airline ws named) before
    c.in_ok-named.ensures.ok in
    let day = c.in_ok-day.day in
    no_airline airline c.args.first.now words named names day
    (subst (λ (date : Text). typed_day date ≡ Some day) c.in_ok-flights.ensures.last
    c.in_ok-day.ensures.ok)
    c.from.result c.from.ensures
    (λ all. c.has_other.ensures.other c.if-has_other.true
    (subst (λ (ds : List Designator). All (IsOf airline) ds) (sym c.deref-2.ensures.value) all))

pub returns-clause-ok : goal.returns-clause-ok
returns-clause-ok c =
    let airline = c.args.airline in
    let first = c.args.first.now in
    let words = map (λ t. t.now) c.args.words.now in
    let before = ap (map (λ t. t.now)) c.deref.ensures.value ∙ c.in_ok-flights.ensures.before in
    let named = c.in_ok-named.named.items in
    let names = subst (λ (ws : List Text). NameEach airline ws named) before
    c.in_ok-named.ensures.ok in
    let day = c.in_ok-day.day in
    let all = subst (λ (ds : List Designator). All (IsOf airline) ds) c.deref-2.ensures.value
    (c.has_other.ensures.none c.if-has_other.false) in
    let numbers = c.in_ok-numbers.ensures ∙ ap (map (λ d. d.flight)) c.deref-3.ensures.value in
    subst (λ (fs : List FlightNumber). flights_on airline first words (Ok (fs, day))) (sym numbers)
    (found airline first words named names day
    (subst (λ (date : Text). typed_day date ≡ Some day) c.in_ok-flights.ensures.last
    c.in_ok-day.ensures.ok) all)
