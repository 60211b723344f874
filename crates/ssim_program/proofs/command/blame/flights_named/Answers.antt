-- The words name flights of the airline, or the first of them by kind that is invalid is refused.
use Rattle.std.proofs.Common.{◌≡◌, ◌⊎◌, ℕ, List, Ok, Err, inl, inr, map, refl, rules, subst, sym, ap}
use Rattle.std.proofs.Common.{◌∙◌}
use Rattle.std.specs.Prelude.{All}
use Rattle.ssim_values.specs.Flight.{FlightNumber}
use Rattle.ssim_values.specs.declared.designator.Designator.{Designator}
use Rattle.ssim_values.specs.declared.fault.Fault.TheVariants as value_fault
use Rattle.ssim_words.specs.Flight.{NameEach}
use Rattle.ssim_command_line.specs.Line.{Text}
use Rattle.ssim_program.specs.Desks.{other_airline}
use Rattle.ssim_program.specs.Messages.{IsOf, flights_named}
use Rattle.ssim_program.specs.print.Refusal.{IsMemory}
use Rattle.ssim_program.specs.declared.refusal.Refusal.{Refusal}
use Rattle.ssim_program.specs.declared.refusal.Refusal.TheVariants as refused
use Rattle.ssim_program.proofs.command.blame.flights_named.Goals as goal

module _ (airline : List ℕ) (words : List Text) where
  no_flights : (why : Refusal)
      → IsMemory why ⊎ ((why ≡ refused.Value value_fault.BadDesignator)
      × ((named : List Designator) → NameEach airline words named → ⊥))
      → flights_named airline words (Err why)
  no_flights why (inl memory) = inl memory
  no_flights why (inr (is, none)) = inr (tt, refl, inl (none, is))

  module _ (named : List Designator) (names : NameEach airline words named) where
    no_airline : (why : Refusal) → why ≡ other_airline → (All (IsOf airline) named → ⊥)
        → flights_named airline words (Err why)
    no_airline why is other = inr (tt, refl, inr (named, names, inl (other, is)))

    found : All (IsOf airline) named
        → flights_named airline words (Ok (map (λ d. d.flight) named))
    found all = (tt, refl, (named, names, (tt, all, refl)))

pub returns-in_err-named-clause-err : goal.returns-in_err-named-clause-err
returns-in_err-named-clause-err c =
    let why = c.in_err-named.field-0.0 in
    let is : c.from_residual.result ≡ Err why = search rules in
    rw is (no_flights c.args.airline (map (λ t. t.now) c.args.words.now) why
    c.in_err-named.ensures.err)

pub returns-then-has_other-clause-err : goal.returns-then-has_other-clause-err
returns-then-has_other-clause-err c =
    let airline = c.args.airline in
    no_airline airline (map (λ t. t.now) c.args.words.now) c.in_ok-named.named.items
    c.in_ok-named.ensures.ok c.from.result c.from.ensures
    (λ all. c.has_other.ensures.other c.if-has_other.true
    (subst (λ (ds : List Designator). All (IsOf airline) ds) (sym c.deref.ensures.value) all))

pub returns-clause-ok : goal.returns-clause-ok
returns-clause-ok c =
    let airline = c.args.airline in
    let words = map (λ t. t.now) c.args.words.now in
    let named = c.in_ok-named.named.items in
    let all = subst (λ (ds : List Designator). All (IsOf airline) ds) c.deref.ensures.value
    (c.has_other.ensures.none c.if-has_other.false) in
    let numbers = c.in_ok-numbers.ensures ∙ ap (map (λ d. d.flight)) c.deref-2.ensures.value in
    subst (λ (fs : List FlightNumber). flights_named airline words (Ok fs)) (sym numbers)
    (found airline words named c.in_ok-named.ensures.ok all)
