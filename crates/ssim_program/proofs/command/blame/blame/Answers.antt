-- The words name flights, or not.
use Rattle.std.proofs.Common.{◌≡◌, ◌∙◌, Err, List, ℕ, Ok, ap, if◌then◌else◌, inl, inr, map, rules, subst}
use Rattle.ssim_base.specs.Base.{airline_of}
use Rattle.ssim_schedule.specs.FlightPieces.{in_order}
use Rattle.ssim_blame.specs.Lines.{blame_lines}
use Rattle.ssim_blame.specs.Makers.{Blamed, blamed}
use Rattle.ssim_blame.specs.Rows.{blame_rows}
use Rattle.ssim_program.specs.Messages.{flights_named}
use Rattle.ssim_program.proofs.command.blame.blame.Goals as goal

pub returns-in_err-named-clause-answer : goal.returns-in_err-named-clause-answer
returns-in_err-named-clause-answer g c =
    let why = c.in_err-named.field-0.0 in
    let here = c.airline-airline.ensures ∙ ap airline_of c.data_set.ensures in
    let is : c.from_residual-in_err-named.result ≡ Err why = search rules in
    rw is (inr (
      c.in_ok-desk.desk,
      c.in_ok-desk.ensures.answer,
      inl (subst (λ (a : List ℕ). flights_named a (map (λ t. t.now) c.args.words.now) (Err why)) here
          c.in_err-named.ensures.err),
    ))

pub returns-clause-answer : goal.returns-clause-answer
returns-clause-answer g c =
    let desk = c.in_ok-desk.desk in
    let numbers = c.in_ok-named.named.items in
    let here = c.airline-airline.ensures ∙ ap airline_of c.data_set.ensures in
    let ordered =
    c.deref-2.ensures.value ∙ c.in_ok-flights.ensures ∙ ap in_order c.deref.ensures.value in
    let lines = λ (airline : List ℕ) (flights : List Blamed).
    if c.args.csv then blame_rows airline flights else blame_lines airline flights in (
      desk,
      c.in_ok-desk.ensures.answer,
      (
        numbers,
        subst (λ (a : List ℕ). flights_named a (map (λ t. t.now) c.args.words.now) (Ok numbers)) here
            c.in_ok-named.ensures.ok,
        c.in_ok-lines.ensures ∙ (λ i. lines (here i) (map (blamed desk) (ordered i))),
      ),
    )
