-- The summary of the records that were read, if none is missing.
use Rattle.std.proofs.Common.{◌≡◌, reverse, None, rules, sym, ◌∙◌}
use Rattle.std.proofs.lemmas.List.{length-reverse}
use Rattle.ssim_base.proofs.RestLemmas.{missing-refuses, whole-read, whole-within}
use Rattle.ssim_base.proofs.summary.Summary.finish.Goals as goal

pub returns-in-Some-clause-err : goal.returns-in-Some-clause-err
returns-in-Some-clause-err c = λ limit before after h same.
    let lacking = sym (c.missing.ensures h.earlier h.so_far.is_kept) ∙ c.in-Some.is in
    missing-refuses c.in-Some.refusal h lacking same

pub returns-clause-sums : goal.returns-clause-sums
returns-clause-sums c = λ limit told h.
    let none : c.missing.result ≡ None = search rules in
    let whole = sym (c.missing.ensures h.earlier h.so_far.is_kept) ∙ none in
    record {
      base = reverse h.earlier;
      flights = c.in_ok-flights.flights.items;
      read = (whole-read h whole, whole-within limit told h.done c.args.number h.given);
      are_flights = c.in_ok-flights.ensures h.earlier h.so_far.is_kept;
      records_are = h.has ∙ sym (length-reverse h.earlier);
      flights_are = search rules;
    }
