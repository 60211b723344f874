-- The records so far are a data set if none is missing.
use Rattle.std.proofs.Common.{◌≡◌, List, None, Ok, rules, sym, subst, ◌∙◌}
use Rattle.ssim_records.specs.declared.record.Record.{Record}
use Rattle.ssim_base.specs.Base.{Done, data_set, notes_of}
use Rattle.ssim_base.specs.BaseSeen.{AreFlights}
use Rattle.ssim_base.proofs.BuiltDataSets.{missing-built, whole-built}
use Rattle.ssim_base.proofs.data_set.builder.DataSetBuilder.finish.Goals as goal

pub returns-in-Some-clause-err : goal.returns-in-Some-clause-err
returns-in-Some-clause-err c = λ done h.
    missing-built c.args.self done c.args.number c.in-Some.refusal h
    (sym (c.missing.ensures h.earlier h.is_kept) ∙ c.in-Some.is)

pub of_base-requires-clause-was_read : goal.of_base-requires-clause-was_read
of_base-requires-clause-was_read c =
    let done = c.requires.0 in
    let h = c.requires.1 in
    let none : c.missing.result ≡ None = search rules in
    record {
      ending = Done c.args.number;
      records = done;
      notes = notes_of 0 done;
      spelt = h.records;
      read = whole-built c.args.self done c.args.number h
          (sym (c.missing.ensures h.earlier h.is_kept) ∙ none);
    }

pub of_base-requires-clause-flights : goal.of_base-requires-clause-flights
of_base-requires-clause-flights c =
    let h = c.requires.1 in
    subst (λ (rs : List Record). AreFlights rs c.in_ok-flights.flights.items) (sym h.has)
    (c.in_ok-flights.ensures h.earlier h.is_kept)

pub returns-clause-read : goal.returns-clause-read
returns-clause-read c = λ done h.
    let none : c.missing.result ≡ None = search rules in
    let whole = sym (c.missing.ensures h.earlier h.is_kept) ∙ none in
    subst (λ (rs : List Record). data_set (Done c.args.number) done ≡ Ok (rs, notes_of 0 done))
    (sym c.of_base.ensures) (whole-built c.args.self done c.args.number h whole)
