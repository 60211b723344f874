-- The records that were read are a base if none is missing.
use Rattle.std.proofs.Common.{◌≡◌, List, None, rules, sym, subst, ◌∙◌}
use Rattle.ssim_records.specs.declared.record.Record.{Record}
use Rattle.ssim_base.specs.Base.{Done}
use Rattle.ssim_base.specs.BaseSeen.{AreFlights, WasRead}
use Rattle.ssim_base.specs.Reading.{IsReadOf}
use Rattle.ssim_base.proofs.NotedReads.{told_of}
use Rattle.ssim_base.proofs.ReadingLemmas.{whole-outcome}
use Rattle.ssim_base.proofs.RestLemmas.{missing-read, missing-refuses, whole-read}
use Rattle.ssim_base.proofs.data_set.DataSet.finish.Goals as goal

pub returns-in-Some-clause-read : goal.returns-in-Some-clause-read
returns-in-Some-clause-read c = λ limit told h.
    let lacking = sym (c.missing.ensures h.earlier h.so_far.is_kept) ∙ c.in-Some.is in
    missing-read c.in-Some.refusal h lacking

pub returns-in-Some-clause-err : goal.returns-in-Some-clause-err
returns-in-Some-clause-err c = λ limit before after h same.
    let lacking = sym (c.missing.ensures h.earlier h.so_far.is_kept) ∙ c.in-Some.is in
    missing-refuses c.in-Some.refusal h lacking same

pub of_base-requires-clause-was_read : goal.of_base-requires-clause-was_read
of_base-requires-clause-was_read c =
    let r = c.requires in
    let none : c.missing.result ≡ None = search rules in
    let whole = sym (c.missing.ensures r.earlier r.so_far.is_kept) ∙ none in
    subst (λ (rs : List Record). WasRead rs) (sym r.has) (record {
      ending = Done c.args.number;
      records = r.done;
      notes = c.args.records_read.notes.items;
      spelt = r.so_far.records;
      read = sym (whole-outcome c.args.records_read r.earlier r.done c.args.number r.so_far whole);
    })

pub of_base-requires-clause-flights : goal.of_base-requires-clause-flights
of_base-requires-clause-flights c =
    let r = c.requires in
    subst (λ (rs : List Record). AreFlights rs c.in_ok-flights.flights.items) (sym r.has)
    (c.in_ok-flights.ensures r.earlier r.so_far.is_kept)

pub returns-clause-read : goal.returns-clause-read
returns-clause-read c = λ limit told h.
    let none : c.missing.result ≡ None = search rules in
    let whole = sym (c.missing.ensures h.earlier h.so_far.is_kept) ∙ none in
    subst (λ (rs : List Record). IsReadOf limit told (told_of rs c.args.records_read.notes.items))
    (sym (c.of_base.ensures ∙ h.has)) (whole-read h whole)
