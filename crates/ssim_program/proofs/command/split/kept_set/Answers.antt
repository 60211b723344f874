-- A data set with an export is kept under its name; the others are refused for their export.
use Rattle.std.proofs.Common.{◌≡◌, ◌∙◌, ◌++◌, List, length, ap, inr, refl}
use Rattle.ssim_base.specs.Base.{airline_of}
use Rattle.ssim_base.specs.Timetable.{days_of}
use Rattle.ssim_program.specs.Splitting as split
use Rattle.ssim_program.specs.Splitting.{kept_text, notes_count, notes_lines}
use Rattle.ssim_program.specs.print.Names.{printed_name}
use Rattle.ssim_program.specs.declared.refusal.Refusal.TheVariants as refused
use Rattle.ssim_program.proofs.Converting.{refused_for}
use Rattle.ssim_program.proofs.RefusedSections.{refused_fate}
use Rattle.ssim_program.proofs.command.split.kept_set.Goals as goal

pub returns-in-Ok-clause-ok : goal.returns-in-Ok-clause-ok
returns-in-Ok-clause-ok c =
    let end' = c.args.read.end_note in
    let flights = c.flights-flights.result.now in
    let airline = c.airline-airline.ensures in
    let name = c.as_str-in-Ok.ensures.value ∙ c.in_ok-printed-in-Ok.ensures
    ∙ ap printed_name c.as_str.ensures.value in
    record {
      base = c.args.read.data_set;
      notes = (c.args.read.notes.items, end');
      flights = flights;
      outcome = refl;
      export = c.in-Ok.ensures.ok;
      again = c.in-Ok.ensures.again;
      are_flights = c.flights-flights.ensures;
      name_is = c.in_ok-name-in-Ok.ensures.ok
          ∙ ap (λ a. split.name_of c.args.prefix.now a c.args.done.now) airline;
      lines_are = c.in_ok-lines-in-Ok.ensures
          ∙ ap (λ ns. notes_lines (ns, end') ++ kept_text c.airline-airline.result
          c.as_str-in-Ok.result.now c.args.records (length flights) (notes_count (ns, end')))
          c.deref.ensures.value
          ∙ ap (λ a. notes_lines (c.args.read.notes.items, end') ++ kept_text a
          c.as_str-in-Ok.result.now c.args.records (length flights)
          (notes_count (c.args.read.notes.items, end'))) airline
          ∙ ap (λ n. notes_lines (c.args.read.notes.items, end')
          ++ kept_text (airline_of c.args.read.data_set) n c.args.records (length flights)
          (notes_count (c.args.read.notes.items, end'))) name;
    }

pub returns : goal.returns
returns c =
    let base = c.args.read.data_set in record {
      ok = refused_fate c.refused.result c.args.prefix.now c.args.done.now _
          (refused.Export c.airline-airline.result c.in-Err.fault)
          (inr (
            base,
            (c.args.read.notes.items, c.args.read.end_note),
            refl,
            refused_for base (days_of base) c.airline-airline.result c.in-Err.fault
                c.airline-airline.ensures c.in-Err.ensures.err,
          )) c.refused.ensures.ok;
      err = c.refused.ensures.err;
    }
