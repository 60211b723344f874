-- A carrier record names the airline, unless it has a name; another record names none.
use Rattle.std.proofs.Common.{◌∙◌, refl, sym, ap, Some, Ok, ◌∷◌, []}
use Rattle.ssim_records.specs.declared.record.Record.{Record}
use Rattle.ssim_parts.specs.Sections.{airline_in}
use Rattle.ssim_parts.proofs.SectionItems.{airline-first, airline-none, airline-same, airline-there}
use Rattle.ssim_parts.proofs.section_builder.SectionBuilder.name_airline.Goals as goal

pub returns-in-None : goal.returns-in-None
returns-in-None c = record {
  airline = λ items number is. ap Some c.airline.ensures
      ∙ sym (airline-first items (number, Ok c.args.record.now) (sym is ∙ c.in-None.is)
      ∙ ap (λ (r : Record). airline_in ((number, Ok r) ∷ [])) c.in-Carrier.is);
  same = refl;
}

pub returns-in-Some : goal.returns-in-Some
returns-in-Some c = record {
  airline = λ items number is. c.in-Some.is
      ∙ sym (airline-there items (number, Ok c.args.record.now) _ (sym is ∙ c.in-Some.is));
  same = refl;
}

pub returns-in_default : goal.returns-in_default
returns-in_default c = record {
  airline = λ items number is. is ∙ sym
      (airline-same items _ (airline-none number _ c.in_default.not-Carrier));
  same = refl;
}
