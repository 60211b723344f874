-- Sub-messages with full dates.
use Rattle.ssim_values.specs.Period.{DayRange}
use Rattle.ssim_values.specs.declared.designator.Designator.{Designator}
use Rattle.ssim_text.specs.declared.action.Action.{Action}
use Rattle.ssim_text.specs.declared.action.Sub.{Sub}
use Rattle.ssim_text.specs.declared.dates.Dates.TheVariants.{Period}
use Rattle.ssim_text.specs.declared.dates.GivenDate.TheVariants.{Full}
use Rattle.ssim_text.specs.declared.dates.GivenEnd.TheVariants.{Until}

-- the sub-message with this action for the flight on the days of a period, whose first and last
-- date have their years
abbrev pub dated : Designator → DayRange → Action → Sub
dated designator period action = record {
  designator = designator;
  dates =
      Period (record {
        first = Full period.first;
        last = Until (Full period.last);
        days = period.days;
      });
  action = action;
}
