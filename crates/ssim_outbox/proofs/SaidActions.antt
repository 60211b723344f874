-- An action that the grammar allows, and whose parts lines can spell, is the action of a text: the
-- canonical text of an SSM with this one sub-message, for LX544 on the Tuesdays of a week.
use Rattle.std.proofs.Common.{[], ◌∷◌, codes, arith, refl, lit<}
use Rattle.std.specs.List.{AllByRecursion}
use Rattle.ssim_values.specs.Designator.{SpellsDesignator}
use Rattle.ssim_values.specs.DayMonth.{month_day_of}
use Rattle.ssim_values.specs.declared.time_mode.TimeMode.TheVariants.{Utc}
use Rattle.ssim_text.specs.Canonical.{canonical}
use Rattle.ssim_text.specs.Grammar.{IsBody, ReferencePart}
use Rattle.ssim_text.specs.Lines.{numbers_of, reference_of}
use Rattle.ssim_text.specs.Message.{MessageValue, message_of}
use Rattle.ssim_text.specs.Values.{no_originator}
use Rattle.ssim_text.specs.declared.action.Action.{Action}
use Rattle.ssim_text.specs.declared.action.Sub.{Sub}
use Rattle.ssim_text.specs.declared.kind.Kind.TheVariants.{Ssm}
use Rattle.ssim_text.specs.examples.Texts.{reference, swiss, tuesdays}
use Rattle.ssim_text.proofs.HeadingAgain.{reference_again}
use Rattle.ssim_text.proofs.LinesKept.{ReadsAgain}
use Rattle.ssim_text.proofs.ReadsBack.{kind_again, mode_again}
use Rattle.ssim_outbox.specs.DatedSub.{dated}
use Rattle.ssim_outbox.specs.Messages.{headed}
use Rattle.ssim_outbox.specs.Reach.{IsSaid}
use Rattle.ssim_outbox.specs.internal.Texts.{heading_parts}
use Rattle.ssim_outbox.proofs.Alone.{alone_under}
use Rattle.ssim_outbox.proofs.Said.{CanAct}

abbrev heading : MessageValue
heading = message_of no_originator Ssm Utc (reference 1 6 1) []

reference_reads : ReadsAgain (ReferencePart (reference 1 6 1))
unfolding reference_of numbers_of month_day_of
reference_reads =
    reference_again (reference 1 6 1) (codes "01JUN00001E001") refl
    (record { some = omega arith; printable = refl; ended = refl })

heading_reads : AllByRecursion ReadsAgain (heading_parts heading 1)
heading_reads = (kind_again Ssm, (mode_again Utc, (reference_reads, tt)))

flight_544 : SpellsDesignator (swiss 544) (codes "LX544")
flight_544 = record {
  is_code = refl;
  rest = codes "544";
  flight = record {
    digits = codes "544";
    is_number = record { from = omega arith; to = omega arith; all = refl; number = refl };
    suffixed = refl;
    spelled = refl;
  };
  spelled = refl;
}

-- the sub-message with the action
abbrev sub : Action → Sub
sub = dated (swiss 544) (record { first = 9313; last = 9319; days = tuesdays })

pub said_if_allowed : (action : Action) → IsBody action → CanAct action → IsSaid action
said_if_allowed action body can = record {
  text = canonical (headed heading 1 (sub action ∷ []));
  message = headed heading 1 (sub action ∷ []);
  spelled = alone_under heading (swiss 544) (codes "LX544") 9313 9319 tuesdays action refl
      heading_reads (omega arith) flight_544 (lit< tt) (lit< tt)
      (record { seven = refl; some = lit< tt }) (record { allowed = body; can = can });
  sub = sub action;
  contained = (0, omega arith, refl);
  action_is = refl;
}
