-- Texts of messages that send sub-messages, checked by computation.
use Rattle.std.specs.Prelude.{◌≡◌, List, [], ◌∷◌, ◌++◌, codes, length, refl}
use Rattle.ssim_values.specs.Calendar.{day_number, day_of_month, leap_years, month_of}
use Rattle.ssim_values.specs.Calendar.{months_length, year_of}
use Rattle.ssim_values.specs.Day.{day_text}
use Rattle.ssim_values.specs.declared.time_mode.TimeMode.TheVariants.{Local, Utc}
use Rattle.ssim_text.specs.Canonical.{canonical}
use Rattle.ssim_text.specs.Message.{MessageValue, begun}
use Rattle.ssim_text.specs.Values.{no_originator}
use Rattle.ssim_text.specs.declared.action.Action.TheVariants.{Cnl, New, Tim}
use Rattle.ssim_text.specs.declared.action.Sub.{Sub}
use Rattle.ssim_text.specs.declared.dates.GivenDate.TheVariants.{Full}
use Rattle.ssim_text.specs.declared.kind.Kind.TheVariants.{Ssm}
use Rattle.ssim_text.specs.examples.Texts.{equipment, leg, mondays, on_days, reference, swiss, tuesdays}
use Rattle.ssim_mailbox.specs.Texts.{texts_in}
use Rattle.ssim_outbox.specs.MailFile.{mail_file}
use Rattle.ssim_outbox.specs.Messages.{headed}

-- 02JUN00001E001 in UTC
abbrev heading : MessageValue
heading = begun no_originator Ssm Utc (reference 2 6 1)

-- LX544 is cancelled on 01JUL25
abbrev cancelled : Sub
cancelled = record {
  designator = swiss 544;
  dates = on_days (Full 9313) (Full 9313) tuesdays;
  action = Cnl;
}

-- LX544 has other times on the Mondays from 07JUL25 to 28JUL25
abbrev retimed : Sub
retimed = record {
  designator = swiss 544;
  dates = on_days (Full 9319) (Full 9340) mondays;
  action = Tim (leg (codes "ZRH") 360 (codes "LHR") 435 ∷ []);
}

-- LX544 is new on 01JUL25
abbrev put_back : Sub
put_back = record {
  designator = swiss 544;
  dates = on_days (Full 9313) (Full 9313) tuesdays;
  action = New (record {
    equipment = equipment 51 50 48 (codes "CY") (codes "C12Y138");
    legs = leg (codes "ZRH") 345 (codes "LHR") 420 ∷ [];
    segments = [];
  });
}

one_cancelled : canonical (headed heading 1 (cancelled ∷ []))
    ≡ codes "SSM\nUTC\n02JUN00001E001\nCNL\nLX544\n01JUL25 01JUL25 2\n"
unfolding day_text day_number leap_years months_length year_of month_of day_of_month
one_cancelled = refl

cancelled_length : length (canonical (headed heading 1 (cancelled ∷ []))) ≡ 51
unfolding day_text day_number leap_years months_length year_of month_of day_of_month
cancelled_length = refl

retimed_length : length (canonical (headed heading 1 (retimed ∷ []))) ≡ 67
unfolding day_text day_number leap_years months_length year_of month_of day_of_month
retimed_length = refl

put_back_length : length (canonical (headed heading 1 (put_back ∷ []))) ≡ 84
unfolding day_text day_number leap_years months_length year_of month_of day_of_month
put_back_length = refl

-- two sub-messages in one text, which is the third of its group
two_together : canonical (headed heading 3 (cancelled ∷ retimed ∷ []))
    ≡ codes "SSM\nUTC\n02JUN00003E001\nCNL\nLX544\n01JUL25 01JUL25 2\n//\n"
    ++ codes "TIM\nLX544\n07JUL25 28JUL25 1\nZRH0600 LHR0715\n"
unfolding day_text day_number leap_years months_length year_of month_of day_of_month
two_together = refl

-- a heading with an originator, in local time
abbrev originated : MessageValue
originated = begun (codes "ZRHRMLX") Ssm Local (reference 2 6 1)

in_local_time : canonical (headed originated 99999 (cancelled ∷ []))
    ≡ codes ".ZRHRMLX\nSSM\nLT\n02JUN99999E001\nCNL\nLX544\n01JUL25 01JUL25 2\n"
unfolding day_text day_number leap_years months_length year_of month_of day_of_month
in_local_time = refl

-- ---- the file, and what is read of it

-- two messages, the second with an originator
abbrev both : List MessageValue
both = headed heading 1 (cancelled ∷ []) ∷ headed originated 2 (cancelled ∷ []) ∷ []

-- a mailbox with these bytes has the two texts, which begin on the lines 1 and 8
read_back : texts_in (mail_file both)
    ≡ record {
      line = 1;
      bytes = codes "SSM\nUTC\n02JUN00001E001\nCNL\nLX544\n01JUL25 01JUL25 2\n";
    }
    ∷ record {
      line = 8;
      bytes = codes ".ZRHRMLX\nSSM\nLT\n02JUN00002E001\nCNL\nLX544\n01JUL25 01JUL25 2\n";
    }
    ∷ []
unfolding day_text day_number leap_years months_length year_of month_of day_of_month
read_back = refl

-- a message whose free text has a line NNNN
abbrev with_end : MessageValue
with_end = record (headed heading 1 (cancelled ∷ [])) {
  free = codes "SI FIRST" ∷ codes "NNNN" ∷ codes "LAST" ∷ [];
}

-- a mailbox ends the text at this line, so that it does not read the canonical text again
cut_short : texts_in (mail_file (with_end ∷ []))
    ≡ record {
      line = 1;
      bytes = codes "SSM\nUTC\n02JUN00001E001\nCNL\nLX544\n01JUL25 01JUL25 2\n//\nSI FIRST\n";
    }
    ∷ record { line = 10; bytes = codes "LAST\n" } ∷ []
unfolding day_text day_number leap_years months_length year_of month_of day_of_month
cut_short = refl
