-- What the page shows of a leg.
use Rattle.std.specs.Prelude.{ℕ, ◌==◌, if◌then◌else◌, List, [], ◌∷◌, ◌++◌, codes}
use Rattle.std.specs.List.{flat_map}
use Rattle.ssim_text.specs.Left.{without_end}
use Rattle.ssim_records.specs.Leg.{leg_columns}
use Rattle.ssim_base.specs.Timetable.{LegValue}
use Rattle.ssim_listing.specs.LegText.{leg_text}
use Rattle.ssim_page.specs.Html.{escaped, escaped_byte}

-- a byte within a word: a blank is a full stop
abbrev pub word_byte : ℕ → List ℕ
word_byte b = if b == 32 then codes "." else escaped_byte b

-- bytes as one word: a full stop if there are none
abbrev pub word_of : List ℕ → List ℕ
word_of [] = codes "."
word_of (b ∷ bytes) = flat_map word_byte (b ∷ bytes)

-- a blank, and columns first to last as one word, without the blanks at their end
abbrev pub word : ℕ → ℕ → List ℕ → List ℕ
word first last columns = 32 ∷ word_of (without_end (leg_columns first last columns))

-- the terminals of departure and arrival, the booking designators, the aircraft configuration
abbrev pub words : List ℕ → List ℕ
words columns =
    word 53 54 columns ++ word 71 72 columns ++ word 76 95 columns ++ word 173 192 columns

-- the line of a leg that `show` prints
unfoldable pub shown_line : LegValue → List ℕ
shown_line leg = escaped (leg_text leg)

-- The row of a leg: the line that `show` prints, and four words.
unfoldable pub leg_row : LegValue → List ℕ
leg_row leg = shown_line leg ++ words leg.columns
