-- Names of files, as they are printed.
use Rattle.std.specs.Prelude.{ℕ, ◌+◌, ◌/◌, ◌%◌, Bool, ◌||◌, ◌&&◌, ◌==◌, nat_le, nat_lt}
use Rattle.std.specs.Prelude.{if◌then◌else◌, List, [], ◌∷◌}
use Rattle.std.specs.Char.{encode_utf8, is_control}
use Rattle.std.specs.List.{flat_map}
use Rattle.std.specs.Str.{chars}

-- a digit of base 16: 0 to 9, a to f
abbrev pub digit_16 : ℕ → ℕ
digit_16 n = if nat_lt n 10 then 48 + n else 87 + n

-- the text of a byte that is escaped: \x and two digits of base 16
abbrev pub escaped_byte : ℕ → List ℕ
escaped_byte b = 92 ∷ 120 ∷ digit_16 (b / 16) ∷ digit_16 (b % 16) ∷ []

-- whether a character changes the direction of the characters after it: U+202A to U+202E, and
-- U+2066 to U+2069
abbrev pub is_direction : ℕ → Bool
is_direction c = nat_le 0x202A c && nat_le c 0x202E || nat_le 0x2066 c && nat_le c 0x2069

-- Whether a character of a name is escaped, so that the name stays on its line and is read as it
-- is: a control character (U+0000 to U+001F, U+007F to U+009F), a backslash, or such a mark of
-- direction.
abbrev pub is_escaped : ℕ → Bool
is_escaped c = is_control c || (c == 92 || is_direction c)

-- the text of a character of a name: each byte of it in UTF-8, escaped or not
abbrev pub printed_char : ℕ → List ℕ
printed_char c = if is_escaped c then flat_map escaped_byte (encode_utf8 c) else encode_utf8 c

-- a file name as it is printed
abbrev pub printed_name : List ℕ → List ℕ
printed_name name = flat_map printed_char (chars name)
