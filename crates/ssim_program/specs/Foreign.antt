-- Files of other programs, known by their first bytes.
use Rattle.std.specs.Prelude.{◌≡◌, ℕ, Bool, ◌||◌, List, []}
use Rattle.std.specs.Prelude.{◌∷◌, ◌++◌, drop, Option, Some, None, nat_eq}
use Rattle.std.specs.Prelude.{if◌then◌else◌, codes}
use Rattle.std.specs.Char.{is_ascii_whitespace}
use Rattle.std.specs.List.{prefix_len, starts_with}
use Rattle.ssim_base.specs.Export.{line}
use Rattle.ssim_command_line.specs.Line.{Text}
use Rattle.ssim_program.specs.declared.explain.foreign.ForeignKind.{ForeignKind}
use Rattle.ssim_program.specs.declared.explain.foreign.ForeignKind.TheVariants as kind

-- the bytes begin with others
abbrev pub begins_with : List ℕ → List ℕ → Bool
begins_with bytes first = starts_with nat_eq bytes first

-- gzip: 1F 8B
abbrev pub is_gzip : List ℕ → Bool
is_gzip bytes = begins_with bytes (31 ∷ 139 ∷ [])

-- a zip archive: PK and 03 04, or 05 06 if it is empty
abbrev pub is_zip : List ℕ → Bool
is_zip bytes =
    begins_with bytes (80 ∷ 75 ∷ 3 ∷ 4 ∷ []) || begins_with bytes (80 ∷ 75 ∷ 5 ∷ 6 ∷ [])

-- a byte order mark of UTF-16: FF FE or FE FF
abbrev pub is_utf16 : List ℕ → Bool
is_utf16 bytes = begins_with bytes (255 ∷ 254 ∷ []) || begins_with bytes (254 ∷ 255 ∷ [])

-- a byte order mark of UTF-8: EF BB BF
abbrev pub has_utf8_mark : List ℕ → Bool
has_utf8_mark bytes = begins_with bytes (239 ∷ 187 ∷ 191 ∷ [])

-- the first two bytes of a data set in EBCDIC: F1 C1
abbrev pub is_ebcdic : List ℕ → Bool
is_ebcdic bytes = begins_with bytes (241 ∷ 193 ∷ [])

-- a page of HTML or XML: < after white space
abbrev pub is_markup : List ℕ → Bool
is_markup bytes = begins_with (drop (prefix_len is_ascii_whitespace bytes) bytes) (codes "<")

-- the kind of a file of another program, by its first bytes
abbrev pub foreign_kind : List ℕ → Option ForeignKind
foreign_kind bytes =
    if is_gzip bytes then Some kind.Gzip
    else (if is_zip bytes then Some kind.Zip
    else (if begins_with bytes (codes "%PDF-") then Some kind.Pdf
    else (if is_utf16 bytes then Some kind.Utf16
    else (if has_utf8_mark bytes then Some kind.Utf8Mark
    else (if is_ebcdic bytes then Some kind.Ebcdic
    else (if is_markup bytes then Some kind.Markup else None))))))

-- what a kind is called
abbrev pub foreign_name : ForeignKind → Text
foreign_name kind.Gzip = codes "gzip"
foreign_name kind.Zip = codes "zip"
foreign_name kind.Pdf = codes "pdf"
foreign_name kind.Utf16 = codes "utf-16"
foreign_name kind.Utf8Mark = codes "utf-8-mark"
foreign_name kind.Ebcdic = codes "ebcdic"
foreign_name kind.Markup = codes "markup"
foreign_name kind.Mail = codes "mail"

-- the text begins with the line of a foreign kind
abbrev pub BeginsWithForeign : ForeignKind → List ℕ → Type 0
BeginsWithForeign kind printed =
    (rest : List ℕ) × (printed ≡ line (codes "foreign " ++ foreign_name kind) ++ rest)
