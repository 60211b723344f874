-- Bytes as text of a page of HTML.
use Rattle.std.specs.Prelude.{ℕ, ◌==◌, nat_lt, if◌then◌else◌, List, [], ◌∷◌, codes}
use Rattle.std.specs.List.{flat_map}

-- A byte as text: the characters that mean something else in HTML have names, and a byte above 126
-- is the replacement character, so that the page is ASCII and one byte is one character.
abbrev pub escaped_byte : ℕ → List ℕ
escaped_byte b =
    if b == 38 then codes "&amp;"
    else (if b == 60 then codes "&lt;"
    else (if b == 62 then codes "&gt;"
    else (if nat_lt b 127 then b ∷ [] else codes "&#65533;")))

-- bytes as text
abbrev pub escaped : List ℕ → List ℕ
escaped bytes = flat_map escaped_byte bytes
