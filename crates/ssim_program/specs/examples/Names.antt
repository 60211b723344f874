-- Names of files as they are printed, computed.
use Rattle.std.specs.Prelude.{◌≡◌, [], ◌∷◌, ◌++◌, codes, refl}
use Rattle.std.specs.Char.{encode_utf8}
use Rattle.std.specs.Str.{chars}
use Rattle.ssim_program.specs.print.Names.{printed_name}

-- an ESC, a backslash and a DEL
ascii_escaped : printed_name (codes "a" ++ 27 ∷ codes "b\\c" ++ 127 ∷ [])
    ≡ codes "a\\x1bb\\x5cc\\x7f"
unfolding chars encode_utf8
ascii_escaped = refl

-- U+009B, which a terminal reads as the beginning of a command, is not printed; ü is
control_escaped : printed_name (194 ∷ 155 ∷ codes "z" ++ 195 ∷ 188 ∷ [])
    ≡ codes "\\xc2\\x9bz" ++ 195 ∷ 188 ∷ []
unfolding chars encode_utf8
control_escaped = refl

-- U+202E turns what follows round, and U+2069 ends such a part; the euro sign is printed
direction_escaped :
    printed_name (226 ∷ 128 ∷ 174 ∷ codes "z" ++ 226 ∷ 129 ∷ 169 ∷ 226 ∷ 130 ∷ 172 ∷ [])
    ≡ codes "\\xe2\\x80\\xaez\\xe2\\x81\\xa9" ++ 226 ∷ 130 ∷ 172 ∷ []
unfolding chars encode_utf8
direction_escaped = refl
