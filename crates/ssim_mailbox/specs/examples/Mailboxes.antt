-- A mailbox of two texts, one with lines beside its texts, and one with free texts.
use Rattle.std.specs.Prelude.{◌≡◌, ℕ, List, [], ◌∷◌, ◌++◌, codes}
use Rattle.std.specs.List.{flat_map}
use Rattle.ssim_mailbox.specs.Texts.{texts_in}

-- the bytes of lines, each of which LF ends
abbrev pub bytes_of : List (List ℕ) → List ℕ
bytes_of = flat_map (λ line. line ++ 10 ∷ [])

-- two texts with addresses, the first of which NNNN ends
abbrev pub two_texts : List ℕ
two_texts = bytes_of (codes "QU FDHOPZ7 HAMOPZ7" ∷ codes ".MUCOPZ7 160500" ∷ codes "SSM"
    ∷ codes "LT" ∷ codes "16MAR00003E001" ∷ codes "CNL" ∷ codes "Z7103" ∷ codes "24MAY27 24MAY27 1"
    ∷ codes "NNNN" ∷ codes "QD FDHOPZ7" ∷ codes ".HAMOPZ7 170612" ∷ codes "SSM" ∷ codes "LT"
    ∷ codes "17MAR00001E001" ∷ codes "CNL" ∷ codes "Z7111" ∷ codes "31APR27 31APR27 5"
    ∷ codes "NNNN" ∷ [])

-- they begin on the lines 2 and 11
abbrev pub two_are_found : Type 0
two_are_found = texts_in two_texts ≡
    record {
      line = 2;
      bytes = bytes_of (codes ".MUCOPZ7 160500" ∷ codes "SSM" ∷ codes "LT" ∷ codes "16MAR00003E001"
          ∷ codes "CNL" ∷ codes "Z7103" ∷ codes "24MAY27 24MAY27 1" ∷ []);
    }
    ∷ record {
      line = 11;
      bytes = bytes_of (codes ".HAMOPZ7 170612" ∷ codes "SSM" ∷ codes "LT" ∷ codes "17MAR00001E001"
          ∷ codes "CNL" ∷ codes "Z7111" ∷ codes "31APR27 31APR27 5" ∷ []);
    }
    ∷ []

-- Lines before all texts, ZCZC, SOH, CR and empty lines, an origin line above an empty line, two
-- texts that NNNN does not divide, and an address line without an origin line, which is a line of
-- the text above it.
abbrev pub mixed_lines : List ℕ
mixed_lines = bytes_of (codes "HELLO" ∷ [] ∷ (1 ∷ codes "ZCZC ABC123") ∷ codes "FDHOPZ7"
    ∷ (codes ".MUCOPZ7" ++ 13 ∷ []) ∷ [] ∷ codes "SSM " ∷ codes "UTC" ∷ [] ∷ codes "ASM"
    ∷ codes "LT" ∷ codes "HAMOPZ7" ∷ codes "ZCZC" ∷ codes "SSM" ∷ (3 ∷ []) ∷ [])

-- its texts begin on the lines 1, 5, 10 and 14
abbrev pub four_are_found : Type 0
four_are_found = texts_in mixed_lines ≡
    record { line = 1; bytes = bytes_of (codes "HELLO" ∷ []) }
    ∷ record { line = 5; bytes = bytes_of (codes ".MUCOPZ7" ∷ [] ∷ codes "SSM" ∷ codes "UTC" ∷ []) }
    ∷ record { line = 10; bytes = bytes_of (codes "ASM" ∷ codes "LT" ∷ codes "HAMOPZ7" ∷ []) }
    ∷ record { line = 14; bytes = bytes_of (codes "SSM" ∷ []) } ∷ []

-- Two texts with free text. An empty line between `//` and SI changes nothing, and one after SI
-- ends the text: the signature of the mail, with an empty line in it, is a text of its own. The
-- second free text has no empty line, so that NNNN ends it. The line after NNNN begins with SI, but
-- there is no `//` above it in a text of its own.
abbrev pub free_texts : List ℕ
free_texts = bytes_of (codes "SSM" ∷ [] ∷ codes "CNL" ∷ codes "//" ∷ [] ∷ codes "SI CHARTER"
    ∷ codes "SEE MEMO" ∷ codes " " ∷ codes "BEST REGARDS" ∷ [] ∷ codes "FDHOPZ7" ∷ [] ∷ codes "ASM"
    ∷ codes "//" ∷ codes "SI A" ∷ codes "//" ∷ codes "NNNN" ∷ codes "SI B" ∷ [] ∷ codes "C" ∷ [])

-- its texts begin on the lines 1, 9, 13 and 18
abbrev pub free_texts_end : Type 0
free_texts_end = texts_in free_texts ≡
    record {
      line = 1;
      bytes = bytes_of (codes "SSM" ∷ [] ∷ codes "CNL" ∷ codes "//" ∷ [] ∷ codes "SI CHARTER"
          ∷ codes "SEE MEMO" ∷ []);
    }
    ∷ record { line = 9; bytes = bytes_of (codes "BEST REGARDS" ∷ [] ∷ codes "FDHOPZ7" ∷ []) }
    ∷ record {
      line = 13;
      bytes = bytes_of (codes "ASM" ∷ codes "//" ∷ codes "SI A" ∷ codes "//" ∷ []);
    }
    ∷ record { line = 18; bytes = bytes_of (codes "SI B" ∷ [] ∷ codes "C" ∷ []) } ∷ []

-- these mailboxes have these texts
abbrev pub WorkedMailboxes : Type 0
WorkedMailboxes = two_are_found × four_are_found × free_texts_end
