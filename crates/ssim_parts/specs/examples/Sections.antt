-- Where a file of several carriers is cut, computed on the first bytes of blocks.
use Rattle.std.specs.Prelude.{◌≡◌, ℕ, true, false, [], ◌∷◌, Some, None, refl}
use Rattle.ssim_records.specs.declared.fault.RecordFault.TheVariants.{Short}
use Rattle.ssim_base.specs.Base.{Broken, Done}
use Rattle.ssim_parts.specs.Sections.{Block, SectionBlocks, Whole, code_note, cut, file_end}
use Rattle.ssim_parts.specs.Sections.{section_end}

-- a carrier record, a leg and a trailer, each with its number
abbrev carrier : ℕ → Block
carrier number = (number, 50 ∷ [])

abbrev leg : ℕ → Block
leg number = (number, 51 ∷ [])

abbrev trailer : ℕ → Block
trailer number = (number, 53 ∷ [])

abbrev one : SectionBlocks
one = record { first = carrier 6; later = leg 11 ∷ trailer 86 ∷ [] }

abbrev two : SectionBlocks
two = record { first = carrier 91; later = leg 96 ∷ [] }

-- two sections, of which the second has no trailer
cut_in_two :
    cut (carrier 6 ∷ leg 11 ∷ trailer 86 ∷ carrier 91 ∷ leg 96 ∷ []) ≡ ([], one ∷ two ∷ [])
cut_in_two = refl

-- a leg before the first of them begins none
begun_by_none : cut (leg 2 ∷ carrier 91 ∷ leg 96 ∷ []) ≡ (leg 2 ∷ [], two ∷ [])
begun_by_none = refl

-- 32 names the first record of the next section; at the end it is the record after the last block
ends_before_the_next : section_end (Whole (Done 101)) (two ∷ []) ≡ Some (Done 91)
ends_before_the_next = refl

ends_with_the_file : section_end (file_end 101 [] 0) [] ≡ Some (Done 101)
ends_with_the_file = refl

ends_within_a_record : section_end (file_end 101 (51 ∷ []) 0) [] ≡ Some (Broken (Short 101))
ends_within_a_record = refl

ends_at_the_limit : section_end (file_end 101 [] 1) [] ≡ None
ends_at_the_limit = refl

-- a note on an end code names its record
announced : code_note true true 86 ≡ None
announced = refl

announced_in_vain : code_note true false 86 ≡ Some 86
announced_in_vain = refl
