-- Legs in groups of legs with the same text.
use Rattle.std.specs.Prelude.{ℕ, Bool, false, not, ◌||◌, if◌then◌else◌, List, Some, None, Option}
use Rattle.std.specs.Prelude.{Vec, option_map}
use Rattle.std.specs.BTreeMap.{BTreeMap, get_by}
use Rattle.std.specs.Cmp.Lexicographic.{slice_cmp}
use Rattle.std.specs.List.{find}
use Rattle.std.specs.Ordering.{nat_cmp}
use Rattle.std.specs.Str.{bytes_eq}
use Rattle.ssim_base.specs.Export.{same_leg}
use Rattle.ssim_base.specs.Timetable.{LegValue, Legs}
use Rattle.ssim_listing.specs.Marks.{is_like_one_by}
use Rattle.ssim_listing.specs.declared.groups.LegGroup.{LegGroup}

-- the first leg of a group, and whether one of the group differs from it
abbrev pub GroupSeen : Type 0
GroupSeen = LegValue × Bool

-- whether a leg, written as a text, has this one
abbrev pub has_text : (LegValue → List ℕ) → List ℕ → LegValue → Bool
has_text written text leg = bytes_eq (written leg) text

-- the group of the legs with this text
abbrev pub group_of : (LegValue → List ℕ) → Legs → List ℕ → Option GroupSeen
group_of written legs text =
    option_map (λ first. (first, is_like_one_by written legs first))
    (find (has_text written text) legs)

-- a group with one more leg
abbrev pub grown : LegValue → Option GroupSeen → GroupSeen
grown leg None = (leg, false)
grown leg (Some group) = (group.0, group.1 || not (same_leg group.0 leg))

-- the group with a text after one more leg, whose text comes first
abbrev pub with_leg : List ℕ → LegValue → List ℕ → Option GroupSeen → Option GroupSeen
with_leg own leg text group = if bytes_eq own text then Some (grown leg group) else group

-- the group with this text in a map
abbrev pub group_in : {A : Type 0} → BTreeMap (Vec ℕ A) LegGroup → List ℕ → Option GroupSeen
group_in map text =
    option_map (λ g. (g.first.now, g.is_mixed))
    (get_by (λ key. slice_cmp nat_cmp text key.items) map)

-- whether the legs of a group differ
abbrev pub is_mixed : Option GroupSeen → Bool
is_mixed None = false
is_mixed (Some group) = group.1
