-- What contracts see of a shared itinerary, its legs; and the hash that it keeps of them.
use Rattle.std.specs.Prelude.{◌≡◌, ℕ, ◌+◌, ◌*◌, ◌%◌, ◌<◌, ◌≤◌, [], ◌∷◌, length}
use Rattle.ssim_records.specs.clauses.Leg.{quick_hash}
use Rattle.ssim_base.specs.Timetable.{LegValue, Legs}
use Rattle.ssim_schedule.specs.declared.itinerary.SharedLegs.{SharedLegs}
use Rattle.ssim_schedule.specs.declared.itinerary.SharedLegs.TheVariants.{None, One, Two, More}

-- the legs of shared legs
abbrev pub legs_of : SharedLegs → Legs
legs_of None = []
legs_of (One legs) = legs.value
legs_of (Two legs) = legs.value
legs_of (More legs) = legs.value.items

-- the number of records of legs: one for each leg and one for each of its tails
abbrev pub legs_count : Legs → ℕ
legs_count [] = 0
legs_count (l ∷ legs) = (1 + length l.tails) + legs_count legs

-- a count of the records of legs; below 999,999 it is exact
abbrev pub CountsRecords : ℕ → Legs → Type 0
CountsRecords count legs = (count ≤ legs_count legs) × (count < 999999 → count ≡ legs_count legs)

-- a hash of a leg's columns and its number of tails
abbrev pub leg_hash : LegValue → ℕ
leg_hash l = quick_hash l.columns + 16777213 * (length l.tails % 4096)

-- the hash of legs
abbrev pub hash_of : Legs → ℕ
hash_of [] = 0
hash_of (l ∷ legs) = hash_of legs % 4294967296 * 7919 + leg_hash l
