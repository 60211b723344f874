-- Lists of messages in order of reference: the position of a message, and two lists merged.
use Rattle.std.specs.Prelude.{◌≡◌, ◌≢◌, ℕ, ◌<◌, ◌≤◌, List, [], ◌∷◌, length, take, slice_get, All, Some}
use Rattle.std.specs.Prelude.{IsSome, IfSome}
use Rattle.std.specs.FinMap.{get}
use Rattle.std.specs.declared.cmp.Ordering.{Ordering}
use Rattle.std.specs.declared.cmp.Ordering.TheVariants.{Less, Equal, Greater}
use Rattle.ssim_text.specs.{Message.MessageValue, declared.reference.Reference.Reference}
use Rattle.ssim_held.specs.{Held.reference_cmp, Entries.{Entry, map_of}, declared.lookup.LookUp.LookUp}
use Rattle.ssim_held.specs.declared.lookup.LookUp.TheVariants.{Absent, Same, Other}

-- ---- the position of a message in a list in order of reference

-- the reference belongs at a position from low to high: all before low are less, and all from high
-- on are greater
pub record Belongs (entries : List Entry) (reference : Reference) (low high : ℕ) : Type 0 where
  pub order : low ≤ high
  pub within : high ≤ length entries
  pub before : (j : ℕ) → j < low
      → IfSome (slice_get entries j) (λ e. reference_cmp reference e.reference ≡ Greater)
  pub after : (j : ℕ) → high ≤ j
      → IfSome (slice_get entries j) (λ e. reference_cmp reference e.reference ≡ Less)

-- what is held under the reference of the message: nothing, the same message, or another one
abbrev pub IsFound : List Entry → Reference → MessageValue → LookUp → Type 0
IsFound entries reference message (Absent at) = Belongs entries reference at at
IsFound entries reference message Same = get (map_of entries) reference ≡ Some message
IsFound entries reference message Other =
    (other : MessageValue) × (get (map_of entries) reference ≡ Some other) × (other ≢ message)

-- ---- two such lists, put together

-- the lesser of the first messages of two lists, and the lists without it; of two messages under
-- one reference, the first list's
abbrev pub IsLesser : Ordering → Entry → List Entry → Entry → List Entry → Entry → List Entry
    → List Entry
    → Type 0
IsLesser Less m mine t theirs e mine_left theirs_left =
    (e ≡ m) × (mine_left ≡ mine) × (theirs_left ≡ t ∷ theirs)
IsLesser Equal m mine t theirs e mine_left theirs_left =
    (e ≡ m) × (mine_left ≡ mine) × (theirs_left ≡ theirs)
IsLesser Greater m mine t theirs e mine_left theirs_left =
    (e ≡ t) × (mine_left ≡ m ∷ mine) × (theirs_left ≡ theirs)

-- the next message of two lists, and what is left of them after it
abbrev pub IsNext : List Entry → List Entry → Entry → List Entry → List Entry → Type 0
IsNext [] [] e mine_left theirs_left = ⊥
IsNext [] (t ∷ theirs) e mine_left theirs_left = (e ≡ t) × (mine_left ≡ []) × (theirs_left ≡ theirs)
IsNext (m ∷ mine) [] e mine_left theirs_left = (e ≡ m) × (mine_left ≡ mine) × (theirs_left ≡ [])
IsNext (m ∷ mine) (t ∷ theirs) e mine_left theirs_left =
    IsLesser (reference_cmp m.reference t.reference) m mine t theirs e mine_left theirs_left

-- the messages of two lists, the next one first
abbrev pub IsMerged : List Entry → List Entry → List Entry → Type 0
IsMerged mine theirs [] = (mine ≡ []) × (theirs ≡ [])
IsMerged mine theirs (e ∷ all) =
    (mine_left : List Entry) × (theirs_left : List Entry)
    × IsNext mine theirs e mine_left theirs_left
    × IsMerged mine_left theirs_left all

-- the entry at an index of `theirs` is the first whose reference is not in `mine`, and this is the
-- position where it belongs in `mine`
pub record IsFirstNew (mine theirs : List Entry) (place at : ℕ) : Type 0 where
  pub first : Entry
  pub there : slice_get theirs place ≡ Some first
  pub gap : Belongs mine first.reference at at
  pub before : All (λ e. IsSome (get (map_of mine) e.reference)) (take place theirs)
