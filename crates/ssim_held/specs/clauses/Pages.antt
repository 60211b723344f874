-- Messages in order of reference, on pages.
use Rattle.std.specs.Prelude.{◌≡◌, ◌≢◌, ℕ, zero, suc, ◌+◌, ◌<◌, ◌≤◌, List, [], ◌∷◌, length}
use Rattle.std.specs.Prelude.{slice_get, Some, MatchOption}
use Rattle.std.specs.List.{flat_map}
use Rattle.ssim_text.specs.declared.reference.Reference.{Reference}
use Rattle.ssim_held.specs.Entries.{Entry}
use Rattle.ssim_held.specs.clauses.Ordered.{Belongs}
use Rattle.ssim_held.specs.declared.pages.PagePlace.{PagePlace}

-- the messages of all pages, in order
abbrev pub all_of : List (List Entry) → List Entry
all_of pages = flat_map (λ page. page) pages

-- how many messages come before message number `at` of a page
abbrev pub position_on : List (List Entry) → ℕ → ℕ → ℕ
position_on [] page at = at
position_on (first ∷ pages) zero at = at
position_on (first ∷ pages) (suc page) at = length first + position_on pages page at

-- how many messages come before a place
abbrev pub position : List (List Entry) → PagePlace → ℕ
position pages place = position_on pages place.page place.at

-- a page has a message
abbrev pub IsFilled : List Entry → Type 0
IsFilled page = page ≢ []

-- the place has a message with the reference
pub record IsHeldOn (pages : List (List Entry)) (reference : Reference)
    (place : PagePlace) : Type 0 where
  pub page : List Entry
  pub is_page : slice_get pages place.page ≡ Some page
  pub within : place.at < length page
  pub entry : Entry
  pub there : slice_get (all_of pages) (position pages place) ≡ Some entry
  pub its : entry.reference ≡ reference

-- the place is on a page, or before the first message of all
abbrev pub IsGap : List (List Entry) → PagePlace → Type 0
IsGap pages place =
    MatchOption (slice_get pages place.page) ((pages ≡ []) × (place.page ≡ 0) × (place.at ≡ 0))
    (λ page. place.at ≤ length page)

-- the reference belongs in the gap
pub record BelongsOn (pages : List (List Entry)) (reference : Reference)
    (place : PagePlace) : Type 0 where
  pub gap : IsGap pages place
  pub belongs : Belongs (all_of pages) reference (position pages place) (position pages place)
