-- Links of the page.
use Rattle.std.specs.Prelude.{ℕ, List, ◌∷◌, ◌++◌, codes}
use Rattle.ssim_values.specs.Period.{DayRange}
use Rattle.ssim_listing.specs.Lines.{period_text}

-- a link to the article of the flight with this name
unfoldable pub flight_link : List ℕ → List ℕ
flight_link name = codes "<a href=\"#" ++ name ++ codes "\">" ++ name ++ codes "</a>"

-- a link to a flight, and a period: first day, last day and days of operation
unfoldable pub dated_link : List ℕ → DayRange → List ℕ
dated_link name period = flight_link name ++ 32 ∷ period_text period
