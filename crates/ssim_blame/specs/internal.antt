-- Definitions that only private functions and computed examples cite, so nobody has to believe
-- them.
pub mod Made
pub mod MadeLaws
