-- What only private functions promise, here and in the crates above: no part of what a reader has to believe.
pub mod Filled
pub mod Wrote
