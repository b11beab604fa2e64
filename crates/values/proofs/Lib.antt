pub mod Back
pub mod RoundTrip
pub mod Agree
pub mod Agreeing
pub mod Fits
pub mod TypesNeeded
