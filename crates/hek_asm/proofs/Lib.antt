pub mod LineLemmas
pub mod LinesAfter
pub mod RowLemmas
pub mod Joined
pub mod Again
pub mod RoundTrip
pub mod TextOnly
pub mod CanonicalTidy
mod Fronts
mod FormsFirst
mod LikelyReply
mod LikelyEvent
mod EntryAgain
mod SmallEntry
mod OwnSteps
mod TraceSteps
mod TraceLaws
mod WordPass
