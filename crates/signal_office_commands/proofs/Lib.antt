pub mod FaultLemmas
pub mod ChangingLemmas
mod EditingLemmas
