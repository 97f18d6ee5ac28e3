pub mod MemoryLemmas
pub mod RequestLemmas
pub mod ServingLemmas
