pub mod DraftLemmas
pub mod ReadLemmas
pub mod RowsTell
pub mod Decisions
