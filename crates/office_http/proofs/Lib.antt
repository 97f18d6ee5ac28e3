pub mod AwayLemmas
pub mod CutLaws
pub mod ListeningLemmas
pub mod MachineLemmas
pub mod ServedLemmas
pub mod StreamLaws
