mod CheckLemmas
pub mod StoredLemmas
pub mod QueryLemmas
pub mod SoundLemmas
pub mod Meaning
mod Returning
pub mod CallLemmas
pub mod WriteLemmas
pub mod ContentLemmas
pub mod BodyReading
pub mod KeyReading
pub mod ListedLemmas
pub mod TableLemmas
pub mod Casts
mod Fits
pub mod StoredLists
pub mod StoredPuts
