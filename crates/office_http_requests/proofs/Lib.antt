pub mod BodyLemmas
pub mod PathLemmas
pub mod RouteTable
pub mod RowLemmas
