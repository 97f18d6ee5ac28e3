pub mod HeadLemmas
pub mod TokenLemmas
