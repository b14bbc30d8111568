pub mod ConnectionLemmas
pub mod HeadedLemmas
pub mod EachLemmas
pub mod GroupLemmas
pub mod ListeningLemmas
pub mod OperatorLemmas
pub mod Pieces
pub mod TogetherLemmas
