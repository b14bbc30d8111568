pub mod PackLemmas
pub mod Standing
