pub mod RecordLemmas
pub mod WholeLemmas
pub mod KeptLemmas
pub mod OutboxLemmas
pub mod SpoolLemmas
pub mod PlacesLemmas
