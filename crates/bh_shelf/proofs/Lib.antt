pub mod Clean
pub mod MarkLemmas
pub mod SoundLemmas
