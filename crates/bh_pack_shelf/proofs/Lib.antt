pub mod CopyLemmas
pub mod FileLemmas
pub mod ListedLemmas
pub mod OpenLemmas
pub mod RowLemmas
pub mod StayLemmas
