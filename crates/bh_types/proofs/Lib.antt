pub mod Ascii
pub mod Numerals
pub mod Days
pub mod Reading
pub mod IdLemmas
pub mod RefusalLemmas
pub mod Refusing
