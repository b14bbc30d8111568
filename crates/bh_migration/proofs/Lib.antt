pub mod Stages
mod UnneededText
mod Texts
mod Tallied
mod Made
mod Adding
mod PlacedText
mod PacksText
