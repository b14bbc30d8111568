mod Restart
mod Packs
mod Back
mod Remaining
mod After
