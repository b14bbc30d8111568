mod Found
mod Printing
mod Refused
mod Kept
mod Making
mod Beside
mod Freeing
