mod Telling
mod Cutting
mod Answering
