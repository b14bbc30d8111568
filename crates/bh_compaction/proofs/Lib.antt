mod Texts
mod Told
mod Found
mod Chains
mod Replacing
mod Others
