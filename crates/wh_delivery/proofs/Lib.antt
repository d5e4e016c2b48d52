mod Turns
mod Going
mod Rounds
