mod Asked
mod OneLog
mod Kept
mod Runs
mod Finding
mod Living
mod Twice
