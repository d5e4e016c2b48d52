mod Tracks
mod Walks
mod Once
mod Prefixes
