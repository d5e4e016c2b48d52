pub mod SoundFronts
pub mod Flaws
pub mod FirstFlawed
pub mod Restoring
pub mod Texts
pub mod Heads
