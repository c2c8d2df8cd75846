pub mod Start
pub mod Run
pub mod laws
