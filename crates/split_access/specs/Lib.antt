pub mod Start
pub mod Gap
pub mod Claims
pub mod WriteBack
pub mod ByWalk
pub mod WakesAtOnce
pub mod Faulty
