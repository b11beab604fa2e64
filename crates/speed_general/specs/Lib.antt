pub mod GeneralRound
pub mod LinesAlone
