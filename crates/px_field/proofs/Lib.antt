pub mod FormNumbers
pub mod TurnLaws
pub mod ViewLemmas
