pub mod GrammarLaws
pub mod MatchLaws
pub mod TakenLaws
pub mod WordLaws
pub mod matching
