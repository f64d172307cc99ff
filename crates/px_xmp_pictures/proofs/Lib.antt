pub mod AnswerLaws
pub mod AskLaws
pub mod PartLaws
pub mod CutLaws
pub mod OrderLaws
pub mod PointerLaws
pub mod JoinedLaws
pub mod LeftLaws
