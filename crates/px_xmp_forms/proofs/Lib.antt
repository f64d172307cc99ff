pub mod FormLaws
pub mod EntryLaws
pub mod ElementLaws
pub mod OutputLaws
pub mod BlankLaws
pub mod EndLaws
pub mod LanguageLaws
pub mod UriLaws
