-- Lists, by their indexes and members.
pub mod EachDir
pub mod At
pub mod Listed
