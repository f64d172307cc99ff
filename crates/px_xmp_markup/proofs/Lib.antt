pub mod StackLaws
pub mod NestingLaws
pub mod KindLaws
pub mod TreeFaultLaws
pub mod AttributeLaws
pub mod NameLaws
