-- Definitions for the contracts of single calls. The definitions of plans and layouts are in px_layout.
pub mod Keyed
pub mod Kept
pub mod Counted
pub mod Planned
pub mod PlanningNormal
pub mod Judging
pub mod Layouts
pub mod Building
pub mod AskedAndPaid
