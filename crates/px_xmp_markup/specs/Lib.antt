pub mod Kinds
pub mod Nesting
pub mod TreeFaults
pub mod Distinct
pub mod AttributeFaults
pub mod Laws
pub mod calls
