mod Examples
pub mod reading
pub mod writing
