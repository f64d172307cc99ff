pub mod Judged
pub mod Ended
pub mod Compared
pub mod Reported
pub mod Printed
pub mod Space
pub mod Asked
pub mod Puts
