pub mod RoundTrip
pub mod Asking
pub mod calls
