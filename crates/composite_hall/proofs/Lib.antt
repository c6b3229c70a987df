pub mod ByPass
