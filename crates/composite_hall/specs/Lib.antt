pub mod OverHall
