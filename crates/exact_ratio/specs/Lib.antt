pub mod Values
pub mod Lowest
pub mod Decimal
pub mod Fractions
pub mod Form
