pub mod Decimal
pub mod Text
pub mod Told
pub mod Numbers
pub mod Printing
