-- Lowercase hexadecimal: digits and what they stand for; what the scans of the code have passed. Decimal.
pub mod Digits
pub mod Scan
pub mod Written
pub mod Decimal
