pub mod Numbers
pub mod Decimals
mod WrittenDigits
pub mod GrowingTexts
mod NamedNumbers
