pub mod Krawtchouk
pub mod Hamming
