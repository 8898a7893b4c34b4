pub mod KrawtchoukSteps
pub mod Quotients
