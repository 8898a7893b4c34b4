mod Outputs
mod Puts
mod WordTexts
