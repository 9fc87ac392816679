pub mod Common
mod Beginning
mod Blocks
mod Masking
mod Numbers
