mod Counting
mod Keeping
mod Written
