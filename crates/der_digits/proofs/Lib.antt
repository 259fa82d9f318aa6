mod Pairs
mod Spelled
