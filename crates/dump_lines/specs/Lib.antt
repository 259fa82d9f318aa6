pub mod Dump
pub mod Steps
