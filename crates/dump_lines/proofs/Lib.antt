mod Shown
mod Documents
mod Rules
