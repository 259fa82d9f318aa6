mod Growing
mod Meant
mod Readers
mod Texts
