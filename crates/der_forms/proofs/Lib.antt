mod Decoded
mod Numbers
mod ReadBack
mod Symbols
mod Utf8
