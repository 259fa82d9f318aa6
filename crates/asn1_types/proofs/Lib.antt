mod ListTrees
mod Encodings
