mod EntryTrees
mod Steps
mod Iterated
