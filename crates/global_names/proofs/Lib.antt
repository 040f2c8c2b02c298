mod NamesLemmas
mod Worked
