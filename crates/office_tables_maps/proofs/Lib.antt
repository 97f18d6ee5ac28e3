mod TreeRows
mod UnderLemmas
mod WalkLemmas
