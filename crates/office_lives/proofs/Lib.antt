mod LifeLemmas
mod StreamLemmas
mod TurnLemmas
