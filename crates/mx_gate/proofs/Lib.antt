mod DialLemmas
mod FirstLemmas
mod LawProofs
mod ReadyLemmas
