mod LineLemmas
mod PieceLemmas
mod Reading
mod TableLemmas
