mod AnswerLemmas
pub mod HandleValues
