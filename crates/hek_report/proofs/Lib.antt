mod WholeText
pub mod SentLemmas
