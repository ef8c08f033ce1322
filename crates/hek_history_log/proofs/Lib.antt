mod JsonLemmas
mod KeptLemmas
mod NameLemmas
mod ReadLemmas
mod ByKeyLemmas
mod FieldLemmas
mod DocumentLemmas
mod LineLemmas
