pub mod OneWordLemmas
pub mod DecodeLemmas
pub mod MaskLemmas
pub mod RowLemmas
pub mod EncodeLemmas
pub mod SignLemmas
pub mod RangeLemmas
pub mod FieldLemmas
