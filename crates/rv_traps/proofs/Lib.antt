pub mod MaskLemmas
pub mod CsrLemmas
