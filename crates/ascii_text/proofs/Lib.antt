pub mod CutLemmas
pub mod DecimalLemmas
pub mod HexadecimalLemmas
pub mod ValueLemmas
pub mod WritingLemmas
