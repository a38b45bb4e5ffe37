pub mod AcceptLemmas
