pub mod EffectLemmas
