pub mod FloatLemmas
pub mod ValueLemmas
