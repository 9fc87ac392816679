pub mod PlainLemmas
pub mod SituationLemmas
pub mod WalkLemmas
