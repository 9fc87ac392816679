pub mod Common
pub mod ConvertingLemmas
pub mod InputLemmas
pub mod OutputLemmas
pub mod PrefixLemmas
pub mod PrintedWordLemmas
pub mod TracedLinesLemmas
