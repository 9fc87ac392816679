pub mod KeyTokens
pub mod Keys
pub mod Table
pub mod TokenPlaces
