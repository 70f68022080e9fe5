pub mod PlacesAbove
pub mod PlacesUnder
pub mod FirstPlace
pub mod Given
