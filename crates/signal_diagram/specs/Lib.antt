pub mod Lane
pub mod Chart
pub mod Shapes
pub mod Picture
