pub mod History
pub mod Cells
pub mod Tells
pub mod Calls
pub mod Lives
