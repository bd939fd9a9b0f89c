pub mod Awaits
pub mod Left
pub mod Preview
pub mod Sides
pub mod Told
