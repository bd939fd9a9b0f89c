pub mod Accesses
pub mod Given
pub mod Subjects
pub mod Padded
