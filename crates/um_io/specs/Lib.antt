pub mod Bytes
pub mod Calls
pub mod Causes
pub mod InMemory
pub mod Room
