pub mod Forms
pub mod Accesses
pub mod Asked
pub mod Names
pub mod Numbers
pub mod Sound
pub mod Text
