-- What the proofs of several functions cite.
pub mod Fresh
pub mod Lists
pub mod SitesAre
