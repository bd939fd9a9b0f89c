-- A seat that splits another off and joins it again has as many seats out as before.
pub mod Again
