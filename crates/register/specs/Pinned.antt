-- What a theorem pins: it need not be believed. Definitions only.
pub mod Opens
