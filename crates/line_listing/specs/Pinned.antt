-- What a theorem of proofs/ pins.
pub mod Pieces
pub mod Listing
