-- What an answer shows. Nothing here is proved: the laws stand in proofs/.
pub mod Shows
