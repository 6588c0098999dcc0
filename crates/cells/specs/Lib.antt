-- Cells: the bytes of a row, the rows of a word, and what the walks over them make. Places: the places of a mask in turn. Nothing here is proved: the laws stand in proofs/.
pub mod Cells
pub mod Places
