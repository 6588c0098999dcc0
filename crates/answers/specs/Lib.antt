-- Answers: the answer that the code holds, as the model has it. Spaces: answers written into an answer space. Nothing here is proved: the laws stand in
-- proofs/.
pub mod Answers
pub mod Spaces
