-- Results: the number and the space of a run, which the calls' contracts cite. Runs: a list on its way. Nothing here is proved: the laws stand in
-- proofs/.
pub mod Results
pub mod Runs
