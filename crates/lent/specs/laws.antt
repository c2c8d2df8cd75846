-- The words of the inner calls' contracts; what is proved of them stands in proofs/laws/.
pub mod Running
