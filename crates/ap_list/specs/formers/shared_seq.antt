pub mod SharedSeq
