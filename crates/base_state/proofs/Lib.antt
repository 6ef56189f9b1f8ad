pub mod PromiseSums
