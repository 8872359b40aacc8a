pub mod MarkedBytes
