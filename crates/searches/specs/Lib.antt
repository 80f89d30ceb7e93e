pub mod Observing
