pub mod Tops
pub mod Records
pub mod Filling
