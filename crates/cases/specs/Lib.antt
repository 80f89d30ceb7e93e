pub mod Table
pub mod Further
pub mod SixtyFour
