-- Laws of the header's numbers.
pub mod Numbers
