-- Laws of the digits.
pub mod EachByte
