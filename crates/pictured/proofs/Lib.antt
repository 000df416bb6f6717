-- What a picture shows of sound tables: the used rectangles, where the rectangles lie, and the lines of the text; two small pictures computed.
pub mod Used
pub mod Lying
pub mod Lines
pub mod Worked
