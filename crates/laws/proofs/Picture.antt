-- Pictures (T-07): the lines of a drawing, and how long a picture can be; its used rectangles, what holds of every rectangle, and its text cut into lines.
pub mod Lines
pub mod Most
pub mod Used
pub mod Every
pub mod Cut
