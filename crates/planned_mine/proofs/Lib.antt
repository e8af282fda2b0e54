pub mod TextsBeside
pub mod TextsFailing
pub mod Expanding
pub mod FiguredWays
