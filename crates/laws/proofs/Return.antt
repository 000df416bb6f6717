-- Module 9: a return, the pops of its cleanup, and what both keep.
pub mod Uncleaned
pub mod Pop
pub mod StepBack
pub mod Clean
pub mod Keep
