pub mod Laying
pub mod Digits
pub mod Figures
