pub mod Firsts
pub mod Space
