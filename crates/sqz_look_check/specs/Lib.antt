pub mod Warned
