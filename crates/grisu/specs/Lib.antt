pub mod Grisu
