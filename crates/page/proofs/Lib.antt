-- Laws of the program's calls, and of the text that it prints.
pub mod Staged
pub mod Printed
pub mod Examples
