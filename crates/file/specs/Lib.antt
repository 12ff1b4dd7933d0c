-- Files of solids, byte by byte, and each test of a file by itself.
pub mod File
pub mod Tests
pub mod Inner
