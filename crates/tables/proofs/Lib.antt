-- Laws of cells held in memory.
--   Spots Repeats Twins                       rows that stand twice or three times
--   FaceKeys Mates Winged                     faces as keys, and the wings that pairing them leaves
--   Seeing Adjacent Faults                    rows 9 to 11 and wings, as the code finds them
--   Reading Stored SortedTests Refusing       cells read and sorted; rows 6 to 8
--   Filling TableWords                        the words of the table
--   Taking SoundCases Tabling                 what was taken from a list, and the cases of soundness and of writing a table
pub mod Adjacent
pub mod FaceKeys
pub mod Faults
pub mod Filling
pub mod Mates
pub mod Reading
pub mod Refusing
pub mod Repeats
pub mod Seeing
pub mod SortedTests
pub mod SoundCases
pub mod Spots
pub mod Stored
pub mod TableWords
pub mod Taking
pub mod Twins
pub mod Winged
pub mod Tabling
pub mod Examples
