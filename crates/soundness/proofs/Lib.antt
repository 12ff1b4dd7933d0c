-- A table that is fine, linked and apart is sound.
--   FaceRows          faces by their vertices
--   Places            the keys of places
--   Mating            two places with one face meet
--   Certifying        so its cells are a solid
--   Certified         and its words are those of their table
--   Filled            a list written from its start on
--   Weighing          weights and hashes
--   Coding            codes
--   KnownKeys         what is known of the keys
--   Chaining          numbers chained by buckets
--   Linked            keys that are all first or second are linked and apart
--   Passing           one more key passed
--   Telling           what the tests tell
pub mod FaceRows
pub mod Places
pub mod Mating
pub mod Certifying
pub mod Certified
pub mod Filled
pub mod Weighing
pub mod Coding
pub mod KnownKeys
pub mod Chaining
pub mod Linked
pub mod Passing
pub mod Telling
