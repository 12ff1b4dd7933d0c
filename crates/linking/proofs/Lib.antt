-- Wings made by pairing faces in one pass.
--   WingSet           a wing put into a table
--   Passing           one more key passed, or paired
--   Linkables         one more key put into its bucket
--   Made              when all are passed the table is that of the list
pub mod WingSet
pub mod Passing
pub mod Linkables
pub mod Made
