-- The laws of the definitions, in reading order, a folder for each layer.

-- Bytes, tags, the log's header and groups, the homes: laws of the specs Bytes, Tag and Layout.
pub mod bytes
-- What a call is lent: batches, the state strip, question 2, the questions and their answers.
pub mod state
-- The commit rule in the forms that the code's loops take: by the last closing entry, by counts, by newest entries.
pub mod rule
-- Which writes persist at a crash; what has been logged, as a ghost history; what the commit rule finds in what persisted: the longest prefix of its commits.
pub mod trace
