-- What the definitions come to: the trials and histories with every call, computed.
pub mod examples
-- When a format is done.
pub mod FormatDoneHolds
