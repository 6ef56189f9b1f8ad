-- Laws of the text's fields and numbers, and of the lines.
pub mod TextLaws
pub mod LineLaws
