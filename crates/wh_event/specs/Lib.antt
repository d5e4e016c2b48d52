pub mod CommandLines
pub mod Reading
pub mod Grammar
pub mod ReplyTexts
pub mod Fronts
