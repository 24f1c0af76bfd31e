-- Laws of bytes and characters, over plain lists and numbers.
pub mod ByteLaws
pub mod CharacterLaws
