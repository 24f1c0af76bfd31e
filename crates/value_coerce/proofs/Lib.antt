-- Laws of the definitions.
pub mod ValueLaws
pub mod ListLaws
pub mod ObjectLaws
pub mod KeptLaws
pub mod ArgumentLaws
