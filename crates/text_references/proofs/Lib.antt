pub mod CountsLaws
pub mod MovedLaws
pub mod BangLaws
pub mod CloseLaws
pub mod OpenLaws
pub mod BaseLaws
pub mod TypeLaws
