-- Laws of the token reader, over plain lists and numbers.
pub mod RunLaws
pub mod NumberParts
pub mod StepLaws
pub mod WhatLaws
pub mod PieceLaws
pub mod NumberLaws
pub mod Unroll
pub mod KindLaws
pub mod ClassLaws
pub mod HereLaws
pub mod HeadLaws
pub mod PackedLaws
