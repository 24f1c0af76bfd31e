-- Worked examples of the definitions, computed. Nothing here need be believed.
pub mod Examples
pub mod ExamplesStops
pub mod ExamplesText
pub mod ExamplesSizes
