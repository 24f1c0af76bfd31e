pub mod SoundLaws
