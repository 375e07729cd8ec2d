pub mod Tables
pub mod BitLaws
pub mod StateLaws
pub mod StepLaws
