pub mod Examples
pub mod Files
pub mod Rules
pub mod StepTexts
pub mod Steps
pub mod Tables
pub mod code
